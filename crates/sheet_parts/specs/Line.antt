-- The words of a line, and what a line is of an outcome.
use Rattle.std.specs.Prelude.{◌≡◌, List, ◌∷◌, ℕ, ◌+◌, ◌*◌, ◌/◌, ◌≤◌, length, Ok, Err}
use Rattle.std.proofs.Math.Seq.{slice}
use Rattle.lines.specs.Look.{Remembered, state_word}
use Rattle.build.specs.Absent.{absent_of}
use Rattle.build.specs.Built.{Built}
use Rattle.sheet_parts.specs.declared.line.Line.{Line}
use Rattle.std.specs.Prelude.{Ok, Err}

-- state, count and nodes, which lie in another slice
unfoldable pub value_in : Line → List ℕ → List ℕ
value_in line from = line.state ∷ line.nodes ∷ slice line.at (line.at + line.nodes * 6) from

unfoldable pub line_in : Line → List ℕ → List ℕ
line_in line from = line.first ∷ value_in line from

-- a tree of a size that a default has, within so many words
pub record Within (line : Line) (from : ℕ) : Type 0 where
  pub source : line.at + line.nodes * 6 ≤ from
  pub few : line.nodes ≤ 2048

-- and there is room for state, count and nodes at a place of so many words
pub record LineFits (line : Line) (from at out : ℕ) : Type 0 where
  pub within : Within line from
  pub target : at + 2 + line.nodes * 6 ≤ out

-- a line without its first word, and a whole line
pub record ValueLies (ws : List ℕ) (line : Line) (from : List ℕ) : Type 0 where
  pub is : value_in line from ≡ ws
  pub within : Within line (length from)

pub record LineLies (ws : List ℕ) (line : Line) (from : List ℕ) : Type 0 where
  pub is : line_in line from ≡ ws
  pub within : Within line (length from)

abbrev pub line_of : ℕ → ℕ → ℕ → ℕ → Line
line_of first state nodes at = record { first = first; state = state; nodes = nodes; at = at }

abbrev pub empty_line : ℕ → ℕ → Line
empty_line first state = line_of first state 0 0

abbrev pub remembered_line : ℕ → Remembered → Line
remembered_line rank (Ok tree) = line_of rank 0 tree.nodes tree.at
remembered_line rank (Err absent) = empty_line rank (state_word absent)

abbrev pub built_line : Built → Line
built_line (Ok e) = line_of 0 0 (e / 6) 0
built_line (Err unbuilt) = empty_line 0 (state_word (absent_of unbuilt))
