-- Heads and lines that are there: what is known of a sheet's words once they were read.
use Rattle.std.specs.Prelude.{◌≡◌, Bool, true, false, List, ℕ, ◌+◌, ◌-◌, ◌*◌, ◌≤◌, length, get_or}
use Rattle.tree.specs.Part.{on_end}
use Rattle.sheet_lines.specs.declared.ends.Form.{Form}
use Rattle.sheet_lines.specs.Ends.{head_words, line_end, lines_end}
use Rattle.std.specs.Prelude.{Option}

abbrev pub is_end : Option ℕ → Bool
is_end x = on_end x (λ e. true) false

-- a head lies from one place to another
pub record HeadThere (form : Form) (s : List ℕ) (at from : ℕ) : Type 0 where
  pub is : from ≡ at + head_words form
  pub within : from ≤ length s

-- a line is at a place
pub record LineThere (form : Form) (s : List ℕ) (at : ℕ) : Type 0 where
  pub there : is_end (line_end form s at) ≡ true

-- so many lines are, one behind the other
pub record LinesThere (form : Form) (s : List ℕ) (n at : ℕ) : Type 0 where
  pub there : is_end (lines_end form s n at) ≡ true

-- as many nodes as the word before them says
pub record NodesThere (s : List ℕ) (from : ℕ) : Type 0 where
  pub headed : 1 ≤ from
  pub within : from + get_or s (from - 1) 0 * 6 ≤ length s
