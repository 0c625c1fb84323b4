-- A section of a sheet, counted and written line by line.
use Rattle.std.specs.Prelude.{◌≡◌, List, ◌∷◌, ℕ, ◌+◌, ◌*◌, ◌≤◌, length}
use Rattle.definition.specs.Layout.{count, variables}
use Rattle.definition.specs.Lines.{variable_line, completed_line}
use Rattle.definition.specs.Sheet.{lines_from}
use Rattle.sheet_parts.specs.declared.variables.Both.{Both}
use Rattle.laws.specs.Puts.{Puts}
use Rattle.sheet_parts.specs.Resolved.{ranked_line}

-- the count and so many lines
unfoldable pub section_of : (ℕ → List ℕ) → ℕ → List ℕ
section_of line many = many ∷ lines_from line 0 many

-- how long a line is, and a section of so many
pub record LineLong (line : ℕ → List ℕ) (i r : ℕ) : Type 0 where
  pub is : r ≡ length (line i)
  pub most : r ≤ 12291

pub record SectionLong (line : ℕ → List ℕ) (many r : ℕ) : Type 0 where
  pub is : r ≡ length (section_of line many)
  pub most : r ≤ many * 12291 + 1

-- of types, whatever their ranks
pub record TypesLong (f : List ℕ) (many r : ℕ) : Type 0 where
  pub is : (rank : ℕ → ℕ) → r ≡ length (section_of (ranked_line f rank) many)
  pub most : r ≤ many * 12291 + 1

-- there is room for a section at a place of so many words
pub record SectionRoom (line : ℕ → List ℕ) (many at out : ℕ) : Type 0 where
  pub room : at + length (section_of line many) ≤ out

-- the first i lines of a section are written behind a place
pub record Writing (line : ℕ → List ℕ) (many : ℕ) (old : List ℕ) (at i end : ℕ) (out : List ℕ) : Type 0 where
  pub puts : Puts (lines_from line 0 i) old at end out
  pub room : at + length (lines_from line 0 many) ≤ length old

-- ---- variables, whose two sections are counted and written side by side
-- the words of the lines of a variable, and of both sections
pub record LinesLong (f : List ℕ) (v : ℕ) (r : Both) : Type 0 where
  pub value : LineLong (variable_line f) v r.value
  pub completed : LineLong (completed_line f) v r.completed

pub record SectionsLong (f : List ℕ) (many : ℕ) (r : Both) : Type 0 where
  pub value : SectionLong (variable_line f) many r.value
  pub completed : SectionLong (completed_line f) many r.completed

-- words are put at two places
pub record PutsBoth (vs ws old : List ℕ) (at r : Both) (new : List ℕ) : Type 0 where
  pub mid : List ℕ
  pub value : Puts vs old at.value r.value mid
  pub completed : Puts ws mid at.completed r.completed new

-- there is room for them
pub record BothRoom (vs ws : List ℕ) (at : Both) (out : ℕ) : Type 0 where
  pub apart : at.value + length vs ≤ at.completed
  pub room : at.completed + length ws ≤ out

-- the lines of the first v variables are written behind two places
pub record WritingBoth (f old : List ℕ) (at : Both) (v : ℕ) (ends : Both) (out : List ℕ) : Type 0 where
  pub puts : PutsBoth (lines_from (variable_line f) 0 v) (lines_from (completed_line f) 0 v) old at ends out
  pub room : BothRoom (lines_from (variable_line f) 0 (count f variables)) (lines_from (completed_line f) 0 (count f variables)) at (length old)

-- there is room for both sections, one right behind the other
pub record SectionsRoom (f : List ℕ) (at : Both) (out : ℕ) : Type 0 where
  pub next : at.value + length (section_of (variable_line f) (count f variables)) ≡ at.completed
  pub room : at.completed + length (section_of (completed_line f) (count f variables)) ≤ out
