-- What is known of a sheet before its lines are compared.
use Rattle.std.specs.Prelude.{◌≡◌, true, List, ℕ, ◌≤◌, length, Some, Result, Ok, Err}
use Rattle.definition.specs.declared.answers.Refusal.{Refusal}
use Rattle.definition.specs.Answers.{number_of}
use Rattle.definition.specs.Base.{every}
use Rattle.definition.specs.Layout.{count, types}
use Rattle.definition.specs.Sheet.{ranks_rise, check_answer}
use Rattle.records.specs.Tables.{Filled}
use Rattle.sheet_lines.specs.declared.ends.Form.TheVariants.{Types}
use Rattle.sheet_lines.specs.declared.find.Lines.{Lines}
use Rattle.sheet_lines.specs.Found.{found_of}
use Rattle.sheet_lines.specs.Index.{most_places, place_of}
use Rattle.sheet_lines.specs.Read.{sheet_at}
use Rattle.sheet_lines.specs.Small.{small_at}
use Rattle.sheet_lines.specs.There.{LinesThere}

-- the type lines are there, as many as the file has types, and so many words of an index hold a word for each
pub record Lined (f s : List ℕ) (many index : ℕ) : Type 0 where
  pub all : many ≡ count f types
  pub there : LinesThere Types s many 1
  pub room : many ≤ index

-- neither 11 nor 12 is met, every type line's tree is small, and the index leads to each type's line
pub record Comparable (f s : List ℕ) (x : Lines) (index : List ℕ) : Type 0 where
  pub found : found_of f s ≡ Some x
  pub rises : ranks_rise f (sheet_at f s x.variables x.completed) ≡ true
  pub small : every (small_at s) (count f types) ≡ true
  pub short : length s ≤ most_places
  pub lent : List ℕ
  pub filled : Filled (place_of s) (count f types) lent index

-- a refusal is the check's answer
abbrev pub TestsTo : List ℕ → List ℕ → Result Lines Refusal → List ℕ → Type 0
TestsTo f s (Err r) index = check_answer f s ≡ number_of r
TestsTo f s (Ok x) index = Comparable f s x index

pub record Tests (f s : List ℕ) (r : Result Lines Refusal) (index : List ℕ) : Type 0 where
  pub says : TestsTo f s r index
