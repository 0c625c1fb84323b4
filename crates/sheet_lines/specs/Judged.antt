-- What the check compares (refusal 13): each line with what the file and the sheet's own type lines give. That these tests are the definition's `lines_right` is
-- proved in proofs/Judging.antt.
use Rattle.std.specs.Prelude.{Bool, ◌&&◌, List, ℕ, suc, ◌+◌}
use Rattle.std.proofs.Math.Seq.{slice}
use Rattle.definition.specs.Base.{every}
use Rattle.definition.specs.Layout.{count, types, variables}
use Rattle.definition.specs.Starting.{body, declaration}
use Rattle.definition.specs.Peek.{look}
use Rattle.definition.specs.Complete.{completion}
use Rattle.definition.specs.Lines.{outcome_words, completed_words}
use Rattle.definition.specs.Sheet.{same_words}
use Rattle.sheet_lines.specs.declared.ends.Form.TheVariants.{Types, Variables, Completed}
use Rattle.sheet_lines.specs.Ends.{line_at}
use Rattle.sheet_lines.specs.Said.{said_by}
use Rattle.sheet_lines.specs.Small.{small_at}

-- ---- a line from its place to its end: a type's behind its rank
unfoldable pub type_at : List ℕ → List ℕ → ℕ → ℕ → ℕ → Bool
type_at f s t at end = same_words (slice (at + 1) end s) (outcome_words (look (said_by s) (body f t)))

unfoldable pub variable_at : List ℕ → List ℕ → ℕ → ℕ → ℕ → Bool
variable_at f s u at end = same_words (slice at end s) (outcome_words (look (said_by s) (declaration f u)))

unfoldable pub completed_at : List ℕ → List ℕ → ℕ → ℕ → ℕ → Bool
completed_at f s u at end = same_words (slice at end s) (completed_words (completion f u (look (said_by s) (declaration f u))))

-- ---- by its number; the counts of the second and the third section stand at v and c
unfoldable pub type_same : List ℕ → List ℕ → ℕ → Bool
type_same f s t = type_at f s t (line_at Types s 1 t) (line_at Types s 1 (suc t))

unfoldable pub variable_same : List ℕ → List ℕ → ℕ → ℕ → Bool
variable_same f s v u = variable_at f s u (line_at Variables s (v + 1) u) (line_at Variables s (v + 1) (suc u))

unfoldable pub completed_same : List ℕ → List ℕ → ℕ → ℕ → Bool
completed_same f s c u = completed_at f s u (line_at Completed s (c + 1) u) (line_at Completed s (c + 1) (suc u))

-- ---- all lines
unfoldable pub types_right : List ℕ → List ℕ → Bool
types_right f s = every (type_same f s) (count f types)

unfoldable pub variables_right : List ℕ → List ℕ → ℕ → ℕ → Bool
variables_right f s v c = every (variable_same f s v) (count f variables) && every (completed_same f s c) (count f variables)

unfoldable pub judged : List ℕ → List ℕ → ℕ → ℕ → Bool
judged f s v c = every (small_at s) (count f types) && types_right f s && variables_right f s v c
