-- The fixed words of each line of a sheet (document 01, the start sheet), a type's without its rank.
use Rattle.std.specs.Prelude.{List, [], ◌∷◌, ℕ}
use Rattle.definition.specs.Tree.{nodes, flatten}
use Rattle.definition.specs.Ask.{ok, none, large, Outcome}
use Rattle.definition.specs.Starting.{type_outcome, variable_outcome}
use Rattle.definition.specs.Complete.{Completed, completed, left, completion}

-- state 0, count and tree; 1 for none and 2 for too large, with count 0
unfoldable pub outcome_words : Outcome → List ℕ
outcome_words (ok t) = 0 ∷ nodes t ∷ flatten t
outcome_words none = 1 ∷ 0 ∷ []
outcome_words large = 2 ∷ 0 ∷ []

-- 0, kind, count and nodes; 1 and two zeros for one that is left
unfoldable pub completed_words : Completed → List ℕ
completed_words (completed i t) = 0 ∷ i ∷ nodes t ∷ flatten t
completed_words left = 1 ∷ 0 ∷ 0 ∷ []

unfoldable pub type_line : List ℕ → ℕ → List ℕ
type_line f t = outcome_words (type_outcome f t)

unfoldable pub variable_line : List ℕ → ℕ → List ℕ
variable_line f v = outcome_words (variable_outcome f v)

unfoldable pub completed_line : List ℕ → ℕ → List ℕ
completed_line f v = completed_words (completion f v (variable_outcome f v))

-- what this file computes with
unfoldable pub opened : Unit {0}
unfolding outcome_words completed_words type_line variable_line completed_line
opened = tt
