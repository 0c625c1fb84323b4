-- What `wirkesu_convert` answers: the node that a constant of a file gives a place of one of its shapes, or none, or a refusal. It has no work words.
use Rattle.std.specs.Prelude.{Bool, ◌&&◌, List, ℕ, ◌<◌, ltb}
use Rattle.definition.specs.Layout.{count, shapes, constants}
use Rattle.definition.specs.Records.{shape_at, constant_at}
use Rattle.definition.specs.Accept.{need}
use Rattle.definition.specs.Ask.{Outcome}
use Rattle.definition.specs.Scalar.{constant_value}
use Rattle.definition.specs.Answers.{Says, refuses, answered, after_file, tree_answer, tree_out}
use Rattle.laws.specs.Accepted.{Accepted}

-- whether both numbers are a record's
unfoldable pub there : List ℕ → ℕ → ℕ → Bool
there f shape constant = ltb shape (count f shapes) && ltb constant (count f constants)

-- refusals 1 to 7
unfoldable pub convert_refused : List ℕ → ℕ → ℕ → ℕ
convert_refused f shape constant = after_file f λ u. need (there f shape constant) 7 λ v. 0

-- so both are records of an accepted file
pub record Both (f : List ℕ) (shape constant : ℕ) : Type 0 where
  pub accepted : Accepted f
  pub shape_there : shape < count f shapes
  pub constant_there : constant < count f constants

unfoldable pub value_at : List ℕ → ℕ → ℕ → Outcome
value_at f shape constant = constant_value f (shape_at f shape) (constant_at f constant)

unfoldable pub convert_answer : List ℕ → ℕ → ℕ → ℕ → Says
convert_answer f shape constant out = answered (convert_refused f shape constant) refuses (λ u. tree_answer (value_at f shape constant) out)

unfoldable pub convert_out : List ℕ → ℕ → ℕ → List ℕ → List ℕ
convert_out f shape constant out = answered (convert_refused f shape constant) (λ n. out) (λ u. tree_out (value_at f shape constant) out)
