-- Every line's tree has at most 2,048 nodes and is one whole tree, in any file. Assumes nothing.
use Rattle.std.specs.Prelude.{List, ℕ}
use Rattle.definition.specs.Starting.{type_outcome, variable_outcome}
use Rattle.laws.specs.Asks.{OnOk}
use Rattle.laws.specs.Outcomes.{outcome-held, variable-held}
use Rattle.laws.specs.Values.{Small}
use Rattle.laws.specs.Falling.{any-body, any-declaration}

pub type-small : (f : List ℕ) (t : ℕ) → OnOk Small (type_outcome f t)
type-small f t = outcome-held f (λ d o. OnOk Small o) (λ d. tt) (λ d l. any-body f d) t

pub variable-small : (f : List ℕ) (v : ℕ) → OnOk Small (variable_outcome f v)
variable-small f v = variable-held f (λ d o. OnOk Small o) (λ d. tt) (λ d l. any-body f d) (OnOk Small) v (any-declaration f v)
