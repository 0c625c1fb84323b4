-- What a place, a type and a variable start with in a file: the rules of Defaults.antt and Resolve.antt, where a constant is converted and a shape starts as Scalar.antt says.
use Rattle.std.specs.Prelude.{List, ℕ}
use Rattle.definition.specs.declared.records.Declaration.{Declaration}
use Rattle.definition.specs.declared.records.Initializer.{Initializer}
use Rattle.definition.specs.declared.records.Place.{Place}
use Rattle.definition.specs.Syntax.{Init, Inits}
use Rattle.definition.specs.Tree.{Tree, Trees}
use Rattle.definition.specs.Ask.{Result, Outcome, Ask}
use Rattle.definition.specs.Scalar.{constant_value, built_in}
use Rattle.definition.specs.Parts.{Starts, Fills}
use Rattle.definition.specs.Defaults as Defaults
use Rattle.definition.specs.Defaults.{Leaves}
use Rattle.definition.specs.Resolve as Resolve
use Rattle.definition.specs.Resolve.{Memo}

abbrev pub leaves : List ℕ → Leaves
leaves f = record { constant = constant_value f; built_in = built_in f }

abbrev pub implicit_by : List ℕ → Starts → Starts
implicit_by f = Defaults.implicit_by (leaves f) f

abbrev pub implicit_up_to : List ℕ → ℕ → Starts
implicit_up_to f = Defaults.implicit_up_to (leaves f) f

abbrev pub implicit : List ℕ → Starts
implicit f = Defaults.implicit (leaves f) f

abbrev pub default_of : List ℕ → Starts
default_of f = Defaults.default_of (leaves f) f

abbrev pub expand : List ℕ → Init → Fills
expand f = Defaults.expand (leaves f) f

abbrev pub expand_all : List ℕ → Inits → Fills
expand_all f = Defaults.expand_all (leaves f) f

abbrev pub members : List ℕ → Inits → Place → Trees → Ask Outcome
members f = Defaults.members (leaves f) f

abbrev pub member : List ℕ → Init → Place → Tree → Ask Outcome
member f = Defaults.member (leaves f) f

abbrev pub applied : List ℕ → Place → Inits → Tree → Ask Outcome
applied f = Defaults.applied (leaves f) f

abbrev pub array_of : List ℕ → Place → ℕ → ℕ → Ask Outcome
array_of f = Defaults.array_of (leaves f) f

abbrev pub constant_as : List ℕ → Place → ℕ → Ask Outcome
constant_as f = Defaults.constant_as (leaves f) f

abbrev pub initializer_by : List ℕ → Place → Initializer → Ask Outcome
initializer_by f = Defaults.initializer_by (leaves f) f

abbrev pub initializer : List ℕ → ℕ → Place → Ask Outcome
initializer f = Defaults.initializer (leaves f) f

abbrev pub declaration : List ℕ → ℕ → Ask Outcome
declaration f = Defaults.declaration (leaves f) f

abbrev pub spec_default : List ℕ → Place → ℕ → Ask Outcome
spec_default f = Defaults.spec_default (leaves f) f

abbrev pub alias_default_by : List ℕ → Place → ℕ → Initializer → Ask Outcome
alias_default_by f = Defaults.alias_default_by (leaves f) f

abbrev pub over_base : List ℕ → Place → ℕ → Outcome → Ask Outcome
over_base f = Defaults.over_base (leaves f) f

abbrev pub subrange_default : List ℕ → Place → ℕ → ℕ → Ask Outcome
subrange_default f = Defaults.subrange_default (leaves f) f

abbrev pub elements_from : List ℕ → Place → ℕ → ℕ → ℕ → ℕ → Ask (Result Trees)
elements_from f = Defaults.elements_from (leaves f) f

abbrev pub variable_field : List ℕ → ℕ → ℕ → Ask (Result Trees)
variable_field f = Defaults.variable_field (leaves f) f

abbrev pub instance_from : List ℕ → ℕ → ℕ → ℕ → ℕ → Ask (Result Trees)
instance_from f = Defaults.instance_from (leaves f) f

abbrev pub body_by : List ℕ → ℕ → Place → Declaration → Ask Outcome
body_by f = Defaults.body_by (leaves f) f

abbrev pub body : List ℕ → ℕ → Ask Outcome
body f = Defaults.body (leaves f) f

abbrev pub remembered : List ℕ → Memo
remembered f = Resolve.remembered (leaves f) f

abbrev pub answer : {A : Type 0} → List ℕ → Ask A → A
answer f = Resolve.answer (leaves f) f

abbrev pub type_outcome : List ℕ → ℕ → Outcome
type_outcome f = Resolve.type_outcome (leaves f) f

abbrev pub variable_outcome : List ℕ → ℕ → Outcome
variable_outcome f = Resolve.variable_outcome (leaves f) f
