-- What a computation gives after the types that it asks for are resolved, in a store with room for every line.
use Rattle.std.specs.Prelude.{List, ℕ, ◌≤◌}
use Rattle.definition.specs.Tree.{flatten}
use Rattle.definition.specs.Layout.{types, variables}
use Rattle.definition.specs.Ask.{Outcome, Ask, type_default}
use Rattle.definition.specs.Starting.{declaration, type_outcome, variable_outcome}
use Rattle.definition.specs.Resolve.{Memo}
use Rattle.definition.specs.Peek.{got}
use Rattle.definition.specs.Answers.{line_words}
use Rattle.build.specs.Built.{Built}
use Rattle.build.specs.Built.{Gives}
use Rattle.driver.specs.declared.told.Owner.{Owner}
use Rattle.driver.specs.declared.told.Owner.TheVariants as owner
use Rattle.driver.specs.Driver.{Holding, ran}

-- a store of so many words has room for a line of every type
pub record Ample (f : List ℕ) (words : ℕ) : Type 0 where
  pub lines : line_words f ≤ words

-- where a type's or a variable's record stands, and what is asked of it
abbrev pub section_in : Owner → ℕ
section_in (owner.Type t) = types
section_in (owner.Variable v) = variables

abbrev pub number_in : Owner → ℕ
number_in (owner.Type t) = t
number_in (owner.Variable v) = v

abbrev pub ask_in : List ℕ → Owner → Ask Outcome
ask_in f (owner.Type t) = type_default t
ask_in f (owner.Variable v) = declaration f v

abbrev pub outcome_in : List ℕ → Owner → Outcome
outcome_in f (owner.Type t) = type_outcome f t
outcome_in f (owner.Variable v) = variable_outcome f v

-- an outcome is answered, with its tree at the front of the room
pub record Tells (o : Outcome) (r : Built) (room : List ℕ) : Type 0 where
  pub gives : Gives flatten (got o) 0 r room

pub record TellsOf (f : List ℕ) (m : Ask Outcome) (index store : List ℕ) (end : ℕ) (r : Built) (room : List ℕ) : Type 0 where
  pub gives : (M : Memo) → Holding f index store end M → Tells (ran f M m).value r room
