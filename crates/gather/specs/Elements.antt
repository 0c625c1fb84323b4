-- The defaults of an array's elements: an array in the room, whose values are moved to where its head was.
use Rattle.std.specs.Prelude.{◌≡◌, List, ℕ, ◌+◌, ◌*◌, ◌≤◌, length, take}
use Rattle.definition.specs.declared.records.Place.{Place}
use Rattle.definition.specs.Tree.{Trees}
use Rattle.definition.specs.Ask.{Result, ok, Ask}
use Rattle.definition.specs.Parts.{element_defaults}
use Rattle.definition.specs.Starting.{default_of}
use Rattle.definition.specs.Resolve.{Memo}
use Rattle.definition.specs.Peek.{got, peek}
use Rattle.laws.specs.Gathers.{Gathered}
use Rattle.build.specs.Built.{Built, Gives, Memory}
use Rattle.build.specs.Parts.{array_words, WholeAt}
use Rattle.gather.specs.Answers.{Listing, Lists, Filled}
use Rattle.std.specs.Prelude.{Ok}
use Rattle.gather.specs.Room.{shapes_deep, whole}

-- the defaults of an array's elements
pub record ElementDefaults (f known store : List ℕ) (place : Place) (old : List ℕ) (at : ℕ) (r : Listing) (new : List ℕ) : Type 0 where
  pub says : (M : Memo) → Memory f known store M → at + (12282 + 24576 * shapes_deep f) ≤ length old → Filled M (element_defaults f (default_of f) place) whole old at r new
