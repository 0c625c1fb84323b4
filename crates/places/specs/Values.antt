-- What a scalar's default needs of the file besides a subrange's bounds. Assumes nothing.
use Rattle.std.specs.Prelude.{◌≡◌, List, ℕ, ◌+◌}
use Rattle.definition.specs.declared.records.Shape.{Shape}
use Rattle.definition.specs.declared.records.Shape.TheVariants as shape
use Rattle.definition.specs.Layout.{word, members}

-- only an enumeration has a default member; any name does for another shape
pub record DefaultName (f : List ℕ) (s : Shape) (member : ℕ) : Type 0 where
  pub of_enumeration : (first count default underlying : ℕ) → s ≡ shape.Enumeration first count default underlying → member ≡ word f members (first + default) 0
