-- Built-in defaults without the file: a subrange's lower constant, the name of an enumeration's default member and the default string length come as arguments.
-- Assumes nothing.
use Rattle.std.specs.Prelude.{◌≡◌, refl, Bool, true, false, List, ℕ, ◌+◌, ◌<◌, ltb}
use Rattle.std.proofs.Common.{ltb-true}
use Rattle.definition.specs.declared.records.Shape.{Shape}
use Rattle.definition.specs.declared.records.Shape.TheVariants as shape
use Rattle.definition.specs.declared.records.Constant.{Constant}
use Rattle.definition.specs.Base.{pick}
use Rattle.definition.specs.Layout.{word, settings, members}
use Rattle.definition.specs.Records.{constant_at}
use Rattle.definition.specs.Tree.{enumerated_tree, null_tree}
use Rattle.definition.specs.Ask.{Outcome, ok, none}
use Rattle.definition.specs.Scalar.{as_tree, zero_of, long, default_member, as_integer_tree, built_in}
use Rattle.scalar.specs.String.{cut_by, empty-string-is}

unfoldable pub implicit_by : Shape → Constant → ℕ → ℕ → Outcome
implicit_by shape.Bool least member setting = zero_of 0 0
implicit_by (shape.Int bits) least member setting = zero_of 1 0
implicit_by (shape.UInt bits) least member setting = zero_of 1 0
implicit_by (shape.Real bits) least member setting = zero_of 3 0
implicit_by (shape.Bytes bits) least member setting = zero_of 1 0
implicit_by (shape.Time bits) least member setting = zero_of 4 (long bits)
implicit_by (shape.Date bits) least member setting = zero_of 6 (long bits)
implicit_by (shape.TimeOfDay bits) least member setting = zero_of 5 (long bits)
implicit_by (shape.DateAndTime bits) least member setting = zero_of 7 (long bits)
implicit_by (shape.String length width) least member setting = as_tree (cut_by setting length width 0 0)
implicit_by (shape.Enumeration first count default underlying) least member setting = pick (ltb default count) (ok (enumerated_tree member 0)) none
implicit_by (shape.Structure first count) least member setting = none
implicit_by (shape.Array element first count) least member setting = none
implicit_by (shape.Subrange base low high) least member setting = ok (as_integer_tree least)
implicit_by (shape.FunctionBlock name) least member setting = none
implicit_by (shape.Interface name) least member setting = none
implicit_by (shape.Reference target) least member setting = ok null_tree
implicit_by shape.Unknown least member setting = none

-- ---- with the file's constant, member and setting it is the definition's default
-- any constant and any name do for another shape, and for a default's place past the members
pub record Starts (f : List ℕ) (s : Shape) (least : Constant) (member : ℕ) : Type 0 where
  pub of_subrange : (base low high : ℕ) → s ≡ shape.Subrange base low high → least ≡ constant_at f low
  pub of_enumeration : (first count default underlying : ℕ) → s ≡ shape.Enumeration first count default underlying → default < count → member ≡ word f members (first + default) 0

pub implicit-is : (f : List ℕ) (s : Shape) (least : Constant) (member : ℕ) → Starts f s least member
    → implicit_by s least member (word f settings 0 0) ≡ built_in f s
unfolding implicit_by built_in default_member
implicit-is f shape.Bool least member b = refl
implicit-is f (shape.Int bits) least member b = refl
implicit-is f (shape.UInt bits) least member b = refl
implicit-is f (shape.Real bits) least member b = refl
implicit-is f (shape.Bytes bits) least member b = refl
implicit-is f (shape.Time bits) least member b = refl
implicit-is f (shape.Date bits) least member b = refl
implicit-is f (shape.TimeOfDay bits) least member b = refl
implicit-is f (shape.DateAndTime bits) least member b = refl
implicit-is f (shape.String length width) least member b = empty-string-is f length width
implicit-is f (shape.Enumeration first count default underlying) least member b = go (ltb default count) refl
  where
    go : (t : Bool) → ltb default count ≡ t → pick t (ok (enumerated_tree member 0)) none ≡ pick t (ok (enumerated_tree (word f members (first + default) 0) 0)) none
    go true h = rw (b.of_enumeration first count default underlying refl (ltb-true _ _ h))
    go false h = refl
implicit-is f (shape.Structure first count) least member b = refl
implicit-is f (shape.Array element first count) least member b = refl
implicit-is f (shape.Subrange base low high) least member b = rw (b.of_subrange base low high refl)
implicit-is f (shape.FunctionBlock name) least member b = refl
implicit-is f (shape.Interface name) least member b = refl
implicit-is f (shape.Reference target) least member b = refl
implicit-is f shape.Unknown least member b = refl
