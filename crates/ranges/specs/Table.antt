-- What the table of integer types must say: the definition's bounds of each width that a shape may have, and nothing of another. Assumes nothing.
use Rattle.std.specs.Prelude.{Option, Some, None, Bool, ℕ, suc, ℤ, pos, negsuc}
use Rattle.definition.specs.Base.{pick}
use Rattle.definition.specs.Ask.{Result, ok, none}
use Rattle.definition.specs.Accept.{is_bits}
use Rattle.definition.specs.Iec.{least, greatest}

-- the least and the greatest number of a type
pub record Bounds : Type 0 where
  pub lowest : ℤ
  pub highest : ℤ

abbrev pub bounds : ℤ → ℤ → Result Bounds
bounds lowest highest = ok (record { lowest = lowest; highest = highest })

abbrev pub bounds_of : Option (ℤ × ℕ) → Result Bounds
bounds_of (Some b) = bounds b.0 (pos b.1)
bounds_of None = none

-- how far a number lies below 0
abbrev pub depth_of : ℤ → ℕ
depth_of (pos n) = 0
depth_of (negsuc n) = suc n

unfoldable pub listed : Bool → ℕ → Result Bounds
listed signed bits = pick (is_bits bits) (bounds (least signed bits) (greatest signed bits)) none
