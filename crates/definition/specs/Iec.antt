-- Rules of IEC 61131-3 (third edition): what an elementary type holds, and how lists of values fill arrays and structures. What it starts at is `built_in` (Scalar).
use Rattle.std.specs.Prelude.{Bool, true, false, ◌&&◌, ℕ, ◌-◌, ◌^◌, ℤ, pos, neg_ℤ}
use Rattle.std.specs.Int.Signed.{le_z}
use Rattle.definition.specs.Tree.{Tree, Trees, many, join, rest, replaced, named}

-- the number of a sign and a size
unfoldable pub number : Bool → ℕ → ℤ
number true n = neg_ℤ (pos n)
number false n = pos n

-- ---- 6.4.2, table 10: an integer of so many bits, in two's complement where it is signed
unfoldable pub least : Bool → ℕ → ℤ
least true bits = neg_ℤ (pos (2 ^ (bits - 1)))
least false bits = pos 0

unfoldable pub greatest : Bool → ℕ → ℤ
greatest true bits = pos (2 ^ (bits - 1) - 1)
greatest false bits = pos (2 ^ bits - 1)

unfoldable pub between : ℤ → ℤ → ℤ → Bool
between low high v = le_z low v && le_z v high

unfoldable pub in_range : Bool → ℕ → ℤ → Bool
in_range signed bits v = between (least signed bits) (greatest signed bits) v

-- ---- 6.4.4.5: listed values fill an array from the front, what is left takes the default of the element type
unfoldable pub filled : Trees → Trees → Trees
filled defaults values = join values (rest (many values) defaults)

-- ---- 6.4.4.6: a named element takes the value stated for it, the others keep theirs
unfoldable pub assigned : ℕ → Tree → Trees → Trees
assigned name value fields = replaced name (named name value) fields

-- what this file computes with
unfoldable pub opened : Unit {0}
unfolding number least greatest between in_range filled assigned
opened = tt
