-- Conversion without the file: a subrange's two constants and the default string length come as arguments. Assumes nothing.
use Rattle.std.specs.Prelude.{◌≡◌, refl, true, false, List, ℕ, eqb}
use Rattle.std.proofs.Common.{ap}
use Rattle.definition.specs.declared.records.Shape.{Shape}
use Rattle.definition.specs.declared.records.Shape.TheVariants as shape
use Rattle.definition.specs.declared.records.Constant.{Constant}
use Rattle.definition.specs.Base.{pick}
use Rattle.definition.specs.Layout.{word, settings}
use Rattle.definition.specs.Records.{constant_at}
use Rattle.definition.specs.Ask.{Result, none}
use Rattle.definition.specs.Iec.{between, in_range}
use Rattle.definition.specs.Scalar.{value_of, as_bool, as_integer, as_real, as_count, as_string, converted, as_tree, constant_value}
use Rattle.scalar.specs.String.{cut_by, Countable, cut-string-is}

unfoldable pub as_string_by : ℕ → ℕ → ℕ → Constant → Result Constant
as_string_by setting length width c = pick (eqb c.kind 8) (cut_by setting length width c.low c.high) none

unfoldable pub converted_by : Shape → Constant → Constant → Constant → ℕ → Result Constant
converted_by shape.Bool c least greatest setting = as_bool c
converted_by (shape.Int bits) c least greatest setting = as_integer (in_range true bits) c
converted_by (shape.UInt bits) c least greatest setting = as_integer (in_range false bits) c
converted_by (shape.Real bits) c least greatest setting = as_real bits c
converted_by (shape.Bytes bits) c least greatest setting = as_integer (in_range false bits) c
converted_by (shape.Time bits) c least greatest setting = as_count 4 true bits c
converted_by (shape.Date bits) c least greatest setting = as_count 6 false bits c
converted_by (shape.TimeOfDay bits) c least greatest setting = as_count 5 false bits c
converted_by (shape.DateAndTime bits) c least greatest setting = as_count 7 false bits c
converted_by (shape.String length width) c least greatest setting = as_string_by setting length width c
converted_by (shape.Enumeration first count default underlying) c least greatest setting = none
converted_by (shape.Structure first count) c least greatest setting = none
converted_by (shape.Array element first count) c least greatest setting = none
converted_by (shape.Subrange base low high) c least greatest setting = as_integer (between (value_of least) (value_of greatest)) c
converted_by (shape.FunctionBlock name) c least greatest setting = none
converted_by (shape.Interface name) c least greatest setting = none
converted_by (shape.Reference target) c least greatest setting = none
converted_by shape.Unknown c least greatest setting = none

-- the characters that a place of the shape cuts of a constant can be counted in its last word
pub record Counts (s : Shape) (c : Constant) : Type 0 where
  pub of_string : (length width : ℕ) → s ≡ shape.String length width → c.kind ≡ 8 → Countable width c.high

-- ---- with the file's constants and setting it is the definition's conversion
-- only a subrange has bounds; any constants do for another shape
pub record Bounds (f : List ℕ) (s : Shape) (least greatest : Constant) : Type 0 where
  pub of_subrange : (base low high : ℕ) → s ≡ shape.Subrange base low high → (least ≡ constant_at f low) × (greatest ≡ constant_at f high)

pub converted-is : (f : List ℕ) (s : Shape) (c least greatest : Constant) → Bounds f s least greatest → converted_by s c least greatest (word f settings 0 0) ≡ converted f s c
unfolding converted_by converted as_string_by as_string
converted-is f shape.Bool c least greatest b = refl
converted-is f (shape.Int bits) c least greatest b = refl
converted-is f (shape.UInt bits) c least greatest b = refl
converted-is f (shape.Real bits) c least greatest b = refl
converted-is f (shape.Bytes bits) c least greatest b = refl
converted-is f (shape.Time bits) c least greatest b = refl
converted-is f (shape.Date bits) c least greatest b = refl
converted-is f (shape.TimeOfDay bits) c least greatest b = refl
converted-is f (shape.DateAndTime bits) c least greatest b = refl
converted-is f (shape.String length width) c least greatest b = rw cut-string-is
converted-is f (shape.Enumeration first count default underlying) c least greatest b = refl
converted-is f (shape.Structure first count) c least greatest b = refl
converted-is f (shape.Array element first count) c least greatest b = refl
converted-is f (shape.Subrange base low high) c least greatest b =
    let e = b.of_subrange base low high refl in
    rw (e.0, e.1)
converted-is f (shape.FunctionBlock name) c least greatest b = refl
converted-is f (shape.Interface name) c least greatest b = refl
converted-is f (shape.Reference target) c least greatest b = refl
converted-is f shape.Unknown c least greatest b = refl

pub constant-value-is : (f : List ℕ) (s : Shape) (c least greatest : Constant) → Bounds f s least greatest → as_tree (converted_by s c least greatest (word f settings 0 0)) ≡ constant_value f s c
unfolding constant_value
constant-value-is f s c least greatest b = ap as_tree (converted-is f s c least greatest b)
