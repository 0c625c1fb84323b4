-- A law for each return of convert.rt. Assumes nothing.
use mathlib.Core.Path.{◌≡◌, refl}
use mathlib.Core.Bool.{Bool, true, false, ◌&&◌, ◌||◌}
use Prim.Native.Nat.{ℕ, ◌-◌, ◌/◌, ◌^◌}
use borrow.Author.Rules.{rules}
use borrow.Author.Tests.{ne_eqb}
use lib.Bits.{bit_and, and_mask, mask_lt}
use lib.Dec.{eqb, leb}
use mir.Syntax.{w32}
use mir.Val.{Fits}
use types.Run.{OneOf}
use denote.Enum.Declared.{tag_of}
use Rattle.definition.specs.contracts.records.Shape.{the_type}
use Rattle.definition.specs.declared.records.Shape.{Shape}
use Rattle.definition.specs.declared.records.Shape.TheVariants as shape
use Rattle.definition.specs.declared.records.Constant.{Constant}
use Rattle.definition.specs.Records.{constant_of}
use Rattle.std.specs.Prelude.{Option}
use Rattle.std.specs.Bool.{then_some}
use Rattle.definition.specs.Ask.{Result, ok, none, result_of}
use Rattle.definition.specs.Accept.{is_bits}
use Rattle.definition.specs.Ieee.{rounded}
use Rattle.definition.specs.Iec.{between, in_range}
use Rattle.definition.specs.Scalar.{size_of, value_of, is_integer, kept, as_bool, as_integer, as_real, as_count}
use Rattle.laws.specs.Bits.{Bits}
use Rattle.scalar.specs.String.{cut_by, Countable}
use Rattle.scalar.specs.Convert.{as_string_by, converted_by, Counts}
use Rattle.scalar.proofs.NoScalar.{no_scalars, no-scalar}

-- ---- `kept`
module _ (c : Constant) where
  pub kept-is : (t : Bool) {r : Option Constant} → r ≡ then_some t c → result_of r ≡ kept t c
  unfolding kept
  kept-is true e = rw e
  kept-is false e = rw e

  -- ---- the kinds that `convert` looks at
  abbrev bit : Bool
  bit = is_integer c && eqb c.sign 0 && leb (size_of c) 1

  pub bit-integer : {n : ℕ} → c.kind ≡ 1 → c.sign ≡ 0 → n ≡ size_of c → leb n 1 ≡ bit
  unfolding is_integer
  bit-integer k s h = rw (← h, k, s)

  pub bit-signed : c.kind ≡ 1 → (c.sign ≡ 0 → ⊥) → false ≡ bit
  unfolding is_integer
  bit-signed k s = rw (k, ne_eqb _ _ s)

  pub bit-other : (c.kind ≡ 1 → ⊥) → false ≡ bit
  unfolding is_integer
  bit-other k = rw (ne_eqb _ _ k)

  pub whole-integer : c.kind ≡ 1 → true ≡ is_integer c || eqb c.kind 2
  unfolding is_integer
  whole-integer k = rw k

  pub whole-other : (c.kind ≡ 1 → ⊥) → eqb c.kind 2 ≡ is_integer c || eqb c.kind 2
  unfolding is_integer
  whole-other k = rw (ne_eqb _ _ k)

  -- ---- BOOL
  module _ {b : Bool} (h : b ≡ bit) where
    pub bool-bit : b ≡ true → ok (constant_of 0 0 c.low 0 0) ≡ as_bool c
    unfolding as_bool constant_of
    bool-bit e = rw (← h, e)

    pub bool-other : {x : Result Constant} → b ≡ false → x ≡ kept (eqb c.kind 0) c → x ≡ as_bool c
    unfolding as_bool
    bool-other e k = rw (← h, e) k

  -- ---- REAL and LREAL
  module _ (bits : ℕ) where
    pub real-integer : {s : Bool} {n r : ℕ} → c.kind ≡ 1 → s ≡ eqb c.sign 1 → n ≡ size_of c → r ≡ rounded bits s n
        → ok (constant_of 3 0 (bit_and r (2 ^ 32 - 1)) (r / 2 ^ 32) 0) ≡ as_real bits c
    unfolding as_real is_integer constant_of
    real-integer {r = r} k s n h = rw (← n, ← s, ← h, k, and_mask r 32)

    pub real-other : {x : Result Constant} → (c.kind ≡ 1 → ⊥) → x ≡ kept (eqb c.kind 3) c → x ≡ as_real bits c
    unfolding as_real is_integer
    real-other n k = rw (ne_eqb _ _ n) k

  -- ---- strings
  module _ (length width : ℕ) where
    pub string-counted : Counts (shape.String length width) c → c.kind ≡ 8 → Countable width c.high
    string-counted h k = h.of_string length width refl k

    pub shape-counted : {s : Shape} → Counts s c → s ≡ shape.String length width → Counts (shape.String length width) c
    shape-counted h e = rw e at h

  module _ (setting length width : ℕ) where
    pub string-kept : {x : Result Constant} → c.kind ≡ 8 → x ≡ cut_by setting length width c.low c.high → x ≡ as_string_by setting length width c
    unfolding as_string_by
    string-kept k h = rw k h

    pub string-none : (c.kind ≡ 8 → ⊥) → none ≡ as_string_by setting length width c
    unfolding as_string_by
    string-none n = rw (ne_eqb _ _ n)

pub low_fits : (r : ℕ) → Fits w32 (bit_and r (2 ^ 32 - 1))
low_fits r = record { fits = mask_lt r 32 }

-- ---- `convert`: an arm for each shape
pub arm-bits : (bits : ℕ) {s : Shape} → Bits s → {t : Shape} → s ≡ t → (Bits t → is_bits bits ≡ true) → is_bits bits ≡ true
arm-bits bits b e h = h (rw e at b)

module _ (c least greatest : Constant) (setting : ℕ) (s : Shape) where
  pub other_none : OneOf no_scalars (tag_of the_type s) → none ≡ converted_by s c least greatest setting
  unfolding converted_by
  other_none h = no-scalar (λ (s : Shape). none ≡ converted_by s c least greatest setting) s h (λ a b. refl) (λ a b d. refl) (λ a. refl) (λ a. refl) (λ a. refl) refl

  pub enumeration-none : {a b d e : ℕ} → s ≡ shape.Enumeration a b d e → none ≡ converted_by s c least greatest setting
  unfolding converted_by
  enumeration-none e = rw e

  module _ {x : Result Constant} where
    pub to-bool : s ≡ shape.Bool → x ≡ as_bool c → x ≡ converted_by s c least greatest setting
    unfolding converted_by
    to-bool e h = rw e h

    pub to-real : {bits : ℕ} → s ≡ shape.Real bits → x ≡ as_real bits c → x ≡ converted_by s c least greatest setting
    unfolding converted_by
    to-real e h = rw e h

    pub to-string : {length width : ℕ} → s ≡ shape.String length width → x ≡ as_string_by setting length width c → x ≡ converted_by s c least greatest setting
    unfolding converted_by
    to-string e h = rw e h

    module _ {t : Bool} (k : x ≡ kept ((is_integer c || eqb c.kind 2) && t) c) where
      pub to-subrange : {a b d : ℕ} → s ≡ shape.Subrange a b d → t ≡ between (value_of least) (value_of greatest) (value_of c) → x ≡ converted_by s c least greatest setting
      unfolding converted_by as_integer
      to-subrange e h = rw (e, ← h) k

      module _ {bits : ℕ} where
        pub to-int : s ≡ shape.Int bits → t ≡ in_range true bits (value_of c) → x ≡ converted_by s c least greatest setting
        unfolding converted_by as_integer
        to-int e h = rw (e, ← h) k

        pub to-uint : s ≡ shape.UInt bits → t ≡ in_range false bits (value_of c) → x ≡ converted_by s c least greatest setting
        unfolding converted_by as_integer
        to-uint e h = rw (e, ← h) k

        pub to-bytes : s ≡ shape.Bytes bits → t ≡ in_range false bits (value_of c) → x ≡ converted_by s c least greatest setting
        unfolding converted_by as_integer
        to-bytes e h = rw (e, ← h) k

    module _ {bits : ℕ} {t : Bool} where
      pub to-time : s ≡ shape.Time bits → t ≡ in_range true bits (value_of c) → x ≡ kept (eqb c.kind 4 && t) c → x ≡ converted_by s c least greatest setting
      unfolding converted_by as_count
      to-time e h k = rw (e, ← h) k

      pub to-date : s ≡ shape.Date bits → t ≡ in_range false bits (value_of c) → x ≡ kept (eqb c.kind 6 && t) c → x ≡ converted_by s c least greatest setting
      unfolding converted_by as_count
      to-date e h k = rw (e, ← h) k

      pub to-time-of-day : s ≡ shape.TimeOfDay bits → t ≡ in_range false bits (value_of c) → x ≡ kept (eqb c.kind 5 && t) c → x ≡ converted_by s c least greatest setting
      unfolding converted_by as_count
      to-time-of-day e h k = rw (e, ← h) k

      pub to-date-and-time : s ≡ shape.DateAndTime bits → t ≡ in_range false bits (value_of c) → x ≡ kept (eqb c.kind 7 && t) c → x ≡ converted_by s c least greatest setting
      unfolding converted_by as_count
      to-date-and-time e h k = rw (e, ← h) k

pub ruleset arms = (rules, arm-bits, shape-counted, other_none, enumeration-none, to-bool, to-real, to-string, to-subrange, to-int, to-uint, to-bytes, to-time, to-date, to-time-of-day, to-date-and-time)

pub ruleset laws = (rules, kept-is, bit-integer, bit-signed, bit-other, whole-integer, whole-other, bool-bit, bool-other, real-integer, real-other, string-counted, string-kept, string-none, low_fits)
