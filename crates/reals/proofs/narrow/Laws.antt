-- What `narrow` needs: the fields of its bits, and the sign's bit added to the magnitude's. Assumes nothing.
use mathlib.Core.Path.{◌≡◌, refl, sym, ap, ◌∙◌}
use mathlib.Core.Bool.{Bool, true, false, not, ◌&&◌}
use Prim.Native.Nat.{ℕ, ◌+◌, ◌-◌, ◌*◌, ◌/◌, ◌%◌, ◌^◌, ◌<◌}
use native.Mathlib.Omega.{arith}
use borrow.Author.Rules.{rules}
use borrow.Author.Tests.{eq-eqb, eqb-true, leb-true, leb-false, not-false}
use lib.Bits.{bit_and, and_mask, mask_lt}
use lib.Dec.{eqb, leb}
use lib.Pow.{field}
use lib.Ieee.{Float, binary32, binary64, nan_bits, to_bits, of_bits}
use lib.Ieee.Bits.{nan_bits_is}
use Rattle.memory_definition.specs.Numbers.{in_format, narrowed}
use Rattle.memory_laws.specs.Reals.{narrowed-lt}
use Rattle.reals.specs.Fields.{Fields, single}
use Rattle.reals.proofs.Nan.{only_nan}
use Rattle.reals.proofs.narrow.Single.{single-signed}
use Rattle.reals.proofs.narrow.Units.{signed}

module _ (n : ℕ) where
  abbrev exp : ℕ
  exp = bit_and (n / 2 ^ 52) (2 ^ 11 - 1)

  abbrev mant : ℕ
  mant = bit_and n (2 ^ 52 - 1)

  exp-is : exp ≡ n % 2 ^ 63 / 2 ^ 52
  exp-is = and_mask (n / 2 ^ 52) 11 ∙ sym (field n 11 52)

  split : narrowed n ≡ single (leb (2 ^ 63) n) exp mant
  unfolding narrowed single of_bits
  split = rw (exp-is, and_mask n 52)

  signed_is : n < 2 ^ 64 → signed (leb (2 ^ 63) n) ≡ n / 2 ^ 63 * 2 ^ 31 % 2 ^ 64
  signed_is h = go (leb (2 ^ 63) n) refl
    where
      go : (b : Bool) → leb (2 ^ 63) n ≡ b → signed b ≡ n / 2 ^ 63 * 2 ^ 31 % 2 ^ 64
      go true e = omega (arith, leb-true (2 ^ 63) n e)
      go false e = omega (arith, leb-false (2 ^ 63) n e)

  number : nan_bits binary64 n ≡ false → exp ≡ 2047 → mant ≡ 0
  unfolding nan_bits
  number h e =
      let t : eqb (n % 2 ^ 63 / 2 ^ 52) 2047 ≡ true = eq-eqb _ _ (sym exp-is ∙ e) in
      let d : not (eqb (n % 2 ^ 52) 0) ≡ false = sym (ap (λ (b : Bool). b && not (eqb (n % 2 ^ 52) 0)) t) ∙ h in
      and_mask n 52 ∙ eqb-true _ _ (not-false _ d)

  pub nan-bits : {r : Bool} → r ≡ nan_bits binary64 n → r ≡ true → 255 * 2 ^ 23 + 2 ^ 22 ≡ narrowed n
  unfolding narrowed in_format to_bits
  nan-bits e h = ap (λ (x : Float). to_bits binary32 (in_format binary32 x)) (sym (only_nan (of_bits binary64 n) (sym (nan_bits_is binary64 n) ∙ sym e ∙ h)))

  module _ {r : Bool} (e : r ≡ nan_bits binary64 n) (h : r ≡ false) where
    pub fields : Fields exp mant
    fields = record { field = mask_lt (n / 2 ^ 52) 11; digits = mask_lt n 52; number = number (sym e ∙ h) }

    module _ {m : ℕ} (fits : n < 2 ^ 64) (g : m ≡ single false exp mant) where
      pub whole : n / 2 ^ 63 * 2 ^ 31 % 2 ^ 64 + m ≡ narrowed n
      whole = rw (split, single-signed fields (leb (2 ^ 63) n), signed_is fits) (ap (λ (x : ℕ). n / 2 ^ 63 * 2 ^ 31 % 2 ^ 64 + x) g)

      pub whole-lt : n / 2 ^ 63 * 2 ^ 31 % 2 ^ 64 + m < 2 ^ 32
      whole-lt = rw whole (narrowed-lt n)

      pub whole-fits : n / 2 ^ 63 * 2 ^ 31 % 2 ^ 64 + m < 2 ^ 64
      whole-fits = omega (arith, whole-lt)

pub ruleset laws = (rules, nan-bits, fields, whole, whole-lt, whole-fits)
