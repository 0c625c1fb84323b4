-- What `widen` needs: which patterns of 32 bits are a NaN's, and that any other may be cast. Assumes nothing.
use mathlib.Core.Path.{◌≡◌, refl, sym, ap, ◌∙◌}
use mathlib.Core.Bool.{Bool, false, not, ◌&&◌}
use Prim.Native.Nat.{ℕ, ◌+◌, ◌-◌, ◌*◌, ◌^◌, ◌≤◌, ◌<◌}
use borrow.Author.Rules.{rules}
use borrow.Author.Tests.{lt-ltb, le-ltb}
use lib.Bits.{bit_and, and_mask}
use lib.Dec.{T, ltb}
use lib.Ieee.{binary32, binary64, fits, is_nan, nan_bits, to_bits, of_bits}
use lib.Ieee.Bits.{of_bits-fits, nan_bits_is, nan_bits_above}
use lib.Ieee.Fits.{and_i, fits_widens}
use Rattle.memory_definition.specs.Numbers.{widened}
use Rattle.reals.proofs.Nan.{only_nan}

yes : {b : Bool} → b ≡ false → T (not b)
yes h = rw h tt

module _ (n : ℕ) where
  test : is_nan (of_bits binary32 n) ≡ ltb (255 * 2 ^ 23) (bit_and n (2 ^ 31 - 1))
  test = sym (nan_bits_is binary32 n) ∙ nan_bits_above binary32 n ∙ ap (λ (x : ℕ). ltb (255 * 2 ^ 23) x) (sym (and_mask n 31))

  pub nan-bits : 255 * 2 ^ 23 < bit_and n (2 ^ 31 - 1) → 2047 * 2 ^ 52 + 2 ^ 51 ≡ widened n
  unfolding widened to_bits
  nan-bits h = ap (to_bits binary64) (sym (only_nan (of_bits binary32 n) (test ∙ lt-ltb _ _ h)))

  pub wide-bits : to_bits binary64 (of_bits binary32 n) ≡ widened n
  unfolding widened
  wide-bits = refl

  module _ (h : bit_and n (2 ^ 31 - 1) ≤ 255 * 2 ^ 23) where
    pub value : T (not (is_nan (of_bits binary32 n)))
    value = yes (test ∙ le-ltb _ _ h)

    pub readable : T (not (nan_bits binary32 n))
    readable = rw (nan_bits_is binary32 n) value

    pub castable : T (fits binary64 (of_bits binary32 n) && not (is_nan (of_bits binary32 n)))
    castable = and_i (fits binary64 (of_bits binary32 n)) (not (is_nan (of_bits binary32 n))) (fits_widens (of_bits binary32 n) (of_bits-fits binary32 n)) value

pub ruleset laws = (rules, nan-bits, wide-bits, value, readable, castable)
