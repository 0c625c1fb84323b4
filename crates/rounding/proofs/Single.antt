-- The binary32 float nearest to a whole number below 2 ^ 64, as the bits of a binary64: what `real` needs of its leading zeros and of the digits it keeps. Assumes nothing.
use Rattle.std.proofs.Common.{◌≡◌, ℕ, suc, ◌+◌, ◌-◌, ◌*◌, ◌/◌, ◌%◌, ◌^◌, ◌<◌, ◌≤◌, false, sym, ap, ◌∙◌, subst, inl, inr, le_trans, le_of_eq, lt_of_lt_of_le, mul-le-mul_right, mod-eq_of_lt, mul_assoc, mul_comm, eq-or-lt_of_le, one-mul, le-div_iff_mul-le, zero-add, div-one, mul-div_cancel, arith, pow_pos, pow_mono, pow-add, shl_lt, shr_lt, rules}
use Prim.Native.Nat.{compare}
use lib.Count.{count_leading_zeros, leading_top, leading_le}
use lib.Ieee.{binary32, binary64, size, units, round, to_bits}
use lib.Ieee.Exact.{HasValue, units_val}
use lib.Ieee.Fits.{core, round_is, nearest-le}
use lib.Ieee.Nearest.{closest, closest_same, nearest-ge}
use Rattle.laws.specs.Rounding.{size-shl, shl-shl, pack, to_bits-at}

-- ---- 24 digits, or 2 ^ 24, at a place of a double
pack-at : (n k r : ℕ) → size n ≡ k + 53 → n ≡ r * 2 ^ k → pack binary64 false n ≡ k * 2 ^ 52 + r
pack-at n k r e h =
    let d : size n - 53 ≡ k = omega arith in
    rw zero-add (ap (λ (x : ℕ). x * 2 ^ 52 + n / 2 ^ x) d ∙ ap (λ (x : ℕ). k * 2 ^ 52 + x / 2 ^ k) h ∙ ap (λ (x : ℕ). k * 2 ^ 52 + x) (mul-div_cancel r (pow_pos k)))

-- q * 2 ^ (a + b), with b as a number
shifted : (q a b : ℕ) → q * 2 ^ (a + b) ≡ q * 2 ^ b * 2 ^ a
shifted q a b = ap (λ (x : ℕ). q * x) (pow-add 2 a b ∙ mul_comm (2 ^ a) (2 ^ b)) ∙ sym (mul_assoc q (2 ^ b) (2 ^ a))

packed : (q p : ℕ) → 2 ^ 23 ≤ q → q ≤ 2 ^ 24 → pack binary64 false (q * 2 ^ (p + 29)) ≡ p * 2 ^ 52 + q * 2 ^ 29
packed q p lo hi = elim (eq-or-lt_of_le hi) [
  | inl e ↦
      let n = q * 2 ^ (p + 29) in
      let s : size n ≡ suc (24 + (p + 29)) = size-shl q 24 (p + 29) (le_of_eq (sym e)) (omega arith) in
      let at : p + 29 ≡ p + 1 + 28 = omega arith in
      let h : n ≡ 2 ^ 52 * 2 ^ (p + 1) = ap (λ (x : ℕ). q * 2 ^ x) at ∙ shifted q (p + 1) 28 ∙ ap (λ (x : ℕ). x * 2 ^ 28 * 2 ^ (p + 1)) e in
      omega (arith, pack-at n (p + 1) (2 ^ 52) (omega arith) h)
  | inr l ↦ pack-at (q * 2 ^ (p + 29)) p (q * 2 ^ 29) (omega (arith, size-shl q 23 (p + 29) lo l)) (shifted q p 29)
]

-- ---- a whole number's 24 leading digits, rounded
-- n has j + 1 digits, and z zeros above them to make 64. Shifted up by z, the 24 digits that a single keeps stand above the low 40.
module _ (n z j : ℕ) (Z : z + suc j ≡ 64) (lo : 2 ^ j ≤ n) (hi : n < 2 ^ suc j) where
  abbrev q : ℕ
  q = closest (n * 2 ^ z) (2 ^ 40)

  as-units : round binary32 false n 1 ≡ units binary32 false q (j + 126)
  as-units =
      let w : size (n * 2 ^ 149 / 1) ≡ suc (j + 149) = ap size (div-one (n * 2 ^ 149)) ∙ size-shl n j 149 lo hi in
      let k : size (n * 2 ^ 149 / 1) - 24 ≡ j + 126 = omega arith in
      let u : z + (j + 126) ≡ 149 + 40 = omega arith in
      let same : n * 2 ^ 149 * 2 ^ 40 ≡ n * 2 ^ z * (1 * 2 ^ (j + 126)) =
      shl-shl n 149 40 ∙ ap (λ (x : ℕ). n * 2 ^ x) (sym u) ∙ sym (shl-shl n z (j + 126)) ∙ ap (λ (x : ℕ). n * 2 ^ z * x) (sym (one-mul (2 ^ (j + 126)))) in
      round_is binary32 false n 1
      ∙ ap (λ (x : ℕ). core binary32 false (n * 2 ^ 149) 1 x) k
      ∙ ap (λ (x : ℕ). units binary32 false x (j + 126)) (closest_same (n * 2 ^ 149) (1 * 2 ^ (j + 126)) (n * 2 ^ z) (2 ^ 40) (omega (arith, pow_pos (j + 126))) (pow_pos 40) same)

  shifted-lt : n * 2 ^ z < 2 ^ 64
  shifted-lt =
      let e : suc j + z ≡ 64 = omega arith in
      subst (λ (x : ℕ). n * 2 ^ z < 2 ^ x) e (shl_lt (suc j) z hi)

  shifted-ge : 2 ^ 63 ≤ n * 2 ^ z
  shifted-ge =
      let e : 63 ≡ j + z = omega arith in
      le_trans (le_of_eq (ap (λ (x : ℕ). 2 ^ x) e ∙ pow-add 2 j z)) (mul-le-mul_right (2 ^ z) lo)

  q-ge : 2 ^ 23 ≤ q
  q-ge = le_trans ((le-div_iff_mul-le (pow_pos 40)).1 shifted-ge) (nearest-ge (n * 2 ^ z / 2 ^ 40) (compare (n * 2 ^ z % 2 ^ 40 * 2) (2 ^ 40)))

  q-le : q ≤ 2 ^ 24
  q-le = le_trans (nearest-le (n * 2 ^ z / 2 ^ 40) (compare (n * 2 ^ z % 2 ^ 40 * 2) (2 ^ 40))) (shr_lt 24 40 shifted-lt)

  value : HasValue (round binary32 false n 1) false (q * 2 ^ (j + 126)) (2 ^ 149)
  value =
      let small : 25 + (j + 126) ≤ 277 = omega arith in
      rw as-units (units_val binary32 false q (j + 126) (lt_of_lt_of_le (shl_lt 25 (j + 126) (omega (arith, q-le))) (pow_mono small)))

  bits_are : to_bits binary64 (round binary32 false n 1) ≡ (j + 1022) * 2 ^ 52 + q * 2 ^ 29
  bits_are =
      let e : j + 126 + 1074 ≡ j + 1022 + 29 + 149 = omega arith in
      let at : q * 2 ^ (j + 126) * 2 ^ 1074 / 2 ^ 149 ≡ q * 2 ^ (j + 1022 + 29) =
      ap (λ (x : ℕ). x / 2 ^ 149) (shl-shl q (j + 126) 1074 ∙ ap (λ (x : ℕ). q * 2 ^ x) e ∙ sym (shl-shl q (j + 1022 + 29) 149)) ∙ mul-div_cancel (q * 2 ^ (j + 1022 + 29)) (pow_pos 149) in
      to_bits-at binary64 (round binary32 false n 1) false (q * 2 ^ (j + 126)) (2 ^ 149) (pow_pos 149) value ∙ ap (pack binary64 false) at ∙ packed q (j + 1022) q-ge q-le

-- ---- `real`
pub zero_bits : {n : ℕ} → n ≡ 0 → 0 ≡ to_bits binary64 (round binary32 false n 1)
unfolding to_bits round
zero_bits e = rw e

pub zeros-fit : (n : ℕ) → count_leading_zeros 64 n < 2 ^ 64
zeros-fit n = omega (arith, leading_le 64 n)

pub bias-fits : (n : ℕ) → count_leading_zeros 64 n ≤ 1085
bias-fits n = omega (arith, leading_le 64 n)

module _ (n : ℕ) (h : n ≡ 0 → ⊥) (f : n < 2 ^ 64) where
  abbrev zeros : ℕ
  zeros = count_leading_zeros 64 n

  -- the place of the highest digit
  top : (j : ℕ) × (zeros + suc j ≡ 64) × (2 ^ j ≤ n) × (n < 2 ^ suc j)
  top = leading_top 64 n (omega arith) f

  pub zeros-shift : zeros < 64
  zeros-shift = omega (arith, top.1)

  module _ {r : ℕ} (e : r ≡ closest (n * 2 ^ zeros % 2 ^ 64) (2 ^ 40)) where
    kept : r ≡ q n zeros top.0 top.1 top.2 top.3
    kept = e ∙ ap (λ (x : ℕ). closest x (2 ^ 40)) (mod-eq_of_lt (shifted-lt n zeros top.0 top.1 top.2 top.3))

    kept-le : r ≤ 2 ^ 24
    kept-le = rw kept (q-le n zeros top.0 top.1 top.2 top.3)

    pub sum_fits : (1085 - zeros) * 2 ^ 52 % 2 ^ 64 + r * 2 ^ 29 % 2 ^ 64 < 2 ^ 64
    sum_fits = omega (arith, kept-le)

    pub real-bits : (1085 - zeros) * 2 ^ 52 % 2 ^ 64 + r * 2 ^ 29 % 2 ^ 64 ≡ to_bits binary64 (round binary32 false n 1)
    real-bits = omega (arith, kept, kept-le, top.1, bits_are n zeros top.0 top.1 top.2 top.3)

pub ruleset laws = (rules, zero_bits, zeros-fit, bias-fits, zeros-shift, sum_fits, real-bits)
