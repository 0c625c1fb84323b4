-- The 32 bits of q * 2 ^ k of the smallest values: k in the exponent's field and q below it, which adds its leading digit to the field, up to the infinity's bits. Assumes nothing.
use mathlib.Core.Path.{◌≡◌, refl, sym, ap, ◌∙◌, subst}
use mathlib.Core.Logic.{inl, inr}
use mathlib.Core.Bool.{Bool, true, false, cond}
use Prim.Native.Nat.{ℕ, suc, ◌+◌, ◌-◌, ◌*◌, ◌/◌, ◌^◌, ◌≤◌, ◌<◌, min}
use native.Mathlib.Nat.{le_trans, le_of_eq, lt_irrefl, lt_of_le_of_lt, eq-or-lt_of_le, eq-zero-or-pos, le_of_mul-le-mul_right, add_assoc, mul_assoc, mul-one, mul-le-mul_right, mul-le-mul_left, mul-div_cancel, pow-succ'}
use native.Mathlib.Omega.{arith}
use borrow.Author.Tests.{ltb-true, ltb-false}
use lib.Dec.{ltb}
use lib.Pow.{pow-add, pow_pos, pow_mono, pow-lt}
use lib.Ieee.{inf, binary32, size, odd, units, to_bits}
use lib.Ieee.Digits.{size-le}
use lib.Ieee.Exact.{units_val}
use Rattle.laws.specs.Rounding.{size-shl, pack, to_bits-at}

-- the sign's bit
abbrev pub signed : Bool → ℕ
signed s = cond s (2 ^ 31) 0

pack-at : (s : Bool) (n d r : ℕ) → size n - 24 ≡ d → n ≡ r * 2 ^ d → pack binary32 s n ≡ signed s + (d * 2 ^ 23 + r)
pack-at s n d r e h =
    ap (λ (x : ℕ). signed s + x * 2 ^ 23 + n / 2 ^ x) e
    ∙ ap (λ (x : ℕ). signed s + d * 2 ^ 23 + x) (ap (λ (x : ℕ). x / 2 ^ d) h ∙ mul-div_cancel r (pow_pos d))
    ∙ add_assoc (signed s) (d * 2 ^ 23) r

infinite : (s : Bool) (q k : ℕ) → ltb (q * 2 ^ k) (2 ^ 277) ≡ false → to_bits binary32 (units binary32 s q k) ≡ signed s + 255 * 2 ^ 23
unfolding units to_bits
infinite s q k e = ap (λ (b : Bool). to_bits binary32 (cond b (odd 25 s q k 149) (inf s))) e

-- q has 24 digits, or is 2 ^ 24, or nothing was dropped
module _ (q k : ℕ) (hi : q ≤ 2 ^ 24) (lo : 0 < k → 2 ^ 23 ≤ q) where
  packed : (s : Bool) → pack binary32 s (q * 2 ^ k) ≡ signed s + (k * 2 ^ 23 + q)
  packed s = elim (eq-or-lt_of_le hi) [
    | inl e ↦
        let d : size (q * 2 ^ k) - 24 ≡ suc k = omega (arith, size-shl q 24 k (le_of_eq (sym e)) (omega arith)) in
        let h : q * 2 ^ k ≡ 2 ^ 23 * 2 ^ suc k = ap (λ (x : ℕ). x * 2 ^ k) e ∙ mul_assoc (2 ^ 23) 2 (2 ^ k) ∙ ap (λ (x : ℕ). 2 ^ 23 * x) (sym (pow-succ' 2 k)) in
        omega (arith, pack-at s (q * 2 ^ k) (suc k) (2 ^ 23) d h)
    | inr l ↦ go l (ltb q (2 ^ 23)) refl
  ]
    where
      go : q < 2 ^ 24 → (b : Bool) → ltb q (2 ^ 23) ≡ b → pack binary32 s (q * 2 ^ k) ≡ signed s + (k * 2 ^ 23 + q)
      go l true e =
          let z : k ≡ 0 = elim (eq-zero-or-pos k) [
            | inl z ↦ z
            | inr p ↦ omega (arith, lo p, ltb-true q (2 ^ 23) e)
          ] in
          let w : q * 2 ^ k < 2 ^ 24 = subst (λ (x : ℕ). q * 2 ^ x < 2 ^ 24) (sym z) (subst (λ (x : ℕ). x < 2 ^ 24) (sym (mul-one q)) l) in
          pack-at s (q * 2 ^ k) k q (omega (arith, size-le (q * 2 ^ k) 24 w)) refl
      go l false e = pack-at s (q * 2 ^ k) k q (omega (arith, size-shl q 23 k (ltb-false q (2 ^ 23) e) l)) refl

  -- below 2 ^ 128, and from there on
  under : q * 2 ^ k < 2 ^ 277 → k * 2 ^ 23 + q ≤ 255 * 2 ^ 23
  under h = go (ltb k 254) refl
    where
      go : (b : Bool) → ltb k 254 ≡ b → k * 2 ^ 23 + q ≤ 255 * 2 ^ 23
      go true e = omega (arith, ltb-true k 254 e)
      go false e =
          let far : 254 ≤ k = ltb-false k 254 e in
          let all : 2 ^ 23 ≤ q = lo (omega arith) in
          absurd (lt_irrefl (2 ^ 277) (lt_of_le_of_lt (le_trans (mul-le-mul_left (2 ^ 23) (pow_mono far)) (mul-le-mul_right (2 ^ k) all)) h))

  over : 2 ^ 277 ≤ q * 2 ^ k → 255 * 2 ^ 23 ≤ k * 2 ^ 23 + q
  over h = go (ltb k 253) refl (ltb k 254) refl
    where
      go : (b : Bool) → ltb k 253 ≡ b → (c : Bool) → ltb k 254 ≡ c → 255 * 2 ^ 23 ≤ k * 2 ^ 23 + q
      go true e c f =
          let near : 24 + k < 277 = omega (arith, ltb-true k 253 e) in
          absurd (lt_irrefl (2 ^ 277) (lt_of_le_of_lt (le_trans h (le_trans (mul-le-mul_right (2 ^ k) hi) (le_of_eq (sym (pow-add 2 24 k))))) (pow-lt near)))
      go false e true f =
          let at : k ≡ 253 = omega (arith, ltb-false k 253 e, ltb-true k 254 f) in
          let all : 2 ^ 24 ≤ q = le_of_mul-le-mul_right {m = 2 ^ 24} {n = q} {k = 2 ^ 253} (subst (λ (x : ℕ). 2 ^ 277 ≤ q * 2 ^ x) at h) (pow_pos 253) in
          omega arith
      go false e false f = omega (arith, ltb-false k 254 f, lo (omega (arith, ltb-false k 254 f)))

  pub units-bits : (s : Bool) → to_bits binary32 (units binary32 s q k) ≡ signed s + min (k * 2 ^ 23 + q) (255 * 2 ^ 23)
  units-bits s = go (ltb (q * 2 ^ k) (2 ^ 277)) refl
    where
      go : (b : Bool) → ltb (q * 2 ^ k) (2 ^ 277) ≡ b → to_bits binary32 (units binary32 s q k) ≡ signed s + min (k * 2 ^ 23 + q) (255 * 2 ^ 23)
      go true e =
          let h : q * 2 ^ k < 2 ^ 277 = ltb-true (q * 2 ^ k) (2 ^ 277) e in
          let bits : to_bits binary32 (units binary32 s q k) ≡ signed s + (k * 2 ^ 23 + q) =
          to_bits-at binary32 (units binary32 s q k) s (q * 2 ^ k) (2 ^ 149) (pow_pos 149) (units_val binary32 s q k h) ∙ ap (pack binary32 s) (mul-div_cancel (q * 2 ^ k) (pow_pos 149)) ∙ packed s in
          let least : min (k * 2 ^ 23 + q) (255 * 2 ^ 23) ≡ k * 2 ^ 23 + q = omega (arith, under h) in
          bits ∙ ap (λ (x : ℕ). signed s + x) (sym least)
      go false e =
          let least : min (k * 2 ^ 23 + q) (255 * 2 ^ 23) ≡ 255 * 2 ^ 23 = omega (arith, over (ltb-false (q * 2 ^ k) (2 ^ 277) e)) in
          infinite s q k e ∙ ap (λ (x : ℕ). signed s + x) (sym least)
