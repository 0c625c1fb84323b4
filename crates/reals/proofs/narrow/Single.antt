-- The 32 bits that the fields of 64 come to: a law for each return of `magnitude`. Assumes nothing.
use mathlib.Core.Path.{◌≡◌, refl, sym, ap, ◌∙◌, subst}
use mathlib.Core.Bool.{Bool, true, false}
use Prim.Native.Nat.{ℕ, zero, suc, ◌+◌, ◌-◌, ◌*◌, ◌/◌, ◌%◌, ◌^◌, ◌≤◌, ◌<◌, min, compare}
use native.Mathlib.Nat.{le_trans, le_of_eq, lt_of_lt_of_le, zero-add, mul-le-mul_right, le-div_iff_mul-le, div-lt_iff_lt-mul}
use native.Mathlib.Omega.{arith}
use borrow.Author.Rules.{rules}
use borrow.Author.Tests.{ne_eqb, eqb-true, eqb-false, ltb-true, ltb-false}
use lib.Dec.{eqb, ltb, lit<}
use lib.Pow.{pow-add, pow_pos, pow_mono, shl_lt, shr_lt}
use lib.Ieee.{Float, nan, inf, fin, binary32, binary64, up, down, size, odd, units, round, of_fields, to_bits}
use lib.Ieee.Digits.{size-le}
use lib.Ieee.Exact.{HasValue, odd_sign}
use lib.Ieee.Fits.{down_pos, core, round_is, nearest-le}
use lib.Ieee.Nearest.{closest, closest_same, nearest-ge}
use lib.Ieee.Scale.{round_same}
use Rattle.memory_definition.specs.Numbers.{in_format}
use Rattle.reals.specs.Fields.{Fields, single}
use Rattle.reals.proofs.narrow.Nearest.{nothing-kept}
use Rattle.laws.specs.Rounding.{size_is, shl-shl}
use Rattle.reals.proofs.narrow.Units.{signed, units-bits}

-- ---- a value is rounded as any fraction that it equals
in-format-at : (x : Float) (s : Bool) (a c : ℕ) → 0 < c → HasValue x s a c → in_format binary32 x ≡ round binary32 s a c
unfolding in_format
in-format-at nan s a c C h = absurd h
in-format-at (inf t) s a c C h = absurd h
in-format-at (fin t m e) s a c C h = ap (λ (b : Bool). round binary32 b (m * up e) (down e)) h.0 ∙ round_same binary32 s (m * up e) (down e) a c (down_pos e) C h.1

odd-rounded : (s : Bool) (m y : ℕ) → in_format binary32 (odd 53 s m y 1074) ≡ round binary32 s (m * 2 ^ y) (2 ^ 1074)
odd-rounded s m y = in-format-at (odd 53 s m y 1074) s (m * 2 ^ y) (2 ^ 1074) (pow_pos 1074) (odd_sign 53 s m y 1074)

-- ---- m * 2 ^ y of the smallest doubles
module _ (m y : ℕ) (few : m < 2 ^ 53) where
  abbrev num : ℕ
  num = m * 2 ^ y * 2 ^ 149

  -- no digit before the point is dropped
  module _ (w : ℕ) (at : y + w ≡ 925) (small : y < 896) where
    low-units : (s : Bool) → round binary32 s (m * 2 ^ y) (2 ^ 1074) ≡ units binary32 s (closest m (2 ^ w)) 0
    low-units s =
        let room : 53 + (y + 149) ≤ 1098 = omega arith in
        let under : num < 2 ^ 24 * 2 ^ 1074 = lt_of_lt_of_le (subst (λ (x : ℕ). x < 2 ^ (53 + (y + 149))) (sym (shl-shl m y 149)) (shl_lt 53 (y + 149) few)) (pow_mono room) in
        let k : size (num / 2 ^ 1074) - 24 ≡ 0 = omega (arith, size-le (num / 2 ^ 1074) 24 ((div-lt_iff_lt-mul (pow_pos 1074)).1 under)) in
        let all : y + 149 + w ≡ 1074 = omega arith in
        let same : num * 2 ^ w ≡ m * 2 ^ 1074 = ap (λ (x : ℕ). x * 2 ^ w) (shl-shl m y 149) ∙ shl-shl m (y + 149) w ∙ ap (λ (x : ℕ). m * 2 ^ x) all in
        round_is binary32 s (m * 2 ^ y) (2 ^ 1074)
        ∙ ap (λ (x : ℕ). core binary32 s num (2 ^ 1074) x) k
        ∙ ap (λ (x : ℕ). units binary32 s x 0) (closest_same num (2 ^ 1074) m (2 ^ w) (pow_pos 1074) (pow_pos w) same)

    low-le : closest m (2 ^ w) ≤ 2 ^ 24
    low-le =
        let room : 53 ≤ 24 + w = omega arith in
        le_trans (nearest-le (m / 2 ^ w) (compare (m % 2 ^ w * 2) (2 ^ w))) (shr_lt 24 w (lt_of_lt_of_le few (pow_mono room)))

    low_bits : (s : Bool) → to_bits binary32 (in_format binary32 (odd 53 s m y 1074)) ≡ signed s + closest m (2 ^ w)
    low_bits s =
        let least : min (0 * 2 ^ 23 + closest m (2 ^ w)) (255 * 2 ^ 23) ≡ closest m (2 ^ w) = omega (arith, low-le) in
        ap (to_bits binary32) (odd-rounded s m y ∙ low-units s)
        ∙ units-bits (closest m (2 ^ w)) 0 low-le (λ (z : 0 < 0). absurd (omega arith)) s
        ∙ ap (λ (x : ℕ). signed s + x) least

-- of m's 53 digits 24 are kept
module _ (m p : ℕ) (few : m < 2 ^ 53) (lead : 2 ^ 52 ≤ m) where
  abbrev wide : ℕ
  wide = m * 2 ^ (896 + p) * 2 ^ 149

  wide_is : wide ≡ m * 2 ^ (1045 + p)
  wide_is =
      let e : 896 + p + 149 ≡ 1045 + p = omega arith in
      shl-shl m (896 + p) 149 ∙ ap (λ (x : ℕ). m * 2 ^ x) e

  mid-units : (s : Bool) → round binary32 s (m * 2 ^ (896 + p)) (2 ^ 1074) ≡ units binary32 s (closest m (2 ^ 29)) p
  mid-units s =
      let e : 23 + p + 1074 ≡ 52 + (1045 + p) = omega arith in
      let f : 53 + (1045 + p) ≡ suc (23 + p) + 1074 = omega arith in
      let g : 1045 + p + 29 ≡ 1074 + p = omega arith in
      let lo : 2 ^ (23 + p) * 2 ^ 1074 ≤ wide =
      le_trans (le_of_eq (sym (pow-add 2 (23 + p) 1074) ∙ ap (λ (x : ℕ). 2 ^ x) e ∙ pow-add 2 52 (1045 + p))) (le_trans (mul-le-mul_right (2 ^ (1045 + p)) lead) (le_of_eq (sym wide_is))) in
      let hi : wide < 2 ^ suc (23 + p) * 2 ^ 1074 =
      subst (λ (x : ℕ). wide < x) (ap (λ (x : ℕ). 2 ^ x) f ∙ pow-add 2 (suc (23 + p)) 1074) (subst (λ (x : ℕ). x < 2 ^ (53 + (1045 + p))) (sym wide_is) (shl_lt 53 (1045 + p) few)) in
      let k : size (wide / 2 ^ 1074) - 24 ≡ p =
      omega (arith, size_is (23 + p) ((le-div_iff_mul-le (pow_pos 1074)).1 lo) ((div-lt_iff_lt-mul (pow_pos 1074)).1 hi)) in
      let same : wide * 2 ^ 29 ≡ m * (2 ^ 1074 * 2 ^ p) =
      ap (λ (x : ℕ). x * 2 ^ 29) wide_is ∙ shl-shl m (1045 + p) 29 ∙ ap (λ (x : ℕ). m * 2 ^ x) g ∙ ap (λ (x : ℕ). m * x) (pow-add 2 1074 p) in
      let room : 0 < 2 ^ 1074 * 2 ^ p = subst (λ (x : ℕ). 0 < x) (pow-add 2 1074 p) (pow_pos (1074 + p)) in
      round_is binary32 s (m * 2 ^ (896 + p)) (2 ^ 1074)
      ∙ ap (λ (x : ℕ). core binary32 s wide (2 ^ 1074) x) k
      ∙ ap (λ (x : ℕ). units binary32 s x p) (closest_same wide (2 ^ 1074 * 2 ^ p) m (2 ^ 29) room (pow_pos 29) same)

  mid_le : closest m (2 ^ 29) ≤ 2 ^ 24
  mid_le = le_trans (nearest-le (m / 2 ^ 29) (compare (m % 2 ^ 29 * 2) (2 ^ 29))) (shr_lt 24 29 few)

  mid-ge : 2 ^ 23 ≤ closest m (2 ^ 29)
  mid-ge = le_trans ((le-div_iff_mul-le (pow_pos 29)).1 lead) (nearest-ge (m / 2 ^ 29) (compare (m % 2 ^ 29 * 2) (2 ^ 29)))

  mid-bits : (s : Bool) → to_bits binary32 (in_format binary32 (odd 53 s m (896 + p) 1074)) ≡ signed s + min (p * 2 ^ 23 + closest m (2 ^ 29)) (255 * 2 ^ 23)
  mid-bits s = ap (to_bits binary32) (odd-rounded s m (896 + p) ∙ mid-units s) ∙ units-bits (closest m (2 ^ 29)) p mid_le (λ z. mid-ge) s

-- ---- by the fields
fields-zero : (s : Bool) (t : ℕ) → of_fields binary64 s 0 t ≡ odd 53 s t 0 1074
unfolding of_fields
fields-zero s t = refl

fields-mid : (s : Bool) (y t : ℕ) → (suc y ≡ 2047 → ⊥) → of_fields binary64 s (suc y) t ≡ odd 53 s (2 ^ 52 + t) y 1074
unfolding of_fields
fields-mid s y t h = rw (ne_eqb (suc y) 2047 h)

fields-top : (s : Bool) (x t : ℕ) → x ≡ 2047 → t ≡ 0 → of_fields binary64 s x t ≡ inf s
unfolding of_fields
fields-top s x t e f = rw (e, f)

single-zero : (s : Bool) (t : ℕ) → t < 2 ^ 52 → single s 0 t ≡ signed s + 0
unfolding single
single-zero s t h =
    let few : t < 2 ^ 53 = omega arith in
    ap (λ (v : Float). to_bits binary32 (in_format binary32 v)) (fields-zero s t)
    ∙ low_bits t 0 few 925 refl (lit< tt) s
    ∙ ap (λ (x : ℕ). signed s + x) (sym (nothing-kept t 924 few (lit< tt)))

single-low : (s : Bool) (x t : ℕ) → 0 < x → x < 897 → t < 2 ^ 52 → single s x t ≡ signed s + closest (2 ^ 52 + t) (2 ^ (925 - x + 1))
unfolding single
single-low s zero t p h d = absurd (omega arith)
single-low s (suc y) t p h d =
    let at : y + (925 - suc y + 1) ≡ 925 = omega arith in
    ap (λ (v : Float). to_bits binary32 (in_format binary32 v)) (fields-mid s y t (λ e. omega arith))
    ∙ low_bits (2 ^ 52 + t) y (omega arith) (925 - suc y + 1) at (omega arith) s

-- q stands for the 24 digits kept, rounded
module _ {x t q : ℕ} (f : Fields x t) (h : 897 ≤ x) (e : q ≡ closest (2 ^ 52 + t) (2 ^ 29)) where
  abbrev capped : ℕ
  capped = min ((x - 897) * 2 ^ 23 + q) (255 * 2 ^ 23)

  finite : (s : Bool) → (x ≡ 2047 → ⊥) → single s x t ≡ signed s + capped
  unfolding single
  finite s g =
      let d : t < 2 ^ 52 = f.digits in
      let at : x ≡ suc (896 + (x - 897)) = omega arith in
      let ne : suc (896 + (x - 897)) ≡ 2047 → ⊥ = λ r. g (at ∙ r) in
      ap (λ (v : Float). to_bits binary32 (in_format binary32 v)) (ap (λ (y : ℕ). of_fields binary64 s y t) at ∙ fields-mid s (896 + (x - 897)) t ne)
      ∙ mid-bits (2 ^ 52 + t) (x - 897) (omega arith) (omega arith) s
      ∙ ap (λ (y : ℕ). signed s + min ((x - 897) * 2 ^ 23 + y) (255 * 2 ^ 23)) (sym e)

  infinite : (s : Bool) → x ≡ 2047 → single s x t ≡ signed s + capped
  unfolding single in_format to_bits
  infinite s g =
      let least : capped ≡ 255 * 2 ^ 23 = omega arith in
      ap (λ (v : Float). to_bits binary32 (in_format binary32 v)) (fields-top s x t g (f.number g)) ∙ ap (λ (y : ℕ). signed s + y) (sym least)

  single-mid : (s : Bool) → single s x t ≡ signed s + capped
  single-mid s = go (eqb x 2047) refl
    where
      go : (b : Bool) → eqb x 2047 ≡ b → single s x t ≡ signed s + capped
      go true p = infinite s (eqb-true x 2047 p)
      go false p = finite s (eqb-false x 2047 p)

-- ---- the sign adds its bit
module _ {x t : ℕ} (f : Fields x t) where
  sized : (m : ℕ) × ((s : Bool) → single s x t ≡ signed s + m)
  sized = go (ltb 0 x) refl (ltb x 897) refl
    where
      go : (b : Bool) → ltb 0 x ≡ b → (c : Bool) → ltb x 897 ≡ c → (m : ℕ) × ((s : Bool) → single s x t ≡ signed s + m)
      go false p c q =
          let z : x ≡ 0 = omega (arith, ltb-false 0 x p) in
          (0, λ s. ap (λ (y : ℕ). single s y t) z ∙ single-zero s t f.digits)
      go true p true q = (closest (2 ^ 52 + t) (2 ^ (925 - x + 1)), λ s. single-low s x t (ltb-true 0 x p) (ltb-true x 897 q) f.digits)
      go true p false q = (capped f (ltb-false x 897 q) refl, single-mid f (ltb-false x 897 q) refl)

  pub single-signed : (s : Bool) → single s x t ≡ signed s + single false x t
  single-signed s = sized.1 s ∙ ap (λ (y : ℕ). signed s + y) (sym (sized.1 false ∙ zero-add sized.0))

  -- ---- the returns of `magnitude`
  pub is_zero : x ≡ 0 → 0 ≡ single false x t
  is_zero z = sym (ap (λ (y : ℕ). single false y t) z ∙ single-zero false t f.digits)

  pub is-low : {r : ℕ} → (x ≡ 0 → ⊥) → x < 897 → r ≡ closest (2 ^ 52 + t) (2 ^ (925 - x + 1)) → r ≡ single false x t
  is-low n h e = e ∙ sym (single-low false x t (omega arith) h f.digits ∙ zero-add _)

  module _ {q : ℕ} (h : 897 ≤ x) (e : q ≡ closest (2 ^ 52 + t) (2 ^ 29)) where
    abbrev bits : ℕ
    bits = (x - 897) * 2 ^ 23 % 2 ^ 64 + q

    kept-le : q ≤ 2 ^ 24
    kept-le = rw e (mid_le (2 ^ 52 + t) 0 (omega (arith, f.digits)) (omega arith))

    pub bits_fit : bits < 2 ^ 64
    bits_fit = omega (arith, kept-le, f.field)

    pub is-top : 255 * 2 ^ 23 < bits → 255 * 2 ^ 23 ≡ single false x t
    is-top g = omega (arith, single-mid f h e false, f.field)

    pub is-mid : bits ≤ 255 * 2 ^ 23 → bits ≡ single false x t
    is-mid g = omega (arith, single-mid f h e false, f.field)

pub ruleset laws = (rules, is_zero, is-low, bits_fit, is-top, is-mid)
