-- A REAL's 64 bits as 32 and back: both are numbers of their width, a NaN stays one and nothing else becomes one, and writing what was read gives the bits. Assumes nothing.
use Rattle.std.specs.Prelude.{◌≡◌, refl, Bool, false, not, ◌&&◌, ℕ, zero, suc, ◌+◌, ◌-◌, ◌*◌, ◌%◌, ◌^◌, ◌≤◌, ◌<◌, T, eqb, ltb, leb, ℤ, pos, negsuc, Float}
use Rattle.std.proofs.Common.{sym, ap, ◌∙◌, subst, zero-lt-suc, zero-mul, mul-one, mul_assoc, lt_irrefl, lt_of_lt_of_le, le_of_suc-le-suc, lt_of_not-le, mul-lt-mul_of_pos_right, arith, ltb→lt, leb→le, pow-add, pow_pos, pow_mono, shl_lt}
use Rattle.std.proofs.Math.Pow.{pow-lt}
use Rattle.std.specs.Float.{nan, inf, fin, Format, binary32, binary64}
use Rattle.std.specs.Float.Ieee.{up, down, round, fits, is_nan, nan_bits, to_bits, of_bits}
use Rattle.std.specs.Float.Ieee.Bits.{of_bits-to_bits, to_bits-of_bits, of_bits-fits, to_bits-lt, nan_bits_is}
use Rattle.std.specs.Float.Ieee.Digits.{back}
use Rattle.std.specs.Float.Ieee.Exact.{HasValue, round_exact}
use Rattle.std.specs.Float.Ieee.Fits.{and_l, and_r, down_pos, round_is, round-fits, nan-fits, inf-fits, fits_widens}
use Rattle.laws.specs.Rounding.{to_bits-at, units-no-nan}
use Rattle.memory_definition.specs.Numbers.{in_format, narrowed, widened}

-- ---- a value is written in one way
pub fits-unique : (f : Format) (x y : Float) (s : Bool) (a c : ℕ) → 0 < c → T (fits f x) → T (fits f y) → HasValue x s a c → HasValue y s a c → x ≡ y
fits-unique f x y s a c C p q v w =
    sym (of_bits-to_bits f x p) ∙ ap (of_bits f) (to_bits-at f x s a c C v ∙ sym (to_bits-at f y s a c C w)) ∙ of_bits-to_bits f y q

-- ---- what binary32 holds is left as it is
pow_le_back : (a l : ℕ) → 2 ^ a ≤ 2 ^ l → a ≤ l
pow_le_back a l h = le_of_suc-le-suc (lt_of_not-le (λ (g : suc l ≤ a). lt_irrefl (2 ^ l) (lt_of_lt_of_le (pow-lt g) h)))

exact : (s : Bool) (m : ℕ) (e : ℤ) → m < 2 ^ 24 → down e ≤ 2 ^ 149 → m * up e < 2 ^ 128 * down e → HasValue (round binary32 s (m * up e) (down e)) s (m * up e) (down e)
exact s m (pos a) small deep under =
    let at : m * 2 ^ a * 2 ^ 149 ≡ m * 2 ^ (a + 149) = mul_assoc m (2 ^ a) (2 ^ 149) ∙ ap (λ (x : ℕ). m * x) (sym (pow-add 2 a 149)) in
    let below : m * 2 ^ a * 2 ^ 149 < 2 ^ 128 * 2 ^ 149 = mul-lt-mul_of_pos_right (subst (λ (x : ℕ). m * 2 ^ a < x) (mul-one (2 ^ 128)) under) (pow_pos 149) in
    round_exact binary32 s (m * 2 ^ a) 1 m (a + 149) (zero-lt-suc 0) small (subst (λ (x : ℕ). x < 2 ^ 277) at below) (at ∙ sym (mul-one (m * 2 ^ (a + 149))))
exact s m (negsuc a) small deep under =
    let le : suc a ≤ 149 = pow_le_back (suc a) 149 deep in
    let j : ℕ = 149 - suc a in
    let room : 24 + j ≤ 277 = omega arith in
    round_exact binary32 s (m * 1) (2 ^ suc a) m j (pow_pos (suc a)) small (lt_of_lt_of_le (shl_lt 24 j small) (pow_mono room))
    (ap (λ (x : ℕ). x * 2 ^ 149) (mul-one m) ∙ ap (λ (x : ℕ). m * 2 ^ x) (sym (back 149 (suc a) le)) ∙ ap (λ (x : ℕ). m * x) (pow-add 2 j (suc a)) ∙ sym (mul_assoc m (2 ^ j) (2 ^ suc a)))

same : (s : Bool) (m : ℕ) (e : ℤ) → T (fits binary32 (fin s m e)) → m < 2 ^ 24 → down e ≤ 2 ^ 149 → m * up e < 2 ^ 128 * down e
    → round binary32 s (m * up e) (down e) ≡ fin s m e
same s m e t small deep under =
    fits-unique binary32 (round binary32 s (m * up e) (down e)) (fin s m e) s (m * up e) (down e) (down_pos e)
    (round-fits binary32 s (m * up e) (down e)) t (exact s m e small deep under) (refl, refl)

pub in-format : (x : Float) → T (fits binary32 x) → in_format binary32 x ≡ x
unfolding in_format fits
in-format nan t = refl
in-format (inf s) t = refl
in-format (fin s zero e) t =
    let u : T (fits binary32 (fin s zero e)) = t in
    fits-unique binary32 (round binary32 s (0 * up e) (down e)) (fin s zero e) s (0 * up e) (down e) (down_pos e) (round-fits binary32 s (0 * up e) (down e)) u
    (round_exact binary32 s (0 * up e) (down e) 0 0 (down_pos e) (pow_pos 24) (pow_pos 277) (ap (λ (x : ℕ). x * 2 ^ 149) (zero-mul (up e)) ∙ zero-mul (2 ^ 149) ∙ sym (zero-mul (down e))))
    (refl, refl)
in-format (fin s (suc m) e) t =
    let a : Bool = eqb (suc m % 2) 1 in
    let b : Bool = ltb (suc m) (2 ^ 24) in
    let c : Bool = leb (down e) (2 ^ 149) in
    let d : Bool = ltb (suc m * up e) (2 ^ 128 * down e) in
    same s (suc m) e t
    (ltb→lt (suc m) (2 ^ 24) (and_r a b (and_l (a && b) c (and_l (a && b && c) d t))))
    (leb→le (down e) (2 ^ 149) (and_r (a && b) c (and_l (a && b && c) d t)))
    (ltb→lt (suc m * up e) (2 ^ 128 * down e) (and_r (a && b && c) d t))

in-format-fits : (g : Format) (x : Float) → T (fits g (in_format g x))
unfolding in_format
in-format-fits g nan = nan-fits g
in-format-fits g (inf s) = inf-fits g s
in-format-fits g (fin s m e) = round-fits g s (m * up e) (down e)

-- ---- numbers of their width
held : (n : ℕ) → T (fits binary64 (of_bits binary32 n))
held n = fits_widens (of_bits binary32 n) (of_bits-fits binary32 n)

pub widened-lt : (n : ℕ) → widened n < 2 ^ 64
unfolding widened
widened-lt n = to_bits-lt binary64 (of_bits binary32 n) (held n)

pub narrowed-lt : (n : ℕ) → narrowed n < 2 ^ 32
unfolding narrowed
narrowed-lt n = to_bits-lt binary32 (in_format binary32 (of_bits binary64 n)) (in-format-fits binary32 (of_bits binary64 n))

-- ---- NaNs
in-format-nan : (g : Format) (x : Float) → is_nan (in_format g x) ≡ is_nan x
unfolding in_format is_nan
in-format-nan g nan = refl
in-format-nan g (inf s) = refl
in-format-nan g (fin s m e) = rw round_is (units-no-nan g s _ _)

pub widened-nan : (n : ℕ) → nan_bits binary64 (widened n) ≡ nan_bits binary32 n
unfolding widened
widened-nan n = nan_bits_is binary64 _ ∙ ap is_nan (of_bits-to_bits binary64 (of_bits binary32 n) (held n)) ∙ sym (nan_bits_is binary32 n)

pub narrowed-nan : (n : ℕ) → nan_bits binary64 n ≡ false → nan_bits binary32 (narrowed n) ≡ false
unfolding narrowed
narrowed-nan n h =
    let x : Float = of_bits binary64 n in
    nan_bits_is binary32 _ ∙ ap is_nan (of_bits-to_bits binary32 (in_format binary32 x) (in-format-fits binary32 x)) ∙ in-format-nan binary32 x ∙ sym (nan_bits_is binary64 n) ∙ h

-- ---- writing what was read
not-nan : {b : Bool} → b ≡ false → T (not b)
not-nan h = rw h tt

pub narrowed-widened : (n : ℕ) → n < 2 ^ 32 → nan_bits binary32 n ≡ false → narrowed (widened n) ≡ n
unfolding narrowed widened
narrowed-widened n h k =
    let x : Float = of_bits binary32 n in
    ap (λ (y : Float). to_bits binary32 (in_format binary32 y)) (of_bits-to_bits binary64 x (held n))
    ∙ ap (to_bits binary32) (in-format x (of_bits-fits binary32 n))
    ∙ to_bits-of_bits binary32 n h (not-nan (sym (nan_bits_is binary32 n) ∙ k))
