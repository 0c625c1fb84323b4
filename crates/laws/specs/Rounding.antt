-- Facts of rounding to a format of IEEE 754, for any width: `closest` by how the remainder stands to the half, how many digits a number has, a float's bits from its value,
-- and that no rounded value is a NaN. Assumes nothing.
use Rattle.std.specs.Prelude.{◌≡◌, refl, Bool, true, false, cond, ltb, Float}
use Rattle.std.proofs.Common.{sym, ap, ◌∙◌, le_of_lt, le_trans, le_of_eq, le_antisymm, lt_of_not-le, lt_irrefl, lt_of_lt_of_le, mul_assoc, mul_right_comm, mul-le-mul_right, suc-add, arith, le-leb, eq-eqb, ne_eqb, pow-add, pow_mono, shl_lt}
use Prim.Native.Nat.{ℕ, zero, suc, ◌+◌, ◌-◌, ◌*◌, ◌/◌, ◌%◌, ◌^◌, ◌≤◌, ◌<◌, compare, Ordering}
use Rattle.std.proofs.lemmas.Bool.{lt-leb}
use Rattle.std.proofs.Math.Dec.{is_le, compare_is_eq}
use Rattle.std.specs.Float.{nan, inf, fin, Format}
use Rattle.std.specs.Float.Ieee.{prec, emax, low, hid, top, up, down, size, nearest, odd, units, is_nan, to_bits}
use Rattle.std.specs.Float.Ieee.Digits.{size-lt, size-le}
use Rattle.std.specs.Float.Ieee.Exact.{HasValue}
use Rattle.std.specs.Float.Ieee.Fits.{down_pos}
use Rattle.std.specs.Float.Ieee.Nearest.{closest, div_same}

-- ---- the nearest whole number, by how the remainder stands to the half
module _ (m u : ℕ) where
  pub closest-down : m % u * 2 < u → m / u ≡ closest m u
  closest-down h = go (compare (m % u * 2) u) (le-leb _ _ (le_of_lt h)) (ne_eqb (m % u * 2) u (λ e. omega arith))
    where
      go : (o : Ordering) → is_le o ≡ true → compare_is_eq o ≡ false → m / u ≡ nearest (m / u) o
      go Ordering.lt p q = refl
      go Ordering.eq p q = cc
      go Ordering.gt p q = cc

  pub closest-up : u < m % u * 2 → suc (m / u) ≡ closest m u
  closest-up h = go (compare (m % u * 2) u) (lt-leb _ _ h)
    where
      go : (o : Ordering) → is_le o ≡ false → suc (m / u) ≡ nearest (m / u) o
      go Ordering.lt p = cc
      go Ordering.eq p = cc
      go Ordering.gt p = refl

  pub closest-tie : m % u * 2 ≡ u → m / u + m / u % 2 ≡ closest m u
  closest-tie h = go (compare (m % u * 2) u) (eq-eqb _ _ h)
    where
      go : (o : Ordering) → compare_is_eq o ≡ true → m / u + m / u % 2 ≡ nearest (m / u) o
      go Ordering.lt p = cc
      go Ordering.eq p = refl
      go Ordering.gt p = cc

-- ---- how many digits a number has
pub size_is : {n : ℕ} (j : ℕ) → 2 ^ j ≤ n → n < 2 ^ suc j → size n ≡ suc j
size_is {n} j lo hi = le_antisymm (size-le n (suc j) hi) (lt_of_not-le (λ (g : size n ≤ j). lt_irrefl _ (lt_of_lt_of_le (size-lt n) (le_trans (pow_mono g) lo))))

pub size-shl : (q j k : ℕ) → 2 ^ j ≤ q → q < 2 ^ suc j → size (q * 2 ^ k) ≡ suc (j + k)
size-shl q j k lo hi =
    size_is (j + k) (le_trans (le_of_eq (pow-add 2 j k)) (mul-le-mul_right (2 ^ k) lo)) (rw (suc-add) at (shl_lt (suc j) k hi))

-- two shifts in a row
pub shl-shl : (q a b : ℕ) → q * 2 ^ a * 2 ^ b ≡ q * 2 ^ (a + b)
shl-shl q a b = mul_assoc q (2 ^ a) (2 ^ b) ∙ ap (λ (x : ℕ). q * x) (sym (pow-add 2 a b))

-- ---- the bits of a finite value, by its sign and its size in units of the format's smallest value
abbrev pub pack : Format → Bool → ℕ → ℕ
pack f s n = cond s (top f) 0 + (size n - prec f) * hid f + n / 2 ^ (size n - prec f)

pub to_bits-at : (f : Format) (x : Float) (s : Bool) (a c : ℕ) → 0 < c → HasValue x s a c → to_bits f x ≡ pack f s (a * 2 ^ low f / c)
unfolding to_bits
to_bits-at f nan s a c C h = absurd h
to_bits-at f (inf t) s a c C h = absurd h
to_bits-at f (fin t m e) s a c C h =
    let same : m * up e * 2 ^ low f / down e ≡ a * 2 ^ low f / c =
    div_same (m * up e * 2 ^ low f) (down e) (a * 2 ^ low f) c (down_pos e) C
    (mul_right_comm (m * up e) (2 ^ low f) c ∙ ap (λ (z : ℕ). z * 2 ^ low f) h.1 ∙ mul_right_comm a (down e) (2 ^ low f)) in
    ap (λ (b : Bool). pack f b (m * up e * 2 ^ low f / down e)) h.0 ∙ ap (pack f s) same

-- ---- no NaN
odd_no_nan : (d : ℕ) (s : Bool) (q k l : ℕ) → is_nan (odd d s q k l) ≡ false
unfolding odd is_nan
odd_no_nan d s zero k l = refl
odd_no_nan d s (suc q) k l = refl

pub units-no-nan : (f : Format) (s : Bool) (q k : ℕ) → is_nan (units f s q k) ≡ false
unfolding units is_nan
units-no-nan f s q k = go (ltb (q * 2 ^ k) (2 ^ (low f + suc (emax f))))
  where
    go : (b : Bool) → is_nan (cond b (odd (suc (prec f)) s q k (low f)) (inf s)) ≡ false
    go true = odd_no_nan (suc (prec f)) s q k (low f)
    go false = refl
