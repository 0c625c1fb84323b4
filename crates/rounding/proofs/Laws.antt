-- What `round` gives, whatever its sign: it is no NaN, and its bits are those of the magnitude with the sign's added. Assumes nothing.
use Rattle.std.proofs.Common.{◌≡◌, ℕ, zero, suc, ◌+◌, ◌-◌, ◌*◌, ◌/◌, ◌^◌, ◌<◌, Bool, true, false, cond, not, T, ltb, ℤ, pos, ap, add_assoc, zero-add, arith, lit≤, rules, ne_eqb}
use lib.Bits.{bit_and}
use lib.Ieee.{Float, inf, fin, Format, binary32, binary64, prec, emax, low, top, odd, units, round, add, mul, of_int, of_bits, fits, in_float, is_nan, to_bits}
use lib.Ieee.Fits.{round_is, round-fits, fits_widens}
use lib.Ieee.Bits.{to_bits-lt}
use Rattle.std.proofs.num.Nearest.{upper_in, lower_in, halves_masked, two_to_32}
use Rattle.definition.specs.Ieee.{format_of, rounded}
use Rattle.laws.specs.Rounding.{units-no-nan}

-- ---- the sign
fin-signed : (g : Format) (s : Bool) (m : ℕ) (e : ℤ) → to_bits g (fin s m e) ≡ cond s (top g) 0 + to_bits g (fin false m e)
unfolding to_bits
fin-signed g s m e = simp (zero-add, add_assoc)

odd-signed : (g : Format) (d : ℕ) (s : Bool) (q k l : ℕ) → to_bits g (odd d s q k l) ≡ cond s (top g) 0 + to_bits g (odd d false q k l)
unfolding odd
odd-signed g d s zero k l = fin-signed g s zero (pos zero)
odd-signed g d s (suc q) k l = fin-signed g s _ _

units-signed : (f g : Format) (s : Bool) (q k : ℕ) → to_bits g (units f s q k) ≡ cond s (top g) 0 + to_bits g (units f false q k)
unfolding units to_bits
units-signed f g s q k = go (ltb (q * 2 ^ k) (2 ^ (low f + suc (emax f))))
  where
    go : (b : Bool) → to_bits g (cond b (odd (suc (prec f)) s q k (low f)) (inf s)) ≡ cond s (top g) 0 + to_bits g (cond b (odd (suc (prec f)) false q k (low f)) (inf false))
    go true = odd-signed g (suc (prec f)) s q k (low f)
    go false = simp zero-add

pub round-signed : (f g : Format) (s : Bool) (n d : ℕ) → to_bits g (round f s n d) ≡ cond s (top g) 0 + to_bits g (round f false n d)
round-signed f g s n d = rw (round_is f s n d, round_is f false n d) (units-signed f g s _ _)

-- ---- no NaN
round-no-nan : (f : Format) (s : Bool) (n d : ℕ) → T (not (is_nan (round f s n d)))
round-no-nan f s n d = rw (round_is, units-no-nan) tt

-- ---- `lreal`: the sum of the halves, as the code has it
abbrev sum : ℕ → Float
sum n = add binary64 (mul binary64 (of_int binary64 (pos (n / 2 ^ 32))) (of_bits binary64 0x41f0_0000_0000_0000)) (of_int binary64 (pos (bit_and n (2 ^ 32 - 1))))

module _ (n : ℕ) (h : n < 2 ^ 64) where
  once : sum n ≡ round binary64 false n 1
  unfolding of_int
  once = halves_masked binary64 32 n _ two_to_32 (lit≤ tt) (lit≤ tt) h

  pub upper-cast : T (in_float binary64 (pos (n / 2 ^ 32)))
  upper-cast = upper_in binary64 32 n (lit≤ tt) h

  pub lower-cast : T (in_float binary64 (pos (bit_and n (2 ^ 32 - 1))))
  lower-cast = lower_in binary64 32 n (lit≤ tt)

  pub sum-no-nan : T (not (is_nan (sum n)))
  sum-no-nan = rw once (round-no-nan binary64 false n 1)

  pub sum-bits : to_bits binary64 (sum n) ≡ to_bits binary64 (round binary64 false n 1)
  sum-bits = ap (to_bits binary64) once

-- ---- `rounded`
widened : (f : Format) (s : Bool) (n : ℕ) → T (fits binary64 (round f s n 1))
widened binary32 s n = fits_widens (round binary32 s n 1) (round-fits binary32 s n 1)
widened binary64 s n = round-fits binary64 s n 1

module _ (bits size : ℕ) {m : ℕ} where
  pub is-lreal : bits ≡ 64 → m ≡ to_bits binary64 (round binary64 false size 1) → m ≡ rounded bits false size
  unfolding rounded format_of
  is-lreal e h = rw e h

  pub is_real : (bits ≡ 64 → ⊥) → m ≡ to_bits binary64 (round binary32 false size 1) → m ≡ rounded bits false size
  unfolding rounded format_of
  is_real e h = rw (ne_eqb _ _ e) h

  module _ (h : m ≡ rounded bits false size) where
    pub magnitude-lt : m + 2 ^ 63 < 2 ^ 64
    unfolding rounded
    magnitude-lt = omega (arith, h, round-signed (format_of bits) binary64 true size 1, to_bits-lt binary64 (round (format_of bits) true size 1) (widened (format_of bits) true size))

    pub with-sign : {s : Bool} → s ≡ true → m + 2 ^ 63 ≡ rounded bits s size
    unfolding rounded
    with-sign e = rw e (omega (arith, h, round-signed (format_of bits) binary64 true size 1))

    pub without_sign : {s : Bool} → s ≡ false → m ≡ rounded bits s size
    without_sign e = rw e h

pub ruleset laws = (rules, upper-cast, lower-cast, sum-no-nan, sum-bits, is-lreal, is_real, magnitude-lt, with-sign, without_sign)
