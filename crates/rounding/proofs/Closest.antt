-- `closest` of a power of two, by the bits that the code looks at: a law for each return of `nearest`. Assumes nothing.
use mathlib.Core.Path.{◌≡◌, sym, ap, ◌∙◌, subst}
use Prim.Native.Nat.{ℕ, ◌+◌, ◌-◌, ◌*◌, ◌/◌, ◌%◌, ◌^◌, ◌≤◌, ◌<◌}
use native.Mathlib.Nat.{lt_of_lt_of_le, one-mul, pow-succ'}
use native.Mathlib.Numerals.{add-one}
use native.Mathlib.Omega.{arith}
use borrow.Author.Rules.{rules}
use lib.Bits.{bit_and, and_mask, mask_lt}
use lib.Dec.{lit<}
use lib.Pow.{pow_mono, pow_pos, shl_exact, shr_lt, mod-pow-add}
use lib.Ieee.Nearest.{closest}
use Rattle.laws.specs.Rounding.{closest-down, closest-up, closest-tie}

-- ---- by the half's bit and those below it
module _ (m b : ℕ) where
  abbrev half : ℕ
  half = bit_and (m / 2 ^ b) 1

  abbrev sticky : ℕ
  sticky = bit_and m (1 * 2 ^ b % 2 ^ 64 - 1)

  unit : 2 ^ (b + 1) ≡ 2 * 2 ^ b
  unit = rw add-one (pow-succ' 2 b)

  module _ (s : m < 2 ^ 64) where
    kept-lt : m / 2 ^ (b + 1) < 2 ^ 63
    kept-lt = let room : 64 ≤ 63 + (b + 1) = omega arith in shr_lt 63 (b + 1) (lt_of_lt_of_le s (pow_mono room))

    pub even-fits : (x : ℕ) → m / 2 ^ (b + 1) + bit_and x 1 < 2 ^ 64
    even-fits x = omega (arith, and_mask x 1, kept-lt)

    pub next_fits : m / 2 ^ (b + 1) + 1 < 2 ^ 64
    next_fits = omega (arith, kept-lt)

  module _ (h : b < 63) where
    bit : 1 * 2 ^ b % 2 ^ 64 ≡ 2 ^ b
    bit =
        let room : 1 + b ≤ 64 = omega arith in
        shl_exact 1 b 64 (lit< tt) room ∙ one-mul (2 ^ b)

    pub bit-pos : 1 ≤ 1 * 2 ^ b % 2 ^ 64
    bit-pos = rw bit (pow_pos b)

    low : sticky ≡ m % 2 ^ b
    low = ap (λ (x : ℕ). bit_and m (x - 1)) bit ∙ and_mask m b

    low-lt : sticky < 2 ^ b
    low-lt = subst (λ (x : ℕ). x < 2 ^ b) (sym (ap (λ (x : ℕ). bit_and m (x - 1)) bit)) (mask_lt m b)

    -- the remainder, by its highest bit
    rest : (k : ℕ) → half ≡ k → m % 2 ^ (b + 1) ≡ k * 2 ^ b + sticky
    rest k e =
        let one : b + 1 ≡ 1 + b = omega arith in
        ap (λ (x : ℕ). m % 2 ^ x) one ∙ mod-pow-add m 1 b ∙ ap (λ (x : ℕ). x * 2 ^ b + m % 2 ^ b) (sym (and_mask (m / 2 ^ b) 1) ∙ e) ∙ ap (λ (x : ℕ). k * 2 ^ b + x) (sym low)

    pub down : half ≡ 0 → m / 2 ^ (b + 1) ≡ closest m (2 ^ (b + 1))
    down e = closest-down m (2 ^ (b + 1)) (omega (arith, unit, rest 0 e, low-lt))

    module _ (g : half ≡ 0 → ⊥) where
      one : half ≡ 1
      one = omega (arith, and_mask (m / 2 ^ b) 1)

      pub tie : sticky ≡ 0 → m / 2 ^ (b + 1) + bit_and (m / 2 ^ (b + 1)) 1 ≡ closest m (2 ^ (b + 1))
      tie e = rw (and_mask (m / 2 ^ (b + 1)) 1) (closest-tie m (2 ^ (b + 1)) (omega (arith, unit, rest 1 one)))

      pub up : (sticky ≡ 0 → ⊥) → m / 2 ^ (b + 1) + 1 ≡ closest m (2 ^ (b + 1))
      up e = rw add-one (closest-up m (2 ^ (b + 1)) (omega (arith, unit, rest 1 one)))

pub ruleset laws = (rules, even-fits, next_fits, bit-pos, down, tie, up)
