-- A number's digits. Assumes nothing.
use mathlib.Core.Path.{◌≡◌, refl, ap, sym, ◌∙◌}
use mathlib.Core.Bool.{Bool, true, false}
use mathlib.Core.List.{List, [], ◌∷◌, ◌++◌}
use Prim.Native.Nat.{ℕ, zero, suc, ◌+◌, ◌*◌, ◌/◌, ◌%◌, ◌^◌, ◌≤◌, ◌<◌}
use native.Mathlib.Omega.{arith}
use native.Mathlib.Nat.{div-lt_self, div-lt_iff_lt-mul, mod-lt, pow-suc}
use mir.Syntax.{w32}
use mir.Val.{Fits}
use lib.Dec.{ltb}
use lib.ListN.{length, length-append}
use borrow.Author.Rules.{rules}
use borrow.Author.Tests.{lt-ltb, le-ltb, ltb-true, ltb-false}
use Rattle.definition.specs.Program.{digit, decimal}
use Rattle.laws.specs.Puts.{Puts, puts-long, puts_then}
use Rattle.laws.specs.Printing.{decimal-is}

pub one-digit : (n : ℕ) → n < 10 → decimal n ≡ digit n ∷ []
one-digit n h = decimal-is n ∙ rw (lt-ltb n 10 h)

pub last-digit : (n : ℕ) → 10 ≤ n → decimal n ≡ decimal (n / 10) ++ (digit (n % 10) ∷ [])
last-digit n h = decimal-is n ∙ rw (le-ltb n 10 h)

pub digits_long : (n : ℕ) → 10 ≤ n → length (decimal n) ≡ length (decimal (n / 10)) + 1
digits_long n h = ap length (last-digit n h) ∙ length-append (decimal (n / 10)) (digit (n % 10) ∷ [])

-- any number below a power of 10 has at most as many digits
digits-most : (k n : ℕ) → n < 10 ^ suc k → length (decimal n) ≤ suc k
digits-most zero n h = omega (arith, ap length (one-digit n h))
digits-most (suc k) n h = go (ltb n 10) refl (digits-most k (n / 10))
  where
    go : (b : Bool) → ltb n 10 ≡ b → (n / 10 < 10 ^ suc k → length (decimal (n / 10)) ≤ suc k) → length (decimal n) ≤ suc (suc k)
    go true e below = omega (arith, ap length (one-digit n (ltb-true n 10 e)))
    go false e below =
        let i : 10 ≤ n = ltb-false n 10 e in
        let m : n < 10 ^ suc k * 10 = rw (pow-suc 10 (suc k)) at h in
        omega (arith, digits_long n i, below ((div-lt_iff_lt-mul (omega arith)).1 m))

pub word-digits : (n : ℕ) → Fits w32 n → length (decimal n) ≤ 10
word-digits n h = let k : n < 2 ^ 32 = h.fits in digits-most 9 n (omega arith)

pub quotient-less : (n : ℕ) → 10 ≤ n → n / 10 < n
quotient-less n i = div-lt_self (omega arith) (omega arith)

-- ---- there is room for them
module _ (n at : ℕ) (old : List ℕ) (h : at + length (decimal n) ≤ length old) where
  pub digit_room : n < 10 → at < length old
  digit_room i = omega (arith, ap length (one-digit n i))

  pub quotient-room : 10 ≤ n → at + length (decimal (n / 10)) ≤ length old
  quotient-room i = omega (arith, digits_long n i)

  pub last-room : 10 ≤ n → {end : ℕ} {mid : List ℕ} → Puts (decimal (n / 10)) old at end mid → end < length mid
  last-room i p = omega (arith, digits_long n i, p.ends, puts-long p)

-- ---- they are put
module _ (n : ℕ) {at : ℕ} {old : List ℕ} where
  pub one-put : n < 10 → {b r : ℕ} {new : List ℕ} → b ≡ digit n → Puts (b ∷ []) old at r new → Puts (decimal n) old at r new
  one-put i {b} {r} {new} e p = rw (one-digit n i, sym e) p

  pub last-put : 10 ≤ n → {end : ℕ} {mid : List ℕ} → Puts (decimal (n / 10)) old at end mid → {b r : ℕ} {new : List ℕ} → b ≡ digit (n % 10) → Puts (b ∷ []) mid end r new → Puts (decimal n) old at r new
  last-put i p {b} {r} {new} e q = rw (last-digit n i, sym e) (puts_then p q)

pub remainder-less : (n : ℕ) → n % 10 < 10
remainder-less n = mod-lt n (omega arith)

pub ruleset numbers = (rules, digit_room, one-put, quotient-less, quotient-room, last-room, last-put, remainder-less)
