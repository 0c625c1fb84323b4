-- A loop that tests every number below a count: it goes on while the tests hold and stops at the first that fails. Assumes nothing.
use mathlib.Core.Path.{◌≡◌, refl, sym}
use mathlib.Core.Bool.{Bool, true, false, ◌&&◌, and-false}
use Prim.Native.Nat.{ℕ, zero, suc, ◌+◌, ◌<◌, ◌≤◌}
use native.Mathlib.Omega.{arith}
use native.Mathlib.Decide.{ℕ_discrete}
use native.Mathlib.Numerals.{add-one}
use borrow.Author.Rules.{rules}
use borrow.Author.Tests.{not-true, not-false}
use Rattle.definition.specs.Base.{every}

-- the tests below n hold
pub record Passed (p : ℕ → Bool) (n : ℕ) : Type 0 where
  pub far : every p n ≡ true

pub none_yet : (p : ℕ → Bool) → Passed p 0
unfolding every
none_yet p = record { far = refl }

module _ {p : ℕ → Bool} {n : ℕ} (i : Passed p n) where
  pub all-passed : (m : ℕ) → n ≤ m → m ≤ n → true ≡ every p m
  all-passed m h l = let e : m ≡ n = omega arith in rw e (sym i.far)

  pub passes : {r : Bool} → r ≡ p n → r ≡ true → Passed p (n + 1)
  unfolding every
  passes e a = record { far = rw (add-one, i.far, ← e) a }

pub fails : {p : ℕ → Bool} {n : ℕ} → Passed p n → {r : Bool} → r ≡ p n → r ≡ false → (m : ℕ) → n < m → false ≡ every p m
unfolding every
fails i e a zero h = absurd (omega arith)
fails {p} {n} i e a (suc m) h = go (ℕ_discrete n m) (fails i e a m)
  where
    go : Dec (n ≡ m) → (n < m → false ≡ every p m) → false ≡ every p m && p m
    go (yes q) ih = rw (← q, ← e, a) (sym (and-false (every p n)))
    go (no q) ih = rw (← ih (omega (arith, q))) refl

-- where the count is what a call said
module _ {p : ℕ → Bool} {n : ℕ} (i : Passed p n) {m k : ℕ} where
  pub all-counted : m ≤ n → n ≤ m → m ≡ k → true ≡ every p k
  all-counted h l e = rw (← e) (all-passed i m l h)

  pub fails-counted : n < m → m ≡ k → {r : Bool} → r ≡ p n → r ≡ false → false ≡ every p k
  fails-counted h q e a = rw (← q) (fails i e a m h)

pub ruleset scans = (rules, not-true, not-false, none_yet, all-passed, passes, fails, all-counted, fails-counted)
