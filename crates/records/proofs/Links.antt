-- A link that the code compares with 0, and takes 1 from where it is none. Assumes nothing.
use mathlib.Core.Path.{◌≡◌}
use Prim.Native.Nat.{ℕ, suc, ◌-◌, ◌≤◌}
use native.Mathlib.Omega.{arith}
use borrow.Author.Rules.{rules}
use Rattle.std.specs.Prelude.{Option, Some, None}
use Rattle.std.specs.Option.{SomeIff}
use Rattle.definition.specs.Base.{on_link}

pub no-link : {A : Type 0} (x : A) (g : ℕ → A) (l : ℕ) → l ≡ 0 → x ≡ on_link l x g
no-link x g l e = rw e

pub a-link : {A : Type 0} (x : A) (g : ℕ → A) (l : ℕ) → (l ≡ 0 → ⊥) → {r : A} → r ≡ g (l - 1) → r ≡ on_link l x g
a-link x g l n e = let q : l ≡ suc (l - 1) = omega (arith, n) in rw q e

-- a link that the code takes 1 from where it can
module _ {A : Type 0} (x : A) (g : ℕ → A) (l : ℕ) {o : Option ℕ} where
  pub none-linked : SomeIff o (1 ≤ l) (l - 1) → o ≡ None → x ≡ on_link l x g
  none-linked t e = let k : (1 ≤ l → ⊥) = (rw e at t) in let q : l ≡ 0 = omega (arith, k) in rw q

  pub one-linked : SomeIff o (1 ≤ l) (l - 1) → {n : ℕ} → o ≡ Some n → {r : A} → r ≡ g n → r ≡ on_link l x g
  one-linked t {n} e h = let k : (1 ≤ l) × (n ≡ l - 1) = (rw e at t) in let q : l ≡ suc n = omega (arith, k.0, k.1) in rw q h

pub ruleset links = (rules, no-link, a-link, none-linked, one-linked)
