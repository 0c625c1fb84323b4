-- A rule or a view for each kind stands in a list: what it is at the kinds that the code tells apart. Assumes nothing.
use mathlib.Core.Path.{◌≡◌, ◌∙◌}
use Prim.Native.Nat.{ℕ, zero, suc, ◌+◌, ◌<◌, ◌≤◌}
use native.Mathlib.Omega.{arith}
use native.Mathlib.Decide.{ℕ_discrete}

abbrev sucs : ℕ → ℕ → ℕ
sucs zero k = k
sucs (suc n) k = suc (sucs n k)

-- one number less to tell apart: where there are more than six, `omega` leaves them
pub more : {n k : ℕ} → n ≤ k → (k ≡ n → ⊥) → suc n ≤ k
more l p = omega (arith, p)

module _ {A : Type 0} where
  -- n kinds from `first` on have the same entry in two
  abbrev Agree : (ℕ → A) → (ℕ → A) → ℕ → ℕ → Type 0
  Agree g h first zero = Unit {0}
  Agree g h first (suc n) = (h first ≡ g first) × Agree g h (suc first) n

  pub agree_at : (g h : ℕ → A) (first n k : ℕ) → first ≤ k → k < first + n → Agree g h first n → h k ≡ g k
  agree_at g h first zero k l u s = absurd (omega arith)
  agree_at g h first (suc n) k l u s = go (ℕ_discrete k first) (λ m. agree_at g h (suc first) n k m (omega arith) s.1)
    where
      go : Dec (k ≡ first) → (suc first ≤ k → h k ≡ g k) → h k ≡ g k
      go (yes e) ih = rw e s.0
      go (no e) ih = ih (omega (arith, e))

  -- n kinds from `first` on have one entry
  pub in-run : (g : ℕ → A) (first n k : ℕ) {r : A} → first ≤ k → k < first + n → Agree g (λ j. g first) first n → r ≡ g first → r ≡ g k
  in-run g first n k l h s e = e ∙ agree_at g (λ j. g first) first n k l h s

  -- the kinds from n on have none
  pub past : (g : ℕ → A) (n k : ℕ) {r : A} → n ≤ k → ((j : ℕ) → r ≡ g (sucs n j)) → r ≡ g k
  past g zero k l s = s k
  past g (suc n) zero l s = absurd (omega arith)
  past g (suc n) (suc k) l s = past (λ j. g (suc j)) n k (omega arith) s
