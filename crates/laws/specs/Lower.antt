-- What is worked out for a record from lower records only: as soon as it suffices, fuel does not matter. Assumes nothing.
use Rattle.std.specs.Prelude.{◌≡◌, ℕ, zero, suc, ◌<◌}
use Rattle.std.proofs.Common.{sym, ◌∙◌, arith}

module _ {A : Type 0} (many : ℕ) (from : ℕ → (ℕ → A) → A) (up_to : ℕ → ℕ → A)
    (same : (n : ℕ) → n < many → (d g : ℕ → A) → ((i : ℕ) → i < n → d i ≡ g i) → from n d ≡ from n g) (next : (k n : ℕ) → up_to (suc k) n ≡ from n (up_to k)) where
  -- as soon as it suffices, fuel does not matter
  pub fuel : (k m n : ℕ) → n < k → n < m → n < many → up_to k n ≡ up_to m n
  fuel zero m n h l i = absurd (omega arith)
  fuel (suc k) zero n h l i = absurd (omega arith)
  fuel (suc k) (suc m) n h l i =
      next k n ∙ same n i (up_to k) (up_to m) (λ j b. fuel k m j (omega arith) (omega arith) (omega arith)) ∙ sym (next m n)

  pub from-lower : (n : ℕ) → n < many → up_to (suc n) n ≡ from n (λ j. up_to (suc j) j)
  from-lower n i = next n n ∙ same n i (up_to n) (λ j. up_to (suc j) j) (λ j b. fuel n (suc j) j b (omega arith) (omega arith))
