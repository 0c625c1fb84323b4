-- Bytes of a number, each as it is turned. Assumes nothing.
use Rattle.std.specs.Prelude.{◌≡◌, List, [], ◌∷◌, ℕ, zero, suc, ◌/◌, ◌%◌}
use Rattle.laws.specs.Puts.{Puts}

unfoldable pub turned : (ℕ → ℕ) → ℕ → ℕ → List ℕ
turned g zero n = []
turned g (suc k) n = g (n % 256) ∷ turned g k (n / 256)

-- for any function that a closure's answers agree with
pub record TurnedBy (answers : ℕ → ℕ → Type 0) (count n : ℕ) (old : List ℕ) (at r : ℕ) (new : List ℕ) : Type 0 where
  pub is : (g : ℕ → ℕ) → ((b x : ℕ) → answers b x → x ≡ g b) → Puts (turned g count n) old at r new
