-- A table: one value for each of so many records.
use Rattle.std.specs.Prelude.{◌≡◌, drop}
use Rattle.std.proofs.Math.Path.{refl}
use Rattle.std.proofs.Common.{◌∙◌, arith}
use mathlib.Core.List.{List, [], ◌∷◌, ◌++◌}
use Prim.Native.Nat.{ℕ, zero, suc, ◌≤◌, ◌<◌}
use Rattle.std.proofs.Math.Decide.{ℕ_discrete}
use Rattle.std.proofs.Math.ListN.{length, get_or, length-append, get_or-append}
use Rattle.std.proofs.lemmas.List.{get_or_at}

unfoldable pub table_of : (ℕ → ℕ) → ℕ → List ℕ
table_of g zero = []
table_of g (suc n) = table_of g n ++ (g n ∷ [])

module _ (g : ℕ → ℕ) where
  pub table-length : (n : ℕ) → length (table_of g n) ≡ n
  unfolding table_of
  table-length zero = refl
  table-length (suc n) = simp length-append (omega (arith, table-length n))

  pub table_at : (n k d : ℕ) → k < n → get_or (table_of g n) k d ≡ g k
  unfolding table_of
  table_at zero k d h = absurd (omega arith)
  table_at (suc n) k d h = go (ℕ_discrete k n) (table_at n k d)
    where
      go : Dec (k ≡ n) → (k < n → get_or (table_of g n) k d ≡ g k) → get_or (table_of g n ++ (g n ∷ [])) k d ≡ g k
      go (yes e) ih = rw e (get_or_at (table_of g n) (g n) [] d n (table-length n))
      go (no e) ih =
          let l : k < n = omega (arith, e) in
          let b : k < length (table_of g n) = omega (arith, table-length n) in
          get_or-append (table_of g n) (g n ∷ []) d k b ∙ ih l

-- so many of the words hold a table, and the others are as they were lent
pub record Filled (g : ℕ → ℕ) (n : ℕ) (lent words : List ℕ) : Type 0 where
  pub room : n ≤ length lent
  pub is : words ≡ table_of g n ++ drop n lent
