-- The names that a run lists, one by one. Assumes nothing.
use Rattle.std.specs.Prelude.{◌≡◌, refl, List, ◌∷◌, ℕ, suc}
use Rattle.std.proofs.Common.{ne_eqb}
use Rattle.definition.specs.Layout.{word, shape_fields, block_fields}
use Rattle.definition.specs.Places.{names_in, block_names}

-- ---- one name more
pub names-next : (f : List ℕ) (first k : ℕ) → names_in f first (suc k) ≡ word f shape_fields first 0 ∷ names_in f (suc first) k
unfolding names_in
names-next f first k = refl

-- in-outs have no name here
pub in-out-next : (f : List ℕ) (first k : ℕ) → word f block_fields first 2 ≡ 2 → block_names f first (suc k) ≡ block_names f (suc first) k
unfolding block_names
in-out-next f first k e = rw e

pub block-next : (f : List ℕ) (first k : ℕ) → (word f block_fields first 2 ≡ 2 → ⊥) → block_names f first (suc k) ≡ word f block_fields first 0 ∷ block_names f (suc first) k
unfolding block_names
block-next f first k n = rw (ne_eqb (word f block_fields first 2) 2 n)
