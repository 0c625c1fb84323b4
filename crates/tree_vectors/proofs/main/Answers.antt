use Rattle.std.proofs.Common.{◌≡◌, ℕ, length, replicate, sym}
use lib.ListN.{length-replicate}
use Rattle.tree_vectors.proofs.main.Goals as goal

-- of any number, so that no array is computed where it is cited
filled : (n : ℕ) → n ≡ length {A = ℕ} (replicate n 0)
filled n = sym (length-replicate n 0)

pub slice_bounds-run-end : goal.slice_bounds-run-end
slice_bounds-run-end c = filled 1048576

pub slice_bounds-run-end-2 : goal.slice_bounds-run-end-2
slice_bounds-run-end-2 c = filled 262144

pub slice_bounds-run-end-3 : goal.slice_bounds-run-end-3
slice_bounds-run-end-3 c = filled 65536
