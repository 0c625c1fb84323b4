use Rattle.std.proofs.Common.{◌≡◌, ℕ, length, replicate, sym}
use lib.ListN.{length-replicate}
use Rattle.sheet_vectors.proofs.main.Goals as goal

-- of any number, so that no array is computed where it is cited
filled : (n : ℕ) → n ≡ length {A = ℕ} (replicate n 0)
filled n = sym (length-replicate n 0)

pub slice_bounds-replay_all-end : goal.slice_bounds-replay_all-end
slice_bounds-replay_all-end c = filled 4096

pub slice_bounds-replay_all-end-2 : goal.slice_bounds-replay_all-end-2
slice_bounds-replay_all-end-2 c = filled 4096

pub slice_bounds-replay_all-end-3 : goal.slice_bounds-replay_all-end-3
slice_bounds-replay_all-end-3 c = filled 4096

pub slice_bounds-replay_all-end-4 : goal.slice_bounds-replay_all-end-4
slice_bounds-replay_all-end-4 c = filled 4096

pub slice_bounds-replay_all-end-5 : goal.slice_bounds-replay_all-end-5
slice_bounds-replay_all-end-5 c = filled 737280
