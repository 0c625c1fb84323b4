use Rattle.std.proofs.Common.{◌≡◌, ℕ, length, replicate, sym}
use lib.ListN.{length-replicate}
use Rattle.check_program.proofs.main.Goals as goal

-- of any number, so that no array is computed where it is cited
filled : (n : ℕ) → n ≡ length {A = ℕ} (replicate n 0)
filled n = sym (length-replicate n 0)

pub slice_bounds-check_named-end : goal.slice_bounds-check_named-end
slice_bounds-check_named-end c = filled 65536

pub slice_bounds-check_named-end-2 : goal.slice_bounds-check_named-end-2
slice_bounds-check_named-end-2 c = filled 262144

pub slice_bounds-check_named-end-3 : goal.slice_bounds-check_named-end-3
slice_bounds-check_named-end-3 c = filled 1376256
