use Rattle.std.proofs.Common.{◌≡◌, ℕ, length, replicate, sym}
use lib.ListN.{length-replicate}
use Rattle.sheet_program.proofs.main.Goals as goal

-- of any number, so that no array is computed where it is cited
filled : (n : ℕ) → n ≡ length {A = ℕ} (replicate n 0)
filled n = sym (length-replicate n 0)

pub slice_bounds-print-end : goal.slice_bounds-print-end
slice_bounds-print-end c = filled 32769

pub slice_bounds-print-end-2 : goal.slice_bounds-print-end-2
slice_bounds-print-end-2 c = filled 90112

pub slice_bounds-print-end-3 : goal.slice_bounds-print-end-3
slice_bounds-print-end-3 c = filled 8192

pub slice_bounds-print-end-4 : goal.slice_bounds-print-end-4
slice_bounds-print-end-4 c = filled 1695744
