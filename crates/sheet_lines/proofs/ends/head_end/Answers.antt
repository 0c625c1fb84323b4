-- `ends::head_end` meets its contract. Assumes nothing.
use Rattle.sheet_lines.proofs.Ending.{heads}
use Rattle.sheet_lines.proofs.ends.head_end.Goals as goal

pub overflow_add-state : goal.overflow_add-state
overflow_add-state c = search heads

pub offset_bounds-sheet-at : goal.offset_bounds-sheet-at
offset_bounds-sheet-at c = search heads

pub bounds-sheet-at : goal.bounds-sheet-at
bounds-sheet-at c = search heads

pub bounds-sheet-at-2 : goal.bounds-sheet-at-2
bounds-sheet-at-2 c = search heads

pub overflow_sub-count : goal.overflow_sub-count
overflow_sub-count c = search heads

pub bounds-sheet-from : goal.bounds-sheet-from
bounds-sheet-from c = search heads
