-- `all::write_all` meets its contract. Assumes nothing.
use Rattle.memory_bytes.proofs.Writing.{all-written, cell-held, cell_room, one_written, writing}
use Rattle.memory_bytes.proofs.all.write_all.Goals as goal

pub put_cell-end-requires : goal.put_cell-end-requires
put_cell-end-requires c = (cell-held _ _ c.loop-cell.invariant.0 c.in-Some.ensures.steps, cell_room _ _ c.loop-cell.invariant.0 c.in-Some.ensures.steps)

pub loop-cell-preserved : goal.loop-cell-preserved
loop-cell-preserved c = (one_written _ _ c.loop-cell.invariant.0 c.in-Some.ensures.steps c.put_cell-end.ensures, search writing)

pub returns : goal.returns
returns c = all-written _ _ c.loop-cell.invariant.0 c.in-None.ensures.steps.0
