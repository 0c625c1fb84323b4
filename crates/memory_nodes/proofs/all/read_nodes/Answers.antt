-- `all::read_nodes` meets its contract. Assumes nothing.
use Rattle.memory_nodes.proofs.Along.{read_more, read-room, along-sized}
use Rattle.memory_nodes.proofs.Loops.{noding-room, noding-more, noding-done, nodings}
use Rattle.memory_nodes.proofs.all.read_nodes.Goals as goal

pub put_read-end-requires : goal.put_read-end-requires
put_read-end-requires c = (along-sized c.loop-cell.invariant.0 c.in-Some.ensures.steps c.form-form.ensures, read-room c.loop-cell.invariant.0 c.in-Some.ensures.steps c.form-form.ensures, noding-room c.loop-cell.invariant.1 c.in-Some.ensures.steps)

pub text_length-many-requires : goal.text_length-many-requires
text_length-many-requires c = read-room c.loop-cell.invariant.0 c.in-Some.ensures.steps c.form-form.ensures

pub loop-cell-preserved : goal.loop-cell-preserved
loop-cell-preserved c = (read_more c.loop-cell.invariant.0 c.in-Some.ensures.steps c.form-form.ensures c.size_of-from.ensures.is, noding-more c.loop-cell.invariant.1 c.in-Some.ensures.steps c.form-form.ensures c.size_of-from.ensures.is c.text_length-many.ensures.is c.text_length-many.ensures.small c.put_read-end.ensures, search nodings)

pub returns : goal.returns
returns c = noding-done c.loop-cell.invariant.1 c.in-None.ensures.steps.0
