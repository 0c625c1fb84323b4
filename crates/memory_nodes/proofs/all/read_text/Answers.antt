-- `all::read_text` meets its contract. Assumes nothing.
use Rattle.memory_nodes.proofs.Along.{read_more, read-room, read-few}
use Rattle.memory_nodes.proofs.Loops.{texting-room, texting-more, texting-done, textings}
use Rattle.memory_nodes.proofs.all.read_text.Goals as goal

pub put_text-end-requires : goal.put_text-end-requires
put_text-end-requires c = (read-room c.loop-cell.invariant.0 c.in-Some.ensures.steps c.form-form.ensures, read-few c.loop-cell.invariant.0 c.in-Some.ensures.steps c.form-form.ensures, texting-room c.loop-cell.invariant.1 c.in-Some.ensures.steps c.form-form.ensures)

pub loop-cell-preserved : goal.loop-cell-preserved
loop-cell-preserved c = (read_more c.loop-cell.invariant.0 c.in-Some.ensures.steps c.form-form.ensures c.size_of-from.ensures.is, texting-more c.loop-cell.invariant.1 c.in-Some.ensures.steps c.form-form.ensures c.size_of-from.ensures.is c.put_text-end.ensures, search textings)

pub returns : goal.returns
returns c = texting-done c.loop-cell.invariant.1 c.in-None.ensures.steps.0
