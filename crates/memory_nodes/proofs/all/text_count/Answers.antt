-- `all::text_count` meets its contract. Assumes nothing.
use Rattle.memory_nodes.proofs.Along.{read_more, read-room}
use Rattle.memory_nodes.proofs.Loops.{counting_more, counting-done}
use Rattle.memory_nodes.proofs.all.text_count.Goals as goal

pub text_length-requires : goal.text_length-requires
text_length-requires c = read-room c.loop-cell.invariant.0 c.in-Some.ensures.steps c.form-form.ensures

pub loop-cell-preserved : goal.loop-cell-preserved
loop-cell-preserved c = (read_more c.loop-cell.invariant.0 c.in-Some.ensures.steps c.form-form.ensures c.size_of-from.ensures.is, counting_more c.loop-cell.invariant.1 c.in-Some.ensures.steps c.form-form.ensures c.size_of-from.ensures.is c.text_length.ensures.is c.text_length.ensures.small)

pub returns : goal.returns
returns c = counting-done c.loop-cell.invariant.1 c.in-None.ensures.steps.0
