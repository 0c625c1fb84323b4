-- `all::readable_all` meets its contract. Assumes nothing.
use Rattle.memory_nodes.proofs.Along.{along-formed, along-more, along-stops}
use Rattle.memory_nodes.proofs.all.readable_all.Goals as goal

pub readable-requires : goal.readable-requires
readable-requires c = (along-formed c.loop-cell.invariant c.in-Some.ensures.steps c.form-form.ensures, c.loop-cell.invariant.known, c.loop-cell.invariant.inside)

pub returns-then-not-readable : goal.returns-then-not-readable
returns-then-not-readable c = along-stops c.loop-cell.invariant c.in-Some.ensures.steps c.form-form.ensures c.readable.ensures c.if-not-readable.true

pub loop-cell-preserved : goal.loop-cell-preserved
loop-cell-preserved c = along-more c.loop-cell.invariant c.in-Some.ensures.steps c.form-form.ensures c.readable.ensures c.if-not-readable.false c.size_of-from.ensures.is
