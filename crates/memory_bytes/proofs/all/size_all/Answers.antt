-- `all::size_all` meets its contract. Assumes nothing.
use Rattle.memory_forms.specs.Cell.{cell_of}
use Rattle.memory_bytes.proofs.Writing.{all-summed, sum_fits, one-summed, size-is}
use Rattle.memory_bytes.proofs.all.size_all.Goals as goal

pub overflow_add-sum : goal.overflow_add-sum
overflow_add-sum c = record { fits = sum_fits _ _ c.loop-cell.invariant c.in-Some.ensures.steps c.size_of-sum.ensures.small }

pub loop-cell-preserved : goal.loop-cell-preserved
loop-cell-preserved c = one-summed _ _ c.loop-cell.invariant c.in-Some.ensures.steps c.size_of-sum.ensures.small (size-is c.args.file.now (cell_of c.in-Some.cell.shape c.in-Some.cell.node) c.form.ensures c.size_of-sum.ensures.is)

pub returns : goal.returns
returns c = all-summed _ _ c.loop-cell.invariant c.in-None.ensures.steps.0
