-- `all::size_all` meets its contract. Assumes nothing.
use Rattle.memory_forms.specs.Cells.{left}
use Rattle.memory_bytes.proofs.Writing.{Summed}
use Rattle.memory_bytes.proofs.all.size_all.Given as goal

abbrev pub invariant-loop-cell : goal.invariant-loop-cell
invariant-loop-cell l = Summed l.file (left l.cells) (left l.cell-iterator) l.sum
