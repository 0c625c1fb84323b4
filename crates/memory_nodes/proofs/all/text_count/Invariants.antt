-- `all::text_count` meets its contract. Assumes nothing.
use mathlib.Core.Bool.{true}
use Rattle.memory_forms.specs.Cells.{left}
use Rattle.memory_nodes.proofs.Along.{Along}
use Rattle.memory_nodes.proofs.Loops.{Counting}
use Rattle.memory_nodes.proofs.all.text_count.Given as goal

abbrev pub invariant-loop-cell : goal.invariant-loop-cell
invariant-loop-cell l = Along l.file l.bytes (left l.cell-iterator) l.from true × Counting l.file l.bytes (left l.cells) (left l.cell-iterator) l.from l.total
