-- `all::readable_all` meets its contract. Assumes nothing.
use Rattle.memory_definition.specs.Memory.{readable_all}
use Rattle.memory_forms.specs.Cells.{left}
use Rattle.memory_nodes.proofs.Along.{Along}
use Rattle.memory_nodes.proofs.all.readable_all.Given as goal

abbrev pub invariant-loop-cell : goal.invariant-loop-cell
invariant-loop-cell l = Along l.file l.bytes (left l.cell-iterator) l.from (readable_all l.file (left l.cells) l.bytes)
