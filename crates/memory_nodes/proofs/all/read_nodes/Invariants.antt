-- `all::read_nodes` meets its contract. Assumes nothing.
use mathlib.Core.Path.{◌≡◌}
use mathlib.Core.Bool.{true}
use lib.ListN.{length}
use Rattle.memory_forms.specs.Cells.{left}
use Rattle.memory_nodes.proofs.Along.{Along}
use Rattle.memory_nodes.proofs.Loops.{Noding}
use Rattle.memory_nodes.proofs.all.read_nodes.Given as goal

abbrev pub invariant-loop-cell : goal.invariant-loop-cell
invariant-loop-cell l =
    Along l.file l.bytes (left l.cell-iterator) l.from true × Noding l.file l.bytes (left l.cells) l.initial.out (left l.cell-iterator) l.from l.many l.end l.out × (length l.out ≡ length l.initial.out)
