-- `all::read_text` meets its contract. Assumes nothing.
use mathlib.Core.Path.{◌≡◌}
use mathlib.Core.Bool.{true}
use lib.ListN.{length}
use Rattle.memory_forms.specs.Cells.{left}
use Rattle.memory_nodes.proofs.Along.{Along}
use Rattle.memory_nodes.proofs.Loops.{Texting}
use Rattle.memory_nodes.proofs.all.read_text.Given as goal

abbrev pub invariant-loop-cell : goal.invariant-loop-cell
invariant-loop-cell l =
    Along l.file l.bytes (left l.cell-iterator) l.from true × Texting l.file l.bytes (left l.cells) l.initial.characters (left l.cell-iterator) l.from l.end l.characters × (length l.characters ≡ length l.initial.characters)
