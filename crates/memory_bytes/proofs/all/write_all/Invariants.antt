-- `all::write_all` meets its contract. Assumes nothing.
use mathlib.Core.Path.{◌≡◌}
use lib.ListN.{length}
use Rattle.memory_forms.specs.Cells.{left}
use Rattle.memory_bytes.proofs.Writing.{Written}
use Rattle.memory_bytes.proofs.all.write_all.Given as goal

abbrev pub invariant-loop-cell : goal.invariant-loop-cell
invariant-loop-cell l = Written l.file (left l.cells) l.initial.bytes (left l.cell-iterator) l.bytes l.end × (length l.bytes ≡ length l.initial.bytes)
