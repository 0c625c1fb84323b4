-- `types::types_right` meets its contract. Assumes nothing.
use mathlib.Core.Path.{◌≡◌}
use lib.ListN.{length}
use Rattle.sheet.specs.Checks.{Checks}
use Rattle.sheet.proofs.Looping.{Typing}
use Rattle.sheet.proofs.types.types_right.Given as goal

abbrev pub invariant-loop-t : goal.invariant-loop-t
invariant-loop-t l = Checks l.file.source l.known l.sheet (length l.room) × Typing l.file.source l.sheet l.many l.t l.at × (length l.room ≡ length l.initial.room)
