-- `variables::variables_right` meets its contract. Assumes nothing.
use mathlib.Core.Path.{◌≡◌}
use lib.ListN.{length}
use Rattle.sheet.specs.Checks.{Checks}
use Rattle.sheet.proofs.Looping.{Pairing}
use Rattle.sheet.proofs.variables.variables_right.Given as goal

abbrev pub invariant-loop-v : goal.invariant-loop-v
invariant-loop-v l =
    Checks l.file.source l.known l.sheet (length l.room) × Pairing l.file.source l.sheet l.fn.lines l.many l.v l.at l.from × (length l.room ≡ length l.initial.room)
