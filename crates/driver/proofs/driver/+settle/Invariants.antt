-- `driver::settle` meets its contract. Assumes nothing.
use mathlib.Core.Path.{◌≡◌}
use lib.ListN.{length}
use Rattle.lines.specs.Lines.{Lends}
use Rattle.driver.specs.Driver.{zeros, Prepared}
use Rattle.driver.proofs.Settling.{Goes}
use Rattle.driver.proofs.driver.+settle.Given as goal

abbrev pub decreases-settle : goal.decreases-settle
decreases-settle l = zeros l.lines.now.index.now

abbrev pub invariant-loop-d : goal.invariant-loop-d
invariant-loop-d l =
    Prepared l.file.source l.classes (length l.lines.index.now) (length l.room) × Goes l.file.source l.t l.initial.lines.index.now l.initial.lines.store.now l.initial.lines.end l.lines.index.now l.lines.store.now l.lines.end × Lends l.initial.lines l.lines × (length l.room ≡ length l.initial.room)

abbrev pub decreases-loop-d : goal.decreases-loop-d
decreases-loop-d l = zeros l.lines.index.now
