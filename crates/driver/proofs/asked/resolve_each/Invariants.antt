-- `asked::resolve_each` meets its contract. Assumes nothing.
use mathlib.Core.Path.{◌≡◌}
use lib.ListN.{length}
use Rattle.definition.specs.Layout.{count, types}
use Rattle.lines.specs.Lines.{Lends}
use Rattle.driver.specs.Driver.{Prepared}
use Rattle.driver.specs.Asked.{Asking}
use Rattle.driver.proofs.asked.resolve_each.Given as goal

abbrev pub invariant-loop-t : goal.invariant-loop-t
invariant-loop-t g l =
    goal.F-IsAlwaysCallable g l.asks × Prepared l.file.source l.classes (length l.lines.index.now) (length l.room) × Asking l.file.source (goal.F-post g l.asks) l.lines.index.now l.lines.store.now l.lines.end l.t × Lends l.initial.lines l.lines × (l.many ≡ count l.file.source types) × (length l.room ≡ length l.initial.room)
