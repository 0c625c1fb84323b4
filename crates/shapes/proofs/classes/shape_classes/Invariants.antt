-- `classes::shape_classes` meets its contract. Assumes nothing.
use mathlib.Core.Path.{◌≡◌}
use Prim.Native.Nat.{◌-◌, ◌≤◌}
use lib.ListN.{length}
use Rattle.definition.specs.Layout.{shapes, count}
use Rattle.records.specs.Tables.{Filled}
use Rattle.shapes.specs.Classes.{shape_class}
use Rattle.shapes.proofs.classes.shape_classes.Given as goal

abbrev pub invariant-loop-n : goal.invariant-loop-n
invariant-loop-n l = (l.n ≤ l.many) × (l.many ≤ length l.initial.words) × (length l.words ≡ length l.initial.words) × (l.many ≡ count l.file.source shapes) × Filled (shape_class l.file.source) l.n l.initial.words l.words

abbrev pub decreases-loop-n : goal.decreases-loop-n
decreases-loop-n l = l.many - l.n
