-- `variables::count_variables` meets its contract. Assumes nothing.
use mathlib.Core.Path.{◌≡◌}
use Prim.Native.Nat.{◌≤◌}
use lib.ListN.{length}
use Rattle.definition.specs.Layout.{count, variables}
use Rattle.sheet_parts.specs.Section.{SectionsLong}
use Rattle.sheet_parts.proofs.variables.count_variables.Given as goal

abbrev pub invariant-loop-v : goal.invariant-loop-v
invariant-loop-v l = SectionsLong l.file.source l.v l.words × (l.v ≤ l.many) × (l.many ≡ count l.file.source variables) × (length l.room ≡ length l.initial.room)
