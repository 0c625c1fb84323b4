-- `variables::put_variables` meets its contract. Assumes nothing.
use mathlib.Core.Path.{◌≡◌}
use Prim.Native.Nat.{◌≤◌}
use lib.ListN.{length}
use Rattle.definition.specs.Layout.{count, variables}
use Rattle.sheet_parts.specs.Section.{WritingBoth}
use Rattle.sheet_parts.proofs.variables.put_variables.Given as goal

abbrev pub invariant-loop-v : goal.invariant-loop-v
invariant-loop-v l = WritingBoth l.file.source l.initial.out l.initial.ends l.v l.ends l.out × (l.v ≤ l.many) × (l.many ≡ count l.file.source variables) × (length l.room ≡ length l.initial.room) × (length l.out ≡ length l.initial.out)
