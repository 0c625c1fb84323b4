-- `types::count_types` meets its contract. Assumes nothing.
use mathlib.Core.Path.{◌≡◌}
use Prim.Native.Nat.{◌≤◌}
use Rattle.definition.specs.Layout.{count, types}
use Rattle.sheet_parts.specs.Section.{TypesLong}
use Rattle.sheet_parts.proofs.types.count_types.Given as goal

abbrev pub invariant-loop-t : goal.invariant-loop-t
invariant-loop-t l = TypesLong l.file.source l.t l.words × (l.t ≤ l.many) × (l.many ≡ count l.file.source types)
