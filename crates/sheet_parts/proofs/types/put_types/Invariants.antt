-- `types::put_types` meets its contract. Assumes nothing.
use mathlib.Core.Path.{◌≡◌}
use Prim.Native.Nat.{◌≤◌}
use lib.ListN.{length}
use Rattle.definition.specs.Layout.{count, types}
use Rattle.definition.specs.Uses.{rank_at}
use Rattle.sheet_parts.specs.Resolved.{ranked_line}
use Rattle.sheet_parts.specs.Section.{Writing}
use Rattle.sheet_parts.proofs.types.put_types.Given as goal

abbrev pub invariant-loop-t : goal.invariant-loop-t
invariant-loop-t l = Writing (ranked_line l.file.source (rank_at l.ranks)) (count l.file.source types) l.initial.out l.initial.end l.t l.end l.out × (l.t ≤ l.many) × (l.many ≡ count l.file.source types) × (length l.out ≡ length l.initial.out)
