-- `lowest::rank_all` meets its contract. Assumes nothing.
use mathlib.Core.Path.{◌≡◌}
use Prim.Native.Nat.{◌≤◌}
use Rattle.definition.specs.Layout.{count, types}
use Rattle.ranks.specs.Lowest.{Upto}
use Rattle.ranks.proofs.lowest.rank_all.Given as goal

abbrev pub invariant-loop-t : goal.invariant-loop-t
invariant-loop-t l = (l.t ≤ l.many) × (l.many ≡ count l.file types) × Upto l.file l.t l.ranks
