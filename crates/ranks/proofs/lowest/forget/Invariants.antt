-- `lowest::forget` meets its contract. Assumes nothing.
use mathlib.Core.Path.{◌≡◌}
use Prim.Native.Nat.{◌≤◌}
use lib.ListN.{length}
use Rattle.ranks.specs.Lowest.{Unknowns}
use Rattle.ranks.proofs.lowest.forget.Given as goal

abbrev pub invariant-loop-i : goal.invariant-loop-i
invariant-loop-i l = (l.i ≤ length l.initial.ranks) × (length l.ranks ≡ length l.initial.ranks) × (length l.initial.ranks ≤ 1024) × Unknowns l.i l.ranks
