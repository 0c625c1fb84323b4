-- `keys::run_sum` meets its contract. Assumes nothing.
use Prim.Native.Nat.{◌-◌, ◌≤◌, ◌<◌}
use Rattle.shapes.proofs.Keying.{Summed}
use Rattle.shapes.proofs.keys.run_sum.Given as goal

abbrev pub invariant-loop-j : goal.invariant-loop-j
invariant-loop-j l = (l.j ≤ l.many) × (l.section < 14) × (l.place < 16) × Summed l.file l.section l.place l.first l.j l.sum

abbrev pub decreases-loop-j : goal.decreases-loop-j
decreases-loop-j l = l.many - l.j
