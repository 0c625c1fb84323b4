-- `extent::after` meets its contract. The loop: the trees still to come end where the whole run ends. Assumes nothing.
use Rattle.tree.proofs.Walks.{Going}
use Rattle.tree.proofs.extent.after.Given as goal

abbrev pub invariant-loop-pending : goal.invariant-loop-pending
invariant-loop-pending l = Going l.s l.from l.count l.left l.at l.pending

abbrev pub decreases-loop-pending : goal.decreases-loop-pending
decreases-loop-pending l = l.left
