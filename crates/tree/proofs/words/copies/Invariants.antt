-- `words::copies` meets its contract. The loop: so many copies stand there, all else is as it was, and so many are still to come. Assumes nothing.
use Rattle.tree.proofs.Repeats.{Going}
use Rattle.tree.proofs.words.copies.Given as goal

abbrev pub invariant-loop-left : goal.invariant-loop-left
invariant-loop-left l = Going l.initial.out l.at l.count l.times l.done l.left l.out

abbrev pub decreases-loop-left : goal.decreases-loop-left
decreases-loop-left l = l.left
