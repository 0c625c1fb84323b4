-- `run_all` ends: each case takes words. Assumes nothing.
use Rattle.std.proofs.Common.{length}
use Rattle.tree_vectors.proofs.run_all.Given as goal

abbrev pub decreases-loop-head : goal.decreases-loop-head
decreases-loop-head g l = length l.rest
