-- `extent::after` meets its contract. The loop: the trees still to come end where the whole run ends. Assumes nothing.
use Rattle.tree.proofs.Walks.{goings}
use Rattle.tree.proofs.extent.after.Goals as goal

pub returns-then-left-pending : goal.returns-then-left-pending
returns-then-left-pending c = search goings

pub returns-then-kind-gt14 : goal.returns-then-kind-gt14
returns-then-kind-gt14 c = search goings

pub loop-pending-preserved : goal.loop-pending-preserved
loop-pending-preserved c = search goings
