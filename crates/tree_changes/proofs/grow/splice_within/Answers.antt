-- `grow::splice_within` meets its contract. Assumes nothing.
use Rattle.tree_changes.proofs.Closes.{closes}
use Rattle.tree_changes.proofs.grow.splice_within.Goals as goal

pub returns-then-to-part : goal.returns-then-to-part
returns-then-to-part c = search closes

pub returns-else-to-part : goal.returns-else-to-part
returns-else-to-part c = search closes
