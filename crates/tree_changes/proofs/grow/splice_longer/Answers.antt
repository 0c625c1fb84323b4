-- `grow::splice_longer` meets its contract. Assumes nothing.
use Rattle.tree_changes.proofs.Splices.{splices}
use Rattle.tree_changes.proofs.grow.splice_longer.Goals as goal

pub returns : goal.returns
returns c = search splices
