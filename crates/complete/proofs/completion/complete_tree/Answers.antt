-- `completion::complete_tree` meets its contract. Assumes nothing.
use Rattle.complete.proofs.Completing.{completes-kind}
use Rattle.complete.proofs.completion.complete_tree.Goals as goal

pub returns : goal.returns
returns c = completes-kind _ _ _ _ _ c.completed_kind.ensures c.in_ok-kind.was c.requires.0 c.requires.1 c.write_value.ensures
