-- `trees::write_outcome` meets its contract. Assumes nothing.
use borrow.Author.Rules.{rules}
use Rattle.resolver.proofs.Answering.{writes-large, writes-none}
use Rattle.resolver.proofs.trees.write_outcome.Goals as goal

pub returns-in_err-end : goal.returns-in_err-end
returns-in_err-end c = writes-large c.in_err-end.ensures (search rules)

pub returns-in_default : goal.returns-in_default
returns-in_default c = writes-none c.build_tree.ensures c.in_ok-end.was c.in_default.is
