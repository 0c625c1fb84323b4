-- `leaves::push_tree` meets its contract. Assumes nothing.
use borrow.Author.Rules.{rules}
use Rattle.gather.proofs.Single.{tree-fits, tree-not}
use Rattle.gather.proofs.leaves.push_tree.Goals as goal

pub returns-in_err-may_add : goal.returns-in_err-may_add
returns-in_err-may_add c = tree-not c.args.l c.args.at c.nodes_between-nodes.ensures c.may_add.ensures c.in_err-may_add.was (search rules)

pub returns : goal.returns
returns c = tree-fits c.args.l c.args.at c.nodes_between-nodes.ensures c.may_add.ensures c.in_ok-may_add.was
