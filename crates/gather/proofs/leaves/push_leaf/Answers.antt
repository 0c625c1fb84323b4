-- `leaves::push_leaf` meets its contract. Assumes nothing.
use borrow.Author.Rules.{rules}
use Rattle.gather.proofs.Single.{push-leaf, push-fails, tree-as}
use Rattle.gather.proofs.leaves.push_leaf.Goals as goal

pub returns-in_err-end : goal.returns-in_err-end
returns-in_err-end c = push-leaf c.put_leaf.ensures (push-fails c.args.l c.args.at c.in_err-end.was (search rules))

pub returns : goal.returns
returns c = push-leaf c.put_leaf.ensures (tree-as c.in_ok-end.was c.push_tree.ensures)
