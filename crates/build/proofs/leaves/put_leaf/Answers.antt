-- `leaves::put_leaf` meets its contract. Assumes nothing.
use borrow.Author.Rules.{rules}
use Rattle.build.proofs.leaves.Laws.{leaf-put, leaf-none}
use Rattle.build.proofs.leaves.put_leaf.Goals as goal

pub returns-in_err-c : goal.returns-in_err-c
returns-in_err-c c = leaf-none c.ok_or.ensures.value c.in_err-c.was (search rules)

pub returns : goal.returns
returns c = leaf-put c.ok_or.ensures.value c.in_ok-c.was c.write_leaf.ensures c.ok_or-2.ensures.value
