-- `trees::write` meets its contract. Assumes nothing.
use borrow.Author.Rules.{rules}
use Rattle.resolver.proofs.Answering.{writes-full, writes-tree}
use Rattle.resolver.proofs.trees.write.Goals as goal

pub returns-in_err-ok_or : goal.returns-in_err-ok_or
returns-in_err-ok_or c = writes-full c.copy.ensures c.ok_or.ensures.value c.in_err-ok_or.was (search rules)

pub returns : goal.returns
returns c = writes-tree c.copy.ensures c.ok_or.ensures.value c.in_ok-ok_or.was
