-- `completed::write_completed` meets its contract. Assumes nothing.
use borrow.Author.Rules.{rules}
use Rattle.resolver.proofs.Completing.{completes-large, completes-none, completes-left, completes-tree, completes-full}
use Rattle.resolver.proofs.completed.write_completed.Goals as goal

pub returns-in-Ok-None : goal.returns-in-Ok-None
returns-in-Ok-None c = completes-none c.build_tree.ensures c.in-Ok-None.is c.in-Ok-None.field-0-is

pub returns-in-Err : goal.returns-in-Err
returns-in-Err c = completes-large c.in-Err.ensures (search rules)

pub returns-in_default : goal.returns-in_default
returns-in_default c = completes-left c.build_tree.ensures c.in-Ok-Some.is c.in-Ok-Some.field-0-is c.completion.ensures c.in_default.is

pub returns-in_err-nodes : goal.returns-in_err-nodes
returns-in_err-nodes c = completes-full c.build_tree.ensures c.in-Ok-Some.is c.in-Ok-Some.field-0-is c.completion.ensures c.in-Some.is c.write.ensures c.in_err-nodes.was (search rules)

pub returns : goal.returns
returns c = completes-tree c.build_tree.ensures c.in-Ok-Some.is c.in-Ok-Some.field-0-is c.completion.ensures c.in-Some.is c.write.ensures c.in_ok-nodes.was
