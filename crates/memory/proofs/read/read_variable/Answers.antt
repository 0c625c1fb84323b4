-- `read::read_variable` meets its contract. Assumes nothing.
use borrow.Author.Rules.{rules}
use Rattle.memory.proofs.Reading.{large-unread, none_read}
use Rattle.memory.proofs.Writing.{there}
use Rattle.memory.proofs.read.read_variable.Goals as goal

pub returns-in_err-end : goal.returns-in_err-end
returns-in_err-end c = large-unread c.in_err-end.ensures (search rules)

pub returns-in_default : goal.returns-in_default
returns-in_default c = none_read c.build_tree.ensures c.in_ok-end.was c.in_default.is

pub read_tree-requires : goal.read_tree-requires
read_tree-requires c = (c.requires.inside, there c.build_tree.ensures c.in_ok-end.was c.in-Some.is)
