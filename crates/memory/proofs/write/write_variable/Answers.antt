-- `write::write_variable` meets its contract. Assumes nothing.
use borrow.Author.Rules.{rules}
use Rattle.memory.proofs.Writing.{large-refused, there, none_written}
use Rattle.memory.proofs.write.write_variable.Goals as goal

pub returns-in_err-end : goal.returns-in_err-end
returns-in_err-end c = large-refused c.in_err-end.ensures (search rules)

pub returns-in_default : goal.returns-in_default
returns-in_default c = none_written c.build_tree.ensures c.in_ok-end.was c.in_default.is

pub write_tree-requires : goal.write_tree-requires
write_tree-requires c = (c.requires.inside, there c.build_tree.ensures c.in_ok-end.was c.in-Some.is)
