-- `trees::tree_answer` meets its contract. Assumes nothing.
use borrow.Author.Rules.{rules}
use Rattle.resolver.proofs.Answering.{answer-refused, out-refused, owner-passed, answer-passed, out-passed}
use Rattle.resolver.proofs.trees.tree_answer.Goals as goal

pub returns-in_err-file-clause-answer : goal.returns-in_err-file-clause-answer
returns-in_err-file-clause-answer c = let a = c.args in answer-refused a.words.now a.owner _ _ c.section.ensures c.number.ensures _ c.in_err-file.ensures _ (search rules)

pub returns-in_err-file-clause-out : goal.returns-in_err-file-clause-out
returns-in_err-file-clause-out c = let a = c.args in out-refused a.words.now a.owner _ _ c.section.ensures c.number.ensures _ c.in_err-file.ensures _

pub write_outcome-requires : goal.write_outcome-requires
write_outcome-requires c = let a = c.args in let f = c.in_ok-file.ensures in owner-passed a.words.now a.owner _ _ c.section.ensures c.number.ensures f.1 f.0

pub returns-clause-answer : goal.returns-clause-answer
returns-clause-answer c = let a = c.args in let f = c.in_ok-file.ensures in answer-passed a.words.now a.owner _ _ c.section.ensures c.number.ensures f.1 f.0 c.write_outcome.ensures

pub returns-clause-out : goal.returns-clause-out
returns-clause-out c = let a = c.args in let f = c.in_ok-file.ensures in out-passed a.words.now a.owner _ _ c.section.ensures c.number.ensures f.1 f.0 c.write_outcome.ensures
