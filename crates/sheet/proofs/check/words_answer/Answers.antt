-- `check::words_answer` meets its contract. Assumes nothing.
use borrow.Author.Rules.{rules}
use Rattle.sheet.proofs.Answering.{refused-first, admitted-ready, answer-said}
use Rattle.sheet.proofs.check.words_answer.Goals as goal

pub returns-in_err-file : goal.returns-in_err-file
returns-in_err-file c = refused-first _ _ _ _ c.in_err-file.ensures (search rules)

pub accepted_answer-requires : goal.accepted_answer-requires
accepted_answer-requires c = let i = c.in_ok-file.ensures in admitted-ready _ c.args.sheet.now _ i.1 i.0

pub returns : goal.returns
returns c = let i = c.in_ok-file.ensures in answer-said _ _ _ i.1 i.0 _ c.accepted_answer.ensures
