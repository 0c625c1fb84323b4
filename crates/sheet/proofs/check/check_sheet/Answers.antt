-- `check::check_sheet` meets its contract. Assumes nothing.
use borrow.Author.Rules.{rules}
use Rattle.lines.proofs.Memories.{cleared-same}
use Rattle.sheet.proofs.check.check_sheet.Goals as goal

pub returns-clause-room : goal.returns-clause-room
returns-clause-room c = let k = c.words_answer-answer.auto in cleared-same _ _ c.clear.ensures (search rules)
