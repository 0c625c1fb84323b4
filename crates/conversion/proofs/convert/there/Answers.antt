-- `convert::there` meets its contract. Assumes nothing.
use borrow.Author.Rules.{rules}
use Rattle.conversion.proofs.convert.Laws.{no-shape, both-there}
use Rattle.conversion.proofs.convert.there.Goals as goal

pub returns-in_err-held : goal.returns-in_err-held
returns-in_err-held c = let a = c.args in no-shape a.file.now.source a.shape a.constant c.count.ensures c.in_err-held.ensures (search rules)

pub returns : goal.returns
returns c = let a = c.args in both-there a.file.now.source a.shape a.constant c.count.ensures c.in_ok-held.ensures c.count-2.ensures c.held-2.ensures
