-- `refusal::asked` meets its contract. Assumes nothing.
use borrow.Author.Rules.{rules}
use Rattle.resolver.proofs.Answering.{asked-not, asked-so}
use Rattle.resolver.proofs.refusal.asked.Goals as goal

pub returns-in_err-held : goal.returns-in_err-held
returns-in_err-held c = let a = c.args in asked-not a.file.now.source a.section a.number a.lines a.room c.count.ensures c.in_err-held.ensures (search rules)

pub returns : goal.returns
returns c = let a = c.args in asked-so a.file.now.source a.section a.number a.lines a.room c.count.ensures c.in_ok-held.ensures c.lines_of.ensures _ c.enough.ensures (search rules)
