-- `convert::asked` meets its contract. Assumes nothing.
use borrow.Author.Rules.{rules}
use Rattle.conversion.proofs.convert.Laws.{asked-by}
use Rattle.conversion.proofs.convert.asked.Goals as goal

pub returns : goal.returns
returns c = let a = c.args in asked-by a.words.now a.shape a.constant c.admit.ensures (λ file r p. search rules)
