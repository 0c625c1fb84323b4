-- `check::admitted` meets its contract. Assumes nothing.
use borrow.Author.Rules.{rules}
use Rattle.sheet.proofs.Answering.{admitted-by}
use Rattle.sheet.proofs.check.admitted.Goals as goal

pub returns : goal.returns
returns c = admitted-by c.args.words.now c.args.room c.admit.ensures (λ file r p. search rules)
