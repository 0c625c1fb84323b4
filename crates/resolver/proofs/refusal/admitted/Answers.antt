-- `refusal::admitted` meets its contract. Assumes nothing.
use borrow.Author.Rules.{rules}
use Rattle.resolver.proofs.Answering.{admitted-by}
use Rattle.resolver.proofs.refusal.admitted.Goals as goal

pub returns : goal.returns
returns c = let a = c.args in admitted-by a.words.now a.section a.number a.lines a.room c.admit.ensures (λ file r p. search rules)
