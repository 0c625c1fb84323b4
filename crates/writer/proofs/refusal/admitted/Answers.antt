-- `refusal::admitted` meets its contract. Assumes nothing.
use borrow.Author.Rules.{rules}
use Rattle.writer.proofs.Refusing.{admitted-by}
use Rattle.writer.proofs.refusal.admitted.Goals as goal

pub returns : goal.returns
returns c = let a = c.args in admitted-by a.words.now a.out a.lines a.room c.admit.ensures (λ file r p. search rules)
