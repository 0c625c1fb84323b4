-- `runs::fields_below` meets its contract. Assumes nothing.
use borrow.Author.Rules.{rules}
use Rattle.rules.proofs.runs.fields_below.Goals as goal

pub returns : goal.returns
returns c = c.run_of.ensures.is _ (λ n x k. search rules)
