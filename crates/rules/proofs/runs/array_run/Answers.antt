-- `runs::array_run` meets its contract. Assumes nothing.
use borrow.Author.Rules.{rules}
use Rattle.rules.proofs.runs.array_run.Goals as goal

pub returns : goal.returns
returns c = c.run_of.ensures.is _ (λ n x k. search rules)
