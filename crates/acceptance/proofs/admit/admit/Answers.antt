-- `admit::admit` meets its contract. Assumes nothing.
use borrow.Author.Rules.{rules}
use Rattle.acceptance.proofs.Admitting.{admits-not}
use Rattle.acceptance.proofs.admit.admit.Goals as goal

pub returns-in_err-file : goal.returns-in_err-file
returns-in_err-file g c = admits-not _ _ _ c.in_err-file.ensures (search rules)
