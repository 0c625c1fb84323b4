-- `runs::link_to_lower` meets its contract. Assumes nothing.
use borrow.Author.Rules.{rules}
use Rattle.rules.proofs.Linking.{linked_by}
use Rattle.rules.proofs.runs.link_to_lower.Goals as goal

pub returns : goal.returns
returns c = let e = c.link_to.ensures in linked_by _ _ e.none (λ n q. let k = e.some n q in search rules)
