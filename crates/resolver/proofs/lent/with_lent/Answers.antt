-- `lent::with_lent` meets its contract. Assumes nothing.
use borrow.Author.Rules.{rules}
use Rattle.lines.proofs.Memories.{cleared-same}
use Rattle.resolver.proofs.lent.with_lent.Goals as goal

pub returns-clause-lines : goal.returns-clause-lines
returns-clause-lines g c = cleared-same _ _ c.clear.ensures (search rules)

pub returns-clause-room : goal.returns-clause-room
returns-clause-room g c = cleared-same _ _ c.clear-2.ensures (search rules)
