-- `read::read_memory` meets its contract. Assumes nothing.
use borrow.Author.Rules.{rules}
use Rattle.lines.proofs.Memories.{cleared-same}
use Rattle.memory.proofs.read.read_memory.Goals as goal

pub returns-clause-lines : goal.returns-clause-lines
returns-clause-lines c = cleared-same _ _ c.clear.ensures (search rules)

pub returns-clause-room : goal.returns-clause-room
returns-clause-room c = cleared-same _ _ c.clear-2.ensures (search rules)
