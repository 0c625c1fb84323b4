-- `put::put_read` meets its contract. Assumes nothing.
use Rattle.memory_nodes.proofs.Texts.{nodes}
use Rattle.memory_nodes.proofs.put.put_read.Goals as goal

pub returns : goal.returns
returns c = search nodes
