-- `bytes::number_from` meets its contract. Assumes nothing.
use Rattle.memory_nodes.proofs.Numbering.{numbering}
use Rattle.memory_nodes.proofs.bytes.number_from.Goals as goal

pub loop-left-preserved : goal.loop-left-preserved
loop-left-preserved c = search numbering
