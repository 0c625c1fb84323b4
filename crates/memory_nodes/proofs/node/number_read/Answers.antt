-- `node::number_read` meets its contract. Assumes nothing.
use Rattle.memory_nodes.proofs.Nodes.{leaves}
use Rattle.memory_nodes.proofs.node.number_read.Goals as goal

pub literal_read-requires : goal.literal_read-requires
literal_read-requires c = search leaves
