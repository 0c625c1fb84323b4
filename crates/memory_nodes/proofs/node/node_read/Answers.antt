-- `node::node_read` meets its contract. Assumes nothing.
use Rattle.memory_nodes.proofs.Nodes.{reads}
use Rattle.memory_nodes.proofs.node.node_read.Goals as goal

pub number_from-requires : goal.number_from-requires
number_from-requires c = search reads

pub number_read-requires : goal.number_read-requires
number_read-requires c = search reads

pub number_from-requires-in-Real : goal.number_from-requires-in-Real
number_from-requires-in-Real c = search reads

pub number_from-requires-in-LongReal : goal.number_from-requires-in-LongReal
number_from-requires-in-LongReal c = search reads

pub short_from-requires : goal.short_from-requires
short_from-requires c = search reads

pub short_from-requires-in-Enumeration : goal.short_from-requires-in-Enumeration
short_from-requires-in-Enumeration c = search reads
