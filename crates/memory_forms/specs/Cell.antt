-- A node of the code as a node of the definition, and where it stands. Assumes nothing.
use Rattle.definition.specs.declared.records.Shape.{Shape}
use Rattle.definition.specs.Tree as definition
use Rattle.tree.specs.declared.node.Node.{Node}
use Rattle.memory_definition.specs.Cells.{Cell, cell}

abbrev pub node_of : Node → definition.Node
node_of n = record { name = n.name; kind = n.value.kind; sign = n.value.sign; low = n.value.low; high = n.value.high; width = n.value.width }

abbrev pub cell_of : Shape → Node → Cell
cell_of s n = cell s (node_of n)
