-- `read::read_tree` meets its contract. Assumes nothing.
use Rattle.memory.proofs.Placing.{few-cells}
use Rattle.memory.proofs.Reading.{tree-read}
use Rattle.memory.proofs.read.read_tree.Goals as goal

pub read_cells-requires : goal.read_cells-requires
read_cells-requires c = few-cells c.lay_variable.ensures c.new-cells.ensures

pub returns : goal.returns
returns c = tree-read c.requires.1 c.lay_variable.ensures c.new-cells.ensures c.read_cells.ensures
