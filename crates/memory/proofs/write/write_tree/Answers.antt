-- `write::write_tree` meets its contract. Assumes nothing.
use Rattle.memory.proofs.Placing.{few-cells}
use Rattle.memory.proofs.Writing.{tree-written}
use Rattle.memory.proofs.write.write_tree.Goals as goal

pub write_cells-requires : goal.write_cells-requires
write_cells-requires c = few-cells c.lay_variable.ensures c.new.ensures

pub returns : goal.returns
returns c = tree-written c.requires.1 c.lay_variable.ensures c.new.ensures c.write_cells.ensures
