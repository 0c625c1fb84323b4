-- `read::read_cells` meets its contract. Assumes nothing.
use Rattle.memory.proofs.Reading.{cell_reading}
use Rattle.memory.proofs.read.read_cells.Goals as goal

pub returns : goal.returns
returns c = search cell_reading
