-- `parts::part_place` meets its contract. Assumes nothing.
use Rattle.memory_layout.proofs.Parting.{laws}
use Rattle.memory_layout.proofs.parts.part_place.Goals as goal

pub returns-in-Array : goal.returns-in-Array
returns-in-Array c = search laws
