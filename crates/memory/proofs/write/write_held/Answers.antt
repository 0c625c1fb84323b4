-- `write::write_held` meets its contract. Assumes nothing.
use Rattle.memory.proofs.Writing.{held_writing}
use Rattle.memory.proofs.write.write_held.Goals as goal

pub returns-then-bytes-size : goal.returns-then-bytes-size
returns-then-bytes-size c = search held_writing

pub returns : goal.returns
returns c = search held_writing
