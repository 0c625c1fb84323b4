-- `read::read_held` meets its contract. Assumes nothing.
use Rattle.memory.proofs.Reading.{held_reading}
use Rattle.memory.proofs.read.read_held.Goals as goal

pub returns-then-nodes-many : goal.returns-then-nodes-many
returns-then-nodes-many c = search held_reading

pub returns-then-characters-text : goal.returns-then-characters-text
returns-then-characters-text c = search held_reading

pub returns : goal.returns
returns c = search held_reading
