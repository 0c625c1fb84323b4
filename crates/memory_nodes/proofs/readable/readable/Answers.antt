-- `readable::readable` meets its contract. Assumes nothing.
use Rattle.memory_nodes.proofs.Filling.{readables}
use Rattle.memory_nodes.proofs.readable.readable.Goals as goal

pub returns-then-bytes-from : goal.returns-then-bytes-from
returns-then-bytes-from c = search readables
