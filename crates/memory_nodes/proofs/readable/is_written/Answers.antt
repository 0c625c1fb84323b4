-- `readable::is_written` meets its contract. Assumes nothing.
use Rattle.memory_nodes.proofs.Filling.{readables}
use Rattle.memory_nodes.proofs.readable.is_written.Goals as goal

pub held-requires : goal.held-requires
held-requires c = search readables

pub returns-then-not-held : goal.returns-then-not-held
returns-then-not-held c = search readables

pub returns : goal.returns
returns c = search readables
