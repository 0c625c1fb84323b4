-- `put::put_text` meets its contract. Assumes nothing.
use Rattle.memory_nodes.proofs.Texts.{texts}
use Rattle.memory_nodes.proofs.put.put_text.Goals as goal

pub short_from-many-requires : goal.short_from-many-requires
short_from-many-requires c = search texts

pub returns : goal.returns
returns c = search texts
