-- `put::text_length` meets its contract. Assumes nothing.
use Rattle.memory_nodes.proofs.Texts.{texts}
use Rattle.memory_nodes.proofs.put.text_length.Goals as goal

pub short_from-requires : goal.short_from-requires
short_from-requires c = search texts
