-- `readable::fills` meets its contract. Assumes nothing.
use Rattle.memory_nodes.proofs.Filling.{fillings}
use Rattle.memory_nodes.proofs.readable.fills.Goals as goal

pub number_from-requires : goal.number_from-requires
number_from-requires c = search fillings

pub string_fills-requires : goal.string_fills-requires
string_fills-requires c = search fillings

pub short_from-requires : goal.short_from-requires
short_from-requires c = search fillings

pub returns-in-String : goal.returns-in-String
returns-in-String c = search fillings
