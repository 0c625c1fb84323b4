-- `declared::simple_target` meets its contract. Assumes nothing.
use Rattle.places.proofs.declared.Laws.{laws}
use Rattle.places.proofs.declared.simple_target.Goals as goal

pub returns-in-7-to-8 : goal.returns-in-7-to-8
returns-in-7-to-8 c = search laws
