-- `declared::alias_target` meets its contract. Assumes nothing.
use Rattle.places.proofs.declared.Laws.{laws}
use Rattle.places.proofs.declared.alias_target.Goals as goal

pub returns-in-Some : goal.returns-in-Some
returns-in-Some c = search laws
