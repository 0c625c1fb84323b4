-- `stated::spec_default` meets its contract. Assumes nothing.
use Rattle.initial.proofs.stated.Laws.{laws}
use Rattle.initial.proofs.stated.spec_default.Goals as goal

pub name_default-requires : goal.name_default-requires
name_default-requires c = search laws
