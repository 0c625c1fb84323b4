-- `body::body` meets its contract. Assumes nothing.
use Rattle.declared.proofs.body.Laws.{asked}
use Rattle.declared.proofs.body.body.Goals as goal

pub place_of-place-requires : goal.place_of-place-requires
place_of-place-requires c = search asked

pub declared_default-requires : goal.declared_default-requires
declared_default-requires c = search asked
