-- `narrow::magnitude` meets its contract. Assumes nothing.
use Rattle.reals.proofs.narrow.Single.{laws}
use Rattle.reals.proofs.narrow.magnitude.Goals as goal

pub returns : goal.returns
returns c = search laws
