-- `spread::spread` meets its contract. Assumes nothing.
use Rattle.build.proofs.spread.Laws.{laws}
use Rattle.build.proofs.spread.spread.Goals as goal

pub returns : goal.returns
returns c = search laws
