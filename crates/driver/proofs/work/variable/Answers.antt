-- `work::variable` meets its contract. Assumes nothing.
use Rattle.driver.proofs.Working.{laws}
use Rattle.driver.proofs.work.variable.Goals as goal

pub declaration-requires : goal.declaration-requires
declaration-requires c = search laws
