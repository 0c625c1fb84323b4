-- `work::work_out` meets its contract. Assumes nothing.
use Rattle.driver.proofs.Working.{laws}
use Rattle.driver.proofs.work.work_out.Goals as goal

pub body-requires : goal.body-requires
body-requires c = search laws
