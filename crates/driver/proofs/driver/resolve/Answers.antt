-- `driver::resolve` meets its contract. Assumes nothing.
use Rattle.driver.proofs.Settling.{begun-settled}
use Rattle.driver.proofs.driver.resolve.Goals as goal

pub returns-clause-resolves : goal.returns-clause-resolves
returns-clause-resolves c = begun-settled c.requires.1 c.begin.ensures.index c.begin.ensures.store c.begin.ensures.end c.settle.ensures.settles
