-- `told::tell` meets its contract. Assumes nothing.
use Rattle.driver.specs.Driver.{zeros}
use Rattle.driver.proofs.told.+tell.Given as goal

abbrev pub decreases-tell : goal.decreases-tell
decreases-tell l = zeros l.lines.now.index.now
