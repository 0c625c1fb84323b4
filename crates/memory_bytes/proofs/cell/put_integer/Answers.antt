-- `cell::put_integer` meets its contract. Assumes nothing.
use Rattle.memory_bytes.proofs.Standing.{standing}
use Rattle.memory_bytes.proofs.cell.put_integer.Goals as goal

pub returns-then-c-eq1 : goal.returns-then-c-eq1
returns-then-c-eq1 c = search standing

pub returns : goal.returns
returns c = search standing
