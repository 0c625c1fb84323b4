-- `leaves::simple` meets its contract. Assumes nothing.
use Rattle.gather.proofs.leaves.simple.Goals as goal

pub simple_value-requires : goal.simple_value-requires
simple_value-requires c = rw c.file.ensures.is c.requires

pub returns : goal.returns
returns c = rw c.file.ensures.is at c.simple_value.ensures
