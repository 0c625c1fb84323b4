-- `place::lay_variable` meets its contract. Assumes nothing.
use Rattle.memory.proofs.Placing.{placing}
use Rattle.memory.proofs.place.lay_variable.Goals as goal

pub lay_out-requires : goal.lay_out-requires
lay_out-requires c = search placing

pub returns-in-Some : goal.returns-in-Some
returns-in-Some c = search placing

pub returns-in_default : goal.returns-in_default
returns-in_default c = search placing
