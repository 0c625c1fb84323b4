-- `remembered::type_default` meets its contract. Assumes nothing.
use Rattle.build.proofs.remembered.Laws.{laws}
use Rattle.build.proofs.remembered.type_default.Goals as goal

pub returns-in-Err-Unknown : goal.returns-in-Err-Unknown
returns-in-Err-Unknown c = search laws

pub returns-in-Err-None : goal.returns-in-Err-None
returns-in-Err-None c = search laws

pub returns-in-Err-TooLarge : goal.returns-in-Err-TooLarge
returns-in-Err-TooLarge c = search laws

pub returns-in-Ok : goal.returns-in-Ok
returns-in-Ok c = search laws

pub returns-in-Err-Full : goal.returns-in-Err-Full
returns-in-Err-Full c = search laws
