-- `refusal::put_long` meets its contract. Assumes nothing.
use Rattle.text.proofs.Refusing.{refusing}
use Rattle.text.proofs.refusal.put_long.Goals as goal

pub returns : goal.returns
returns c = search refusing
