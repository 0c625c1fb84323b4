-- `refusal::put_refused` meets its contract. Assumes nothing.
use Rattle.text.proofs.Refusing.{refusing}
use Rattle.text.proofs.refusal.put_refused.Goals as goal

pub returns : goal.returns
returns c = search refusing
