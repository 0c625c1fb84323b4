-- `refusal::asked` meets its contract. Assumes nothing.
use Rattle.writer.proofs.Refusing.{refusing}
use Rattle.writer.proofs.refusal.asked.Goals as goal

pub returns : goal.returns
returns c = search refusing
