-- `copies::copy_words` meets its contract. Assumes nothing.
use Rattle.gather.proofs.Copying.{laws}
use Rattle.gather.proofs.copies.copy_words.Goals as goal

pub returns : goal.returns
returns c = search laws
