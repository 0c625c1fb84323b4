-- `string::put_lengths` meets its contract. Assumes nothing.
use Rattle.memory_bytes.proofs.Spelling.{spelling}
use Rattle.memory_bytes.proofs.string.put_lengths.Goals as goal

pub returns : goal.returns
returns c = search spelling
