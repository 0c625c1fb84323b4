-- `string::put_string` meets its contract. Assumes nothing.
use Rattle.memory_bytes.proofs.Spelling.{spelling}
use Rattle.memory_bytes.proofs.string.put_string.Goals as goal

pub put_zeros-requires : goal.put_zeros-requires
put_zeros-requires c = search spelling

pub returns : goal.returns
returns c = search spelling
