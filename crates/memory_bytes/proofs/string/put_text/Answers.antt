-- `string::put_text` meets its contract. Assumes nothing.
use Rattle.memory_bytes.proofs.Spelling.{spelling}
use Rattle.memory_bytes.proofs.string.put_text.Goals as goal

pub loop-k-init : goal.loop-k-init
loop-k-init c = search spelling

pub put_number-end-requires : goal.put_number-end-requires
put_number-end-requires c = search spelling

pub loop-k-preserved : goal.loop-k-preserved
loop-k-preserved c = search spelling

pub returns : goal.returns
returns c = search spelling
