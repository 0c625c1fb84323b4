-- `words::read_words` meets its contract. Assumes nothing.
use Rattle.sheet_text.proofs.Reading.{filling-first, filling-more, filling-done}
use Rattle.sheet_text.proofs.words.read_words.Goals as goal

pub loop-i-init : goal.loop-i-init
loop-i-init c = filling-first c.args.words.now c.requires c.as_chunks.ensures.front c.as_chunks.ensures.front_len

pub loop-i-preserved : goal.loop-i-preserved
loop-i-preserved c = filling-more c.loop-i.invariant c.loop-i-test.true c.from_le_bytes.ensures

pub returns : goal.returns
returns c = filling-done c.loop-i.invariant c.loop-i-test.false
