-- `line::LinePart::put` meets its contract. Assumes nothing.
use Rattle.text.proofs.Lining.{lining}
use Rattle.text.proofs.line.LinePart.put.Goals as goal

pub put_word-end-requires : goal.put_word-end-requires
put_word-end-requires c = search lining

pub loop-word-preserved : goal.loop-word-preserved
loop-word-preserved c = search lining

pub put_word-end-requires-2 : goal.put_word-end-requires-2
put_word-end-requires-2 c = search lining

pub returns : goal.returns
returns c = search lining
