-- `number::put_each` meets its contract. Assumes nothing.
use Rattle.memory_bytes.proofs.Numbering.{turning-first, turning-room, turning-more, numbering}
use Rattle.memory_bytes.proofs.number.put_each.Goals as goal

pub loop-init : goal.loop-init
loop-init g c = (c.requires.pre, turning-first _ _ _ _ _ c.requires.room, search numbering)

pub put_byte-end-requires : goal.put_byte-end-requires
put_byte-end-requires g c = turning-room c.loop.invariant.1 c.loop-test.true

pub loop-preserved : goal.loop-preserved
loop-preserved g c = (c.loop.invariant.0, turning-more c.loop.invariant.1 c.loop-test.true c.turn-byte.ensures c.put_byte-end.ensures, search numbering)

pub returns : goal.returns
returns g c = search numbering
