-- `copies::array_head` meets its contract. Assumes nothing.
use Rattle.build.proofs.Peeks.{some-of}
use Rattle.gather.proofs.Arrays.{head-ends}
use Rattle.gather.proofs.copies.array_head.Goals as goal

pub returns : goal.returns
returns c = let s = c.args in head-ends s.values.end s.values.made s.at s.from c.min.ensures c.write_array.ensures (some-of c.ok_or.ensures.value c.in_ok-ok_or.was)
