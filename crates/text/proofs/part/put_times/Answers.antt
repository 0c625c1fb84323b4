-- `part::put_times` meets its contract. Assumes nothing.
use Rattle.text.proofs.Series.{repeats}
use Rattle.text.proofs.part.put_times.Goals as goal

pub put-ends-requires : goal.put-ends-requires
put-ends-requires g c = search repeats

pub loop-preserved : goal.loop-preserved
loop-preserved g c = search repeats

pub returns : goal.returns
returns g c = search repeats
