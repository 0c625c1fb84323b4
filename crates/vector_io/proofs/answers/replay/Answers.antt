use Rattle.std.proofs.Common.{rules, of_calls}
use Rattle.vector_io.proofs.answers.Laws.{sums-more, sums-none, sums-err, sums-all}
use Rattle.vector_io.proofs.answers.replay.Goals as goal

pub returns-in_err-n : goal.returns-in_err-n
returns-in_err-n g c = c.loop-k.invariant.1 _ (sums-err c.step.new.self c.step.result c.in_err-n.field-0.0 (search rules) c.step.ensures (search rules) (search rules))

pub returns-in_default : goal.returns-in_default
returns-in_default g c = c.loop-k.invariant.1 _ (sums-none c.step.new.self c.step.result (search rules) c.step.ensures (search rules))

pub loop-k-preserved : goal.loop-k-preserved
loop-k-preserved g c = (search (rules, of_calls), λ result h. c.loop-k.invariant.1 _ (sums-more c.step.new.self c.step.result c.in-Some.n _ (search rules) c.step.ensures (search rules) (search rules) h))

pub returns : goal.returns
returns g c = c.loop-k.invariant.1 _ (sums-all (search rules))
