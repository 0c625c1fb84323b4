-- `spread::spread_times` meets its contract. Assumes nothing.
use borrow.Author.Rules.{rules}
use Rattle.build.proofs.spread.Laws.{spread-count, spread-ends, spread-fails}
use Rattle.build.proofs.spread.spread_times.Goals as goal

pub overflow_mul-v : goal.overflow_mul-v
overflow_mul-v c = spread-count c.requires.0 c.flatten_values-v.ensures c.args.times c.repeat.ensures c.in_ok-e.was

pub returns-in_err-e : goal.returns-in_err-e
returns-in_err-e c =
    spread-fails c.args.at c.requires.0 c.flatten_values-v.ensures c.repeat.ensures c.requires.1 c.flatten_values-v.auto.room c.in_err-e.was (search rules)

pub returns : goal.returns
returns c =
    spread-ends c.args.at c.requires.0 c.flatten_values-v.ensures c.repeat.ensures c.requires.1 c.flatten_values-v.auto.room c.in_ok-e.was c.repeat.auto.out c.write_array.ensures
