-- `spread::flatten_values` meets its contract. Assumes nothing.
use Rattle.build.proofs.spread.Laws.{laws, values_one, values-parts}
use Rattle.build.proofs.spread.flatten_values.Goals as goal

pub returns-in_default : goal.returns-in_default
returns-in_default c = search laws

pub returns-in_default-value : goal.returns-in_default-value
returns-in_default-value c =
    values_one c.args.at c.args.end c.args.room.now c.value_at-v.ensures c.in-Some.is c.in_default-value.not-Array

pub overflow_sub-nodes-2 : goal.overflow_sub-nodes-2
overflow_sub-nodes-2 c = search laws

pub overflow_sub-result : goal.overflow_sub-result
overflow_sub-result c = search laws

pub returns : goal.returns
returns c =
    values-parts c.args.at c.args.end c.args.room.now c.value_at-v.ensures c.requires c.in-Some.is c.in-Array.is c.shift.ensures
