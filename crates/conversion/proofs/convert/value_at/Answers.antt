-- `convert::value_at` meets its contract. Assumes nothing.
use Rattle.conversion.proofs.convert.Laws.{conversions}
use Rattle.conversion.proofs.convert.value_at.Goals as goal

pub constant_value-requires : goal.constant_value-requires
constant_value-requires c = search conversions
