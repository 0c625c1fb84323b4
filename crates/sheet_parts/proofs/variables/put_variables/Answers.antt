-- `variables::put_variables` meets its contract. Assumes nothing.
use Rattle.sheet_parts.proofs.Beside.{both}
use Rattle.sheet_parts.proofs.variables.put_variables.Goals as goal

pub put_counts-ends-requires : goal.put_counts-ends-requires
put_counts-ends-requires c = search both

pub loop-v-init : goal.loop-v-init
loop-v-init c = search both

pub put_variable-ends-requires : goal.put_variable-ends-requires
put_variable-ends-requires c = search both

pub returns : goal.returns
returns c = search both
