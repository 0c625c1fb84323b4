-- `variables::count_variables` meets its contract. Assumes nothing.
use Rattle.sheet_parts.proofs.Beside.{counting}
use Rattle.sheet_parts.proofs.variables.count_variables.Goals as goal

pub loop-v-init : goal.loop-v-init
loop-v-init c = search counting

pub loop-v-preserved : goal.loop-v-preserved
loop-v-preserved c = search counting
