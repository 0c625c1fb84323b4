-- `variables::put_variable` meets its contract. Assumes nothing.
use Rattle.sheet_parts.proofs.Beside.{putting}
use Rattle.sheet_parts.proofs.variables.put_variable.Goals as goal

pub put_value-value-requires : goal.put_value-value-requires
put_value-value-requires c = search putting
