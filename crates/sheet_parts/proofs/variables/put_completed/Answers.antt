-- `variables::put_completed` meets its contract. Assumes nothing.
use Rattle.sheet_parts.proofs.Beside.{putting}
use Rattle.sheet_parts.proofs.variables.put_completed.Goals as goal

pub put_line-requires : goal.put_line-requires
put_line-requires c = search putting
