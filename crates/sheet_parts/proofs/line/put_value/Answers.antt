-- `line::put_value` meets its contract. Assumes nothing.
use Rattle.sheet_parts.proofs.Lining.{lining}
use Rattle.sheet_parts.proofs.line.put_value.Goals as goal

pub returns : goal.returns
returns c = search lining
