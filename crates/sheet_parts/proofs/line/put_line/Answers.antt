-- `line::put_line` meets its contract. Assumes nothing.
use Rattle.sheet_parts.proofs.Lining.{lining}
use Rattle.sheet_parts.proofs.line.put_line.Goals as goal

pub returns : goal.returns
returns c = search lining
