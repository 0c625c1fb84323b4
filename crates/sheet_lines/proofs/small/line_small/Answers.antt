-- `small::line_small` meets its contract. Assumes nothing.
use Rattle.sheet_lines.proofs.Sizing.{sizes}
use Rattle.sheet_lines.proofs.small.line_small.Goals as goal

pub returns : goal.returns
returns c = search sizes
