-- `resolved::write_resolved` meets its contract. Assumes nothing.
use Rattle.writer.proofs.Fitting.{sheets}
use Rattle.writer.proofs.resolved.write_resolved.Goals as goal

pub returns-then-out-at : goal.returns-then-out-at
returns-then-out-at c = search sheets

pub returns : goal.returns
returns c = search sheets
