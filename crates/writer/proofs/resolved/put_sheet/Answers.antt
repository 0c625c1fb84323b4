-- `resolved::put_sheet` meets its contract. Assumes nothing.
use Rattle.writer.proofs.Fitting.{sheets}
use Rattle.writer.proofs.resolved.put_sheet.Goals as goal

pub returns : goal.returns
returns c = search sheets
