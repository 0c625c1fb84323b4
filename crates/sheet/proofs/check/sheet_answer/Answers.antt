-- `check::sheet_answer` meets its contract. Assumes nothing.
use Rattle.sheet.proofs.Answering.{answering}
use Rattle.sheet.proofs.check.sheet_answer.Goals as goal

pub compared-requires : goal.compared-requires
compared-requires c = search (answering, c.in_ok-lines.was)
