-- `check::accepted_answer` meets its contract. Assumes nothing.
use Rattle.sheet.proofs.Answering.{accepting}
use Rattle.sheet.proofs.check.accepted_answer.Goals as goal

pub sheet_answer-requires : goal.sheet_answer-requires
sheet_answer-requires c = search accepting
