-- `resolved::count_sheet` meets its contract. Assumes nothing.
use Rattle.writer.proofs.Fitting.{sheets}
use Rattle.writer.proofs.resolved.count_sheet.Goals as goal

pub overflow_add-result : goal.overflow_add-result
overflow_add-result c = search sheets

pub overflow_add-completed : goal.overflow_add-completed
overflow_add-completed c = search sheets
