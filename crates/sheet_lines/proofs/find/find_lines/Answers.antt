-- `find::find_lines` meets its contract. Assumes nothing.
use mathlib.Core.Path.{◌∙◌}
use Rattle.sheet_lines.proofs.Finding.{finds}
use Rattle.sheet_lines.proofs.find.find_lines.Goals as goal

pub returns-in_err-end : goal.returns-in_err-end
returns-in_err-end c = c.from_residual-in_err-end.ensures ∙ search (finds, c.in_ok-variables.was, c.in_ok-completed.was, c.in_err-end.was)

pub returns-then-end-sheet : goal.returns-then-end-sheet
returns-then-end-sheet c = search (finds, c.in_ok-variables.was, c.in_ok-completed.was, c.in_ok-end.was)

pub returns : goal.returns
returns c = search (finds, c.in_ok-variables.was, c.in_ok-completed.was, c.in_ok-end.was)
