-- `held::unchanged_string` meets its contract. Assumes nothing.
use Rattle.memory_forms.proofs.Holding.{holding}
use Rattle.memory_forms.proofs.held.unchanged_string.Goals as goal

pub returns-then-most-c : goal.returns-then-most-c
returns-then-most-c c = search holding

pub returns : goal.returns
returns c = search holding
