-- `held::unchanged` meets its contract. Assumes nothing.
use Rattle.memory_forms.proofs.Holding.{same-value}
use Rattle.memory_forms.proofs.held.unchanged.Goals as goal

pub returns-in_default : goal.returns-in_default
returns-in_default c = same-value _ _ _ c.converted.result c.converted.ensures c.eq.ensures
