-- `parts::VariablesPart::start` meets its contract. Assumes nothing.
use Rattle.declared.proofs.parts.Laws.{variable-inside, variable-room, variable-at}
use Rattle.declared.proofs.parts.VariablesPart.start.Goals as goal

pub variable_start-requires : goal.variable_start-requires
variable_start-requires c = (variable-inside _ _ c.requires.1, variable-room _ _ _ _ _ c.requires.2)

pub returns : goal.returns
returns c = variable-at _ _ _ c.variable_start.ensures
