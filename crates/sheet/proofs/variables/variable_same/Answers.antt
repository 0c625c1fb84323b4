-- `variables::variable_same` meets its contract. Assumes nothing.
use Rattle.sheet.proofs.Telling.{telling}
use Rattle.sheet.proofs.variables.variable_same.Goals as goal

pub variable_built-built-requires : goal.variable_built-built-requires
variable_built-built-requires c = search telling

pub built_same-requires : goal.built_same-requires
built_same-requires c = search telling

pub completion_same-requires : goal.completion_same-requires
completion_same-requires c = search telling

pub returns-then-built_same : goal.returns-then-built_same
returns-then-built_same c = search telling

pub returns-else-built_same : goal.returns-else-built_same
returns-else-built_same c = search telling
