-- `types::type_same` meets its contract. Assumes nothing.
use Rattle.sheet.proofs.Telling.{telling}
use Rattle.sheet.proofs.types.type_same.Goals as goal

pub type_built-built-requires : goal.type_built-built-requires
type_built-built-requires c = search telling

pub overflow_add-at : goal.overflow_add-at
overflow_add-at c = search telling

pub built_same-requires : goal.built_same-requires
built_same-requires c = search telling

pub returns : goal.returns
returns c = search telling
