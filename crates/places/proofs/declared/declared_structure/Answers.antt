-- `declared::declared_structure` meets its contract. Assumes nothing.
use Rattle.places.proofs.declared.Laws.{following}
use Rattle.places.proofs.declared.declared_structure.Goals as goal

pub overflow_add-most : goal.overflow_add-most
overflow_add-most c = search following
