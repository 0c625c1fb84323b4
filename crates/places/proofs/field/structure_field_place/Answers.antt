-- `field::structure_field_place` meets its contract. Assumes nothing.
use Rattle.places.proofs.field.Laws.{declared}
use Rattle.places.proofs.field.structure_field_place.Goals as goal

pub returns : goal.returns
returns c = declared _ _ _ _ c.in-Some.ensures _ c.declared_type-named.ensures _ c.declared_element-element.ensures.is c.typed_place.ensures
