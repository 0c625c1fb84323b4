-- `place::typed_place` meets its contract. Assumes nothing.
use Rattle.places.proofs.place.Laws.{typed-made}
use Rattle.places.proofs.place.typed_place.Goals as goal

pub returns : goal.returns
returns c = typed-made _ _ _ _ _ _ _ c.own_type-own.ensures.is c.element_of-other.ensures.is c.shape.ensures c.or.ensures c.link_to.ensures c.link_to-2.ensures
