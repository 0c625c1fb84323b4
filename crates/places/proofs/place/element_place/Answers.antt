-- `place::element_place` meets its contract. Assumes nothing.
use native.Mathlib.Omega.{arith}
use Rattle.places.proofs.place.Laws.{element-made, element-linked}
use Rattle.places.proofs.place.element_place.Goals as goal

pub typed_place-requires : goal.typed_place-requires
typed_place-requires c = (
  c.requires.0,
  c.requires.2,
  element-linked _ _ _ _ _ _ c.led_to.ensures c.led_to-2.ensures c.element_of-other.ensures.is c.or-named.ensures c.args.file.now.accepted c.requires.1,
  omega arith,
)

pub returns : goal.returns
returns c = element-made _ _ _ _ _ _ c.led_to.ensures c.led_to-2.ensures c.element_of-other.ensures.is c.or-named.ensures _ c.typed_place.ensures
