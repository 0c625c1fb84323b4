-- `field::structure_field` meets its contract. Assumes nothing.
use native.Mathlib.Omega.{arith}
use Rattle.places.proofs.field.Laws.{fields_fit, a-field}
use Rattle.places.proofs.field.structure_field.Goals as goal

pub first_named-requires : goal.first_named-requires
first_named-requires c = (omega arith, fields_fit c.args.file.now.accepted c.requires.2)

pub returns : goal.returns
returns c = a-field _ _ _ _ c.in_ok-field.ensures c.word-s.ensures _ c.structure_field_place.ensures
