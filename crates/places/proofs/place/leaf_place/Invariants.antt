-- `place::leaf_place` meets its contract. Assumes nothing.
use Prim.Native.Nat.{◌-◌}
use Rattle.definition.specs.Places.{innermost, leaf_place}
use Rattle.shapes.specs.Classes.{Classes}
use Rattle.places.specs.Inside.{PlaceIn}
use Rattle.places.proofs.Steps.{Comes}
use Rattle.places.proofs.place.leaf_place.Given as goal

abbrev pub invariant-loop : goal.invariant-loop
invariant-loop l = Classes l.file.source l.classes × PlaceIn l.file.source l.leaf × Comes (innermost l.file.source) (l.many - l.counter) l.leaf (leaf_place l.file.source l.initial.leaf)
