-- The cycle of `default_of`, `element_defaults`, `field_default`, `fields`, `implicit` meets its contracts. Assumes nothing.
use Prim.Native.Nat.{◌+◌, ◌*◌}
use Rattle.build.specs.Parts.{start_levels, implicit_levels}
use Rattle.build.proofs.Gathers.{SoFar}
use Rattle.build.proofs.defaults.+defaults_of_places.Given as goal

abbrev pub decreases-default_of : goal.decreases-default_of
decreases-default_of l = 4 * start_levels l.known.now.file l.place + 3

abbrev pub decreases-element_defaults : goal.decreases-element_defaults
decreases-element_defaults l = 4 * implicit_levels l.known.now.file l.place + 1

abbrev pub decreases-field_default : goal.decreases-field_default
decreases-field_default l = 4 * implicit_levels l.known.now.file l.place

abbrev pub decreases-fields : goal.decreases-fields
decreases-fields l = 4 * implicit_levels l.known.now.file l.place + 1

abbrev pub invariant-fields-loop-k : goal.invariant-fields-loop-k
invariant-fields-loop-k l =
    SoFar l.known.file l.known.index l.known.store l.place l.section l.first l.many l.at l.initial.room l.k l.made l.to l.room

abbrev pub decreases-implicit : goal.decreases-implicit
decreases-implicit l = 4 * implicit_levels l.known.now.file l.place + 2
