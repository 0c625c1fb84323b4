-- `arrays::arrays_small` meets its contract. Assumes nothing.
use mathlib.Core.Path.{refl}
use borrow.Author.Rules.{rules}
use Rattle.definition.specs.Accept.{arrays_small}
use Rattle.records.proofs.Ranging.{every-in-range}
use Rattle.shapes.proofs.arrays.arrays_small.Goals as goal

pub returns : goal.returns
unfolding arrays_small
returns c = rw (← c.count-many.ensures) (every-in-range _ _ _ c.count-many.result _ c.all.ensures.ran refl (λ x b q k. search rules))
