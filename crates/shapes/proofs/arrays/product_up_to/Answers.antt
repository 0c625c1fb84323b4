-- `arrays::product_up_to` meets its contract. Assumes nothing.
use mathlib.Core.Path.{refl}
use borrow.Author.Rules.{rules}
use Rattle.records.proofs.Ranging.{folded-in-range}
use Rattle.shapes.proofs.Multiplying.{times, multiplied, saturated-times}
use Rattle.shapes.proofs.arrays.product_up_to.Goals as goal

pub returns : goal.returns
returns c =
    let a = c.args in
    rw (← multiplied a.file.now a.first a.most a.many, ← c.min.ensures)
    (folded-in-range (times a.file.now a.first a.most) _ a.many _ _ c.fold.ensures.ran refl (λ s x b q k. search (rules, saturated-times)))
