-- `above::above_elements` meets its contract. Assumes nothing.
use mathlib.Core.Path.{refl}
use borrow.Author.Rules.{rules}
use Rattle.ranks.proofs.Raising.{elements_over}
use Rattle.ranks.proofs.above.above_elements.Goals as goal

pub returns : goal.returns
returns g c = let a = c.args in elements_over a.file.now _ a.first a.many a.high _ _ c.fold.ensures.ran refl (λ s x b q k. search rules)
