-- `rises::ranks_rise` meets its contract. Assumes nothing.
use mathlib.Core.Path.{refl}
use borrow.Author.Rules.{rules}
use Rattle.definition.specs.Uses.{rising}
use Rattle.records.proofs.Ranging.{every-in-range}
use Rattle.ranks.proofs.rises.ranks_rise.Goals as goal

pub returns : goal.returns
unfolding rising
returns g c = rw (← c.count.ensures) (every-in-range _ _ _ c.count.result _ c.all.ensures.ran refl (λ x b q k. search rules))
