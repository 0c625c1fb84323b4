-- `counts::counts_small` meets its contract. Assumes nothing.
use mathlib.Core.Path.{refl}
use borrow.Author.Rules.{rules}
use Rattle.records.proofs.Ranging.{every-in-range}
use Rattle.plain.proofs.counts.counts_small.Goals as goal

pub returns : goal.returns
returns c = every-in-range _ _ _ 14 _ c.all.ensures.ran refl (λ x b q k. search rules)
