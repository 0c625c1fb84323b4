-- `differ::all_differ` meets its contract. Assumes nothing.
use mathlib.Core.Path.{refl}
use borrow.Author.Rules.{rules}
use Rattle.records.proofs.Ranging.{every-in-range}
use Rattle.shapes.proofs.differ.all_differ.Goals as goal

pub returns : goal.returns
returns c = every-in-range _ _ _ c.args.many _ c.all.ensures.ran refl (λ x b q k. search rules)
