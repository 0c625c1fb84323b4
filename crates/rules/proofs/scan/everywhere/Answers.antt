-- `scan::everywhere` meets its contract. Assumes nothing.
use mathlib.Core.Path.{refl}
use borrow.Author.Rules.{rules}
use Rattle.records.proofs.Ranging.{every-in-range}
use Rattle.rules.proofs.Running.{met_by}
use Rattle.rules.proofs.scan.everywhere.Goals as goal

pub returns : goal.returns
returns g c = record { is = λ rule h. every-in-range _ _ _ 14 _ c.all.ensures.ran refl (λ x b q k. search (rules, h, met_by)) }
