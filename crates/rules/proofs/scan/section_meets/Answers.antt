-- `scan::section_meets` meets its contract. Assumes nothing.
use mathlib.Core.Path.{refl}
use borrow.Author.Rules.{rules}
use Rattle.records.proofs.Ranging.{every-in-range}
use Rattle.rules.proofs.scan.section_meets.Goals as goal

pub returns : goal.returns
returns g c = record { is = λ rule h. rw (← c.count.ensures) (every-in-range _ _ _ c.count.result _ c.all.ensures.ran refl (λ x b q k. search (rules, h))) }
