-- `alike::same_run` meets its contract. Assumes nothing.
use mathlib.Core.Path.{refl}
use borrow.Author.Rules.{rules}
use native.Mathlib.Omega.{arith}
use Rattle.shapes.proofs.Comparing.{runs-are}
use Rattle.records.proofs.Ranging.{every-in-range}
use Rattle.shapes.proofs.alike.same_run.Goals as goal

pub returns : goal.returns
returns g c = record { is = λ same h. runs-are _ _ _ _ _ (omega arith) (every-in-range _ _ _ c.args.many _ c.all.ensures.ran refl (λ x b q k. search (rules, h))) }
