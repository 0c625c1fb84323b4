-- `runs::run_of` meets its contract. Assumes nothing.
use mathlib.Core.Path.{refl, ◌∙◌}
use borrow.Author.Rules.{rules}
use Rattle.records.proofs.Ranging.{every-in-range}
use Rattle.rules.proofs.Running.{is-outside, run_is}
use Rattle.rules.proofs.runs.run_of.Goals as goal
use Rattle.rules.proofs.runs.run_of.Goals.{then-run_in, else-run_in}

pub returns : goal.returns
returns g c =
    record {
      is = λ rule h. elim c.if-run_in.branch [
        | then-run_in w ↦ w.result-is ∙ run_is _ _ _ _ _ c.run_in.ensures.is w.if-run_in.true (every-in-range _ _ _ c.args.many _ w.all.ensures.ran refl (λ x b q k. search (rules, h)))
        | else-run_in w ↦ w.result-is ∙ w.if-run_in.false ∙ is-outside _ _ _ _ _ c.run_in.ensures.is w.if-run_in.false
      ];
    }
