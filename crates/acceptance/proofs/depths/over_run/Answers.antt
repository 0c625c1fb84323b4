-- `depths::over_run` meets its contract. Assumes nothing.
use borrow.Author.Rules.{rules}
use Rattle.acceptance.proofs.Nests.{deepest-in-run}
use Rattle.acceptance.proofs.depths.over_run.Goals as goal

pub returns : goal.returns
returns g c =
    record {
      is = λ d first h.
          deepest-in-run d first c.args.many _ _ c.max.ensures.ran c.map-below.ensures.source c.map-below.ensures.closure (λ x r q k. search (rules, h)) c.unwrap_or.ensures;
    }
