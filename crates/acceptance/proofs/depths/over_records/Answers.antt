-- `depths::over_records` meets its contract. Assumes nothing.
use mathlib.Core.Path.{ap}
use borrow.Author.Rules.{rules}
use Rattle.acceptance.specs.Nesting.{depth_in}
use Rattle.acceptance.proofs.depths.over_records.Goals as goal

pub returns : goal.returns
returns c = let a = c.args in c.over_run.ensures.is (depth_in a.depths.now) a.first (λ j p k. ap (depth_in a.depths.now) (search rules))
