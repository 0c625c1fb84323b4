-- `scan::points_right` meets its contract. Assumes nothing.
use borrow.Author.Rules.{rules}
use Rattle.definition.specs.Accept.{points_right, every_record}
use Rattle.rules.specs.Rules.{point_rule}
use Rattle.rules.proofs.scan.points_right.Goals as goal

pub returns : goal.returns
unfolding points_right every_record point_rule
returns c = c.everywhere.ensures.is (point_rule c.args.file.now) (λ s n x k. search rules)
