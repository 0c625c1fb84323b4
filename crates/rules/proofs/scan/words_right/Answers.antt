-- `scan::words_right` meets its contract. Assumes nothing.
use borrow.Author.Rules.{rules}
use Rattle.definition.specs.Accept.{words_right, every_record}
use Rattle.rules.specs.Rules.{plain_rule}
use Rattle.rules.proofs.scan.words_right.Goals as goal

pub returns : goal.returns
unfolding words_right every_record plain_rule
returns c = c.everywhere.ensures.is (plain_rule c.args.file.now) (λ s n x k. search rules)
