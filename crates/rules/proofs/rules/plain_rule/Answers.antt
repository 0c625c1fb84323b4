-- `rules::plain_rule` meets its contract. Assumes nothing.
use Rattle.definition.specs.Accept.{plain_rules}
use Rattle.rules.specs.Rules.{plain_rule}
use Rattle.rules.proofs.rules.plain_rule.Goals as goal

pub returns-in-2 : goal.returns-in-2
unfolding plain_rule plain_rules
returns-in-2 c = rw c.in-2.is (rw (← c.word-in-2.ensures) c.is_name.ensures)
