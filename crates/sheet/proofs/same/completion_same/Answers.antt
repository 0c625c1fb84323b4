-- `same::completion_same` meets its contract. Assumes nothing.
use borrow.Author.Rules.{rules}
use Rattle.sheet.proofs.Matching.{completing, same_kind, same_left, left-of-none}
use Rattle.sheet.proofs.same.completion_same.Goals as goal

pub overflow_cast-e : goal.overflow_cast-e
overflow_cast-e c = search completing

pub returns-in_default : goal.returns-in_default
returns-in_default c = left-of-none c.requires.0 (search rules) (search rules)

pub returns-in_default-completion : goal.returns-in_default-completion
returns-in_default-completion c = same_left c.requires.0 c.in-Ok.is c.completion.ensures c.in_default-completion.is (search rules)

pub returns : goal.returns
returns c = same_kind c.requires.0 c.in-Ok.is c.completion.ensures c.in-Some.is (search rules)
