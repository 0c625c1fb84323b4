-- `same::built_same` meets its contract. Assumes nothing.
use Rattle.sheet.proofs.Matching.{matching, same-tree, same_none, same-large}
use Rattle.sheet.proofs.same.built_same.Goals as goal

pub overflow_cast-e : goal.overflow_cast-e
overflow_cast-e c = search matching

pub returns-in-Ok : goal.returns-in-Ok
returns-in-Ok c = same-tree c.requires.0 c.in-Ok.is c.line_same.ensures

pub returns-in-Err-None : goal.returns-in-Err-None
returns-in-Err-None c = same_none c.requires.0 c.in-Err-None.is (search matching) c.line_same-in-Err-None.ensures

pub returns-in-Err-TooLarge : goal.returns-in-Err-TooLarge
returns-in-Err-TooLarge c = same-large c.requires.0 c.in-Err-TooLarge.is (search matching) c.line_same-in-Err-TooLarge.ensures
