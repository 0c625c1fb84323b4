-- `tests::lines_rise` meets its contract. Assumes nothing.
use borrow.Author.Rules.{rules}
use Rattle.sheet_lines.proofs.Testing.{lined-rise}
use Rattle.sheet_lines.proofs.tests.lines_rise.Goals as goal

pub returns : goal.returns
returns c = lined-rise c.requires.1 c.requires.0 c.index_lines.ensures (λ at w k. search rules) c.ranks_rise.ensures
