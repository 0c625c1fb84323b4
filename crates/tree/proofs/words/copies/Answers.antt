-- `words::copies` meets its contract. Assumes nothing.
use borrow.Author.Rules.{rules}
use Rattle.tree.proofs.Repeats.{going-more}
use Rattle.tree.proofs.words.copies.Goals as goal

pub loop-left-preserved : goal.loop-left-preserved
loop-left-preserved c = going-more c.loop-left.invariant c.loop-left-test.true (search rules) c.requires c.copy_within.ensures.after
