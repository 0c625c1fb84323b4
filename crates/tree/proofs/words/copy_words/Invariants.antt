-- `words::copy_words` meets its contract. The loop: the words passed stand at their place, and all else is as it was. Assumes nothing.
use Rattle.tree.proofs.Copies.{Copied}
use Rattle.tree.proofs.words.copy_words.Given as goal

abbrev pub invariant-loop-i : goal.invariant-loop-i
invariant-loop-i l = Copied l.from l.a l.count l.initial.out l.at l.i l.out
