-- `text::numbers` meets its contract. Assumes nothing.
use Rattle.std.proofs.Common.{length, ◌≤◌}
use Rattle.tree_vectors.proofs.text.numbers.Given as goal

abbrev pub invariant-loop-digits : goal.invariant-loop-digits
invariant-loop-digits l = l.count ≤ length l.out
