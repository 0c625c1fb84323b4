use Rattle.std.proofs.Common.{◌≡◌, true}
use Rattle.vector_io.proofs.answers.same_words.Given as goal

-- nothing is compared before the first word
abbrev pub invariant-loop-word : goal.invariant-loop-word
invariant-loop-word g l = l.word-index ≡ 0 → l.same ≡ true
