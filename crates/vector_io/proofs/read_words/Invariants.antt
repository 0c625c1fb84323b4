use Rattle.std.proofs.Common.{◌≡◌, drop}
use Rattle.vector_io.proofs.read_words.Given as goal

-- the words that are not read are what they were
abbrev pub invariant-loop-word : goal.invariant-loop-word
invariant-loop-word g l = drop l.word-index l.words ≡ drop l.word-index l.fn.words
