-- `words::read_words` meets its contract. Assumes nothing.
use Rattle.sheet_text.proofs.Reading.{Filling}
use Rattle.sheet_text.proofs.words.read_words.Given as goal

abbrev pub invariant-loop-i : goal.invariant-loop-i
invariant-loop-i l = Filling l.bytes l.initial.words l.fours l.i l.words
