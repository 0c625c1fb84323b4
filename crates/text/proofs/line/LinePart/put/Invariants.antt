-- `line::LinePart::put` meets its contract. Assumes nothing.
use Prim.Native.Nat.{◌+◌}
use Rattle.text.proofs.Lining.{Lining}
use Rattle.text.proofs.line.LinePart.put.Given as goal

abbrev pub invariant-loop-word : goal.invariant-loop-word
invariant-loop-word l = Lining (l.fn.self.before + 1) l.words l.initial.text l.fn.at l.word-index l.last l.text l.end
