-- `parts::parts` meets its contract. Assumes nothing.
use Rattle.declared.proofs.Gathering.{SoFar}
use Rattle.declared.proofs.parts.parts.Given as goal

abbrev pub invariant-loop-k : goal.invariant-loop-k
invariant-loop-k g l =
    SoFar l.known.file l.known.index l.known.store l.place g.P.Part.SECTION l.first l.many l.at l.initial.room l.k l.made l.to l.room
