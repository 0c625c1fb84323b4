-- `members::member_place` meets its contract. Assumes nothing.
use Rattle.memory_forms.proofs.Holding.{Passed}
use Rattle.memory_forms.proofs.members.member_place.Given as goal

abbrev pub invariant-loop-place : goal.invariant-loop-place
invariant-loop-place l = Passed l.file l.name l.first l.many l.place
