-- `limit::may_copy` meets its contract. The loop: the copies that are left come to what all of them come to. Assumes nothing.
use Rattle.tree_changes.proofs.Limits.{Copying}
use Rattle.tree_changes.proofs.limit.may_copy.Given as goal

abbrev pub invariant-loop : goal.invariant-loop
invariant-loop l = Copying l.times l.places l.made l.size l.values l.nodes l.counter l.count l.gathered
