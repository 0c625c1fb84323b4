-- `part::find_from` meets its contract. The loop: what is left comes to what the whole comes to. Assumes nothing.
use Rattle.tree.proofs.Finds.{Seeking}
use Rattle.tree.proofs.part.find_from.Given as goal

abbrev pub invariant-loop : goal.invariant-loop
invariant-loop l = Seeking l.s l.from l.count l.name l.counter l.at
