-- `block::recorded_block` meets its contract. Assumes nothing.
use Rattle.places.proofs.block.Laws.{Left}
use Rattle.places.proofs.block.recorded_block.Given as goal

abbrev pub invariant-loop : goal.invariant-loop
invariant-loop l = Left l.file l.t l.many l.counter l.at
