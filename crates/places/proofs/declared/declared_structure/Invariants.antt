-- `declared::declared_structure` meets its contract. Assumes nothing.
use Rattle.places.proofs.declared.Laws.{Left}
use Rattle.places.proofs.declared.declared_structure.Given as goal

abbrev pub invariant-loop : goal.invariant-loop
invariant-loop l = Left l.file.source l.t l.most l.counter l.at
