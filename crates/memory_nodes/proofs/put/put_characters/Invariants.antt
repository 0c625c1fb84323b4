-- `put::put_characters` meets its contract. Assumes nothing.
use mathlib.Core.Path.{◌≡◌}
use lib.ListN.{length}
use Rattle.memory_nodes.proofs.Texts.{Characters}
use Rattle.memory_nodes.proofs.put.put_characters.Given as goal

abbrev pub invariant-loop : goal.invariant-loop
invariant-loop l = Characters l.width l.many l.bytes l.from l.initial.characters l.at l.size l.place l.end l.counter l.characters × (length l.characters ≡ length l.initial.characters)
