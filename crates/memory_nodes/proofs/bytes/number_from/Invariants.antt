-- `bytes::number_from` meets its contract. Assumes nothing.
use Prim.Native.Nat.{◌+◌, ◌≤◌}
use lib.ListN.{length}
use Rattle.memory_nodes.proofs.Numbering.{Numbering}
use Rattle.memory_nodes.proofs.bytes.number_from.Given as goal

abbrev pub invariant-loop-left : goal.invariant-loop-left
invariant-loop-left l = Numbering l.bytes l.at l.count l.left l.n × (l.count ≤ 8) × (l.at + l.count ≤ length l.bytes)
