-- `rewrite::write_nodes` meets its contract. The loop: the nodes that are left come to what all of them come to. Assumes nothing.
use Prim.Native.Nat.{◌+◌, ◌*◌}
use Rattle.complete.proofs.Rewriting.{Going}
use Rattle.complete.proofs.rewrite.write_nodes.Given as goal

abbrev pub invariant-loop-i : goal.invariant-loop-i
invariant-loop-i l = Going l.file l.initial.room l.from l.nodes l.room (l.from + l.i * 6) l.i
