-- `layout::lay_tree` meets its contract: a part begins behind its node. Assumes nothing.
use native.Mathlib.Omega.{arith}
use Rattle.memory_layout.proofs.Laying.{part-inside, part_falls, part-whole, so_far_more, laws}
use Rattle.memory_layout.proofs.layout.+lay_tree.Goals as goal

pub put_node-parts-requires : goal.put_node-parts-requires
put_node-parts-requires t c = search laws

pub loop-k-init : goal.loop-k-init
loop-k-init t c = (search laws, search laws, search laws, search laws, search laws)

pub place_at-part-requires : goal.place_at-part-requires
place_at-part-requires t c = let i = c.loop-k.invariant in (i.0, i.1, i.2, part-inside i.4 i.3 (omega arith))

pub lay_tree-to-requires : goal.lay_tree-to-requires
lay_tree-to-requires t c =
    let i = c.loop-k.invariant in
    (part_falls i.4 i.3 (omega arith) c.decreases, (i.0, c.place_at-part.ensures.located, part-whole i.4 i.3 (omega arith)))

pub loop-k-preserved : goal.loop-k-preserved
loop-k-preserved t c =
    let i = c.loop-k.invariant in
    (i.0, i.1, i.2, i.3, so_far_more i.4 i.3 (omega arith) c.place_at-part.ensures.is c.lay_tree-to.ensures)

pub returns : goal.returns
returns t c = search laws
