-- `parts::parts` meets its contract. Assumes nothing.
use Prim.Native.Nat.{◌+◌, ◌<◌}
use native.Mathlib.Omega.{arith}
use lib.ListN.{length}
use Rattle.declared.proofs.Gathering.{so-far-none, so_far_skip, so-far-all, so-far-fails, so_far_more}
use Rattle.declared.proofs.parts.Laws.{laws, parts-room, parts-head}
use Rattle.declared.proofs.parts.parts.Goals as goal

pub loop-k-init : goal.loop-k-init
loop-k-init g c =
    let s = c in
    so-far-none c.args.known.now.file c.args.known.now.index c.args.known.now.store c.args.place g.P.Part.SECTION c.args.first c.args.many c.args.at c.args.room.now (parts-head c.args.known.now.file c.args.place g.P.Part.SECTION c.args.first c.args.many c.args.at (length c.args.room.now) c.requires.2)

pub loop-k-preserved-then-not-is_part : goal.loop-k-preserved-then-not-is_part
loop-k-preserved-then-not-is_part g c =
    let s = c in
    so_far_skip c.args.known.now.file c.args.known.now.index c.args.known.now.store c.args.place g.P.Part.SECTION c.args.first c.args.many c.args.at c.args.room.now c.loop-k.invariant c.is_part.ensures c.if-not-is_part.true c.loop-k-test.true

pub part_field-requires : goal.part_field-requires
part_field-requires g c =
    let s = c in
    let l = c.loop-k in
    let i = l.invariant in
    let n : l.k < c.args.first + c.args.many = c.loop-k-test.true in (
      c.requires.0,
      c.requires.1.each l.k i.starts n,
      c.requires.1.known,
      omega (arith, i.after),
      parts-room c.args.known.now.file c.args.place g.P.Part.SECTION c.args.first c.args.many c.args.at _ l.k l.to (omega (arith, c.requires.2, i.long)) i.starts n i.within,
    )

pub returns-in_err-to : goal.returns-in_err-to
returns-in_err-to g c =
    let s = c in
    so-far-fails c.args.known.now.file c.args.known.now.index c.args.known.now.store c.args.place g.P.Part.SECTION c.args.first c.args.many c.args.at c.args.room.now c.loop-k.invariant c.is_part.ensures c.if-not-is_part.false c.loop-k-test.true c.in_err-to.ensures (search laws)

pub loop-k-preserved : goal.loop-k-preserved
loop-k-preserved g c =
    let s = c in
    so_far_more c.args.known.now.file c.args.known.now.index c.args.known.now.store c.args.place g.P.Part.SECTION c.args.first c.args.many c.args.at c.args.room.now c.loop-k.invariant c.is_part.ensures c.if-not-is_part.false c.loop-k-test.true c.part_field.ensures c.in_ok-to.was c.part_field.auto.room

pub returns : goal.returns
returns g c =
    let s = c in
    so-far-all c.args.known.now.file c.args.known.now.index c.args.known.now.store c.args.place g.P.Part.SECTION c.args.first c.args.many c.args.at c.args.room.now c.loop-k.invariant (search laws) c.head_structure.ensures
