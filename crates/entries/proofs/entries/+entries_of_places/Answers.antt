-- The cycle of `apply_members`, `array`, `expand`, `expand_all`, `fill`, `fill_values`, `member`, `member_structure`, `push_repeat`, `push_structure`, `repeat_entry`, `set_member` meets its contracts. Assumes nothing.
use Rattle.build.proofs.Peeks.{some-of}
use native.Mathlib.Omega.{arith}
use Rattle.gather.proofs.Single.{push-fails, tree-as}
use Rattle.gather.proofs.Copying.{copies-ends, copies-fails}
use Rattle.gather.proofs.Arrays.{heads-ends, heads-fails, rest-ends, rest-fails}
use Rattle.gather.proofs.Members.{puts_none, puts-as}
use Rattle.entries.proofs.Entering.{lower, entering, run_fits, run-falls, members-fall, entry-copied}
use Rattle.entries.proofs.Nesting.{nesting, structure-pushed, structure-fails, default-there, all_there, all-all, all-fails, all_more}
use Rattle.entries.proofs.Building.{asked, apply-more, apply-all, apply-there, array-built, values-filled, set-done, over-fails, over-applied, set-none, over-there, target-in, target-there}
use Rattle.entries.proofs.entries.+entries_of_places.Goals as goal

pub apply_members-overflow_add-e-end : goal.apply_members-overflow_add-e-end
apply_members-overflow_add-e-end t c = run_fits c.args.known.now.accepted c.args.first c.args.count c.requires.1

pub apply_members-set_member-requires : goal.apply_members-set_member-requires
apply_members-set_member-requires t c =
    let i = c.loop-e.invariant in
    let s = c.args in
    (members-fall s.known.now.file s.first s.count _ i.runs c.loop-e-test.true c.decreases, (c.requires.0, omega (arith, c.loop-e-test.true, c.requires.1), apply-there i c.ready.ensures c.requires.1 c.loop-e-test.true c.requires.2))

pub apply_members-loop-e-preserved : goal.apply_members-loop-e-preserved
apply_members-loop-e-preserved t c = apply-more c.loop-e.invariant c.args.known.now.accepted c.requires.1 c.loop-e-test.true c.set_member.ensures c.in_ok-upto.was c.set_member.auto.room

pub apply_members-returns : goal.apply_members-returns
apply_members-returns t c = apply-all c.loop-e.invariant (search lower)

pub array-returns : goal.array-returns
array-returns t c =
    array-built _ _ _ _ _ _ _ c.write_array.ensures (some-of c.ok_or.ensures.value c.in_ok-from.was) (search lower) c.fill.ensures
    (heads-ends _ _ c.in_ok-values.was c.array_head.ensures)

pub array-returns-in_err-values : goal.array-returns-in_err-values
array-returns-in_err-values t c =
    array-built _ _ _ _ _ _ _ c.write_array.ensures (some-of c.ok_or.ensures.value c.in_ok-from.was) (search lower) c.fill.ensures
    (heads-fails _ _ c.in_err-values.was (search lower))

pub expand-returns-in_default : goal.expand-returns-in_default
expand-returns-in_default t c = search entering

pub expand_all-loop-e-init : goal.expand_all-loop-e-init
expand_all-loop-e-init t c = search nesting

pub expand_all-overflow_add-e-end : goal.expand_all-overflow_add-e-end
expand_all-overflow_add-e-end t c = run_fits c.args.known.now.accepted c.args.first c.args.count c.requires.1

pub expand_all-expand-requires : goal.expand_all-expand-requires
expand_all-expand-requires t c =
    let i = c.loop-e.invariant in
    let s = c.args in
    (run-falls s.known.now.file s.first s.count _ i.runs c.loop-e-test.true c.decreases, (c.requires.0, omega (arith, c.loop-e-test.true, c.requires.1), all_there i c.ready.ensures c.requires.1 c.loop-e-test.true c.requires.2))

pub expand_all-returns-in_err-next : goal.expand_all-returns-in_err-next
expand_all-returns-in_err-next t c = all-fails c.loop-e.invariant c.args.known.now.accepted c.requires.1 c.loop-e-test.true c.expand.ensures c.in_err-next.was (search lower)

pub expand_all-loop-e-preserved : goal.expand_all-loop-e-preserved
expand_all-loop-e-preserved t c = all_more c.loop-e.invariant c.args.known.now.accepted c.requires.1 c.loop-e-test.true c.expand.ensures c.in_ok-next.was c.expand.auto.room c.moved_on-now.ensures.is c.moved_on-now.ensures.moves

pub expand_all-returns : goal.expand_all-returns
expand_all-returns t c = all-all c.loop-e.invariant (search lower)

pub fill_values-expand_all-requires : goal.fill_values-expand_all-requires
fill_values-expand_all-requires t c = search asked

pub fill_values-returns-in_err-values : goal.fill_values-returns-in_err-values
fill_values-returns-in_err-values t c =
    values-filled _ _ _ _ _ _ _ _ _ c.leaf_place-leaf.ensures c.expand_all.ensures c.expand_all.auto.room (rest-fails c.args.end c.args.places c.in_err-values.was (search lower))

pub fill_values-returns : goal.fill_values-returns
fill_values-returns t c =
    values-filled _ _ _ _ _ _ _ _ _ c.leaf_place-leaf.ensures c.expand_all.ensures c.expand_all.auto.room (rest-ends c.args.end c.args.places c.in_ok-values.was c.fill_rest.ensures)

pub member-array-requires : goal.member-array-requires
member-array-requires t c = search asked

pub member_structure-returns-in_err-end : goal.member_structure-returns-in_err-end
member_structure-returns-in_err-end t c = over-fails _ _ _ _ _ _ c.in_err-end.ensures (search lower)

pub member_structure-apply_members-requires : goal.member_structure-apply_members-requires
member_structure-apply_members-requires t c = (search lower, (c.requires.0, c.requires.1, over-there _ _ c.copy_structure.ensures c.in_ok-end.was c.copy_structure.auto.room c.requires.2))

pub member_structure-returns : goal.member_structure-returns
member_structure-returns t c = over-applied _ _ _ _ _ _ c.copy_structure.ensures c.in_ok-end.was c.copy_structure.auto.room c.apply_members.ensures

pub push_structure-returns-in_err-end : goal.push_structure-returns-in_err-end
push_structure-returns-in_err-end t c = structure-fails _ _ _ _ _ _ _ _ _ c.in_err-end.ensures (search lower)

pub push_structure-apply_members-requires : goal.push_structure-apply_members-requires
push_structure-apply_members-requires t c = (search lower, (c.requires.0, c.requires.1, default-there _ _ c.copy_default.ensures c.in_ok-end.was c.copy_default.auto.room c.requires.2))

pub push_structure-returns : goal.push_structure-returns
push_structure-returns t c = structure-pushed _ _ _ _ _ _ _ _ _ c.copy_default.ensures c.in_ok-end.was c.copy_default.auto.room c.apply_members.ensures (tree-as c.in_ok-to.was c.push_tree.ensures)

pub push_structure-returns-in_err-to : goal.push_structure-returns-in_err-to
push_structure-returns-in_err-to t c =
    structure-pushed _ _ _ _ _ _ _ _ _ c.copy_default.ensures c.in_ok-end.was c.copy_default.auto.room c.apply_members.ensures (push-fails c.args.l c.args.at c.in_err-to.was (search lower))

pub set_member-returns-in_err-field : goal.set_member-returns-in_err-field
set_member-returns-in_err-field t c = set-none _ _ _ _ _ _ _ _ c.find_field.ensures c.ok_or.ensures.value c.in_err-field.was (search lower)

pub set_member-member-requires : goal.set_member-member-requires
set_member-member-requires t c =
    let f = some-of c.ok_or.ensures.value c.in_ok-field.was in
    (search lower, (target-in c.find_field.ensures f, c.requires.1, target-there _ _ _ c.find_field.ensures f c.requires.2))

pub set_member-returns-in_err-to : goal.set_member-returns-in_err-to
set_member-returns-in_err-to t c =
    let f = some-of c.ok_or.ensures.value c.in_ok-field.was in
    set-done _ _ _ _ _ _ _ _ c.find_field.ensures f c.member.ensures c.member.auto.room (puts_none _ _ _ _ _ c.in_err-to.was (search lower))

pub set_member-returns : goal.set_member-returns
set_member-returns t c =
    let f = some-of c.ok_or.ensures.value c.in_ok-field.was in
    set-done _ _ _ _ _ _ _ _ c.find_field.ensures f c.member.ensures c.member.auto.room (puts-as c.in_ok-to.was c.put_member.ensures)

pub repeat_entry-returns-in_err-values : goal.repeat_entry-returns-in_err-values
repeat_entry-returns-in_err-values t c =
    entry-copied c.args.times c.args.e (search lower) c.remaining.ensures c.expand.ensures c.expand.auto.room (copies-fails c.args.times c.args.l c.in_err-values.was (search lower))

pub repeat_entry-returns : goal.repeat_entry-returns
repeat_entry-returns t c =
    entry-copied c.args.times c.args.e (search lower) c.remaining.ensures c.expand.ensures c.expand.auto.room (copies-ends c.args.times c.args.l c.in_ok-values.was c.push_copies.ensures)
