-- The cycle of `default_of`, `element_defaults`, `field_default`, `fields`, `implicit` meets its contracts. Assumes nothing.
use Prim.Native.Nat.{◌+◌, ◌≤◌}
use lib.ListN.{length}
use native.Mathlib.Omega.{arith}
use Rattle.build.proofs.Peeks.{some-of, none-of, link-some, link-none}
use Rattle.build.proofs.Levels.{levels-some}
use Rattle.build.proofs.Smalls.{default-whole, default-after}
use Rattle.build.proofs.Gathers.{so-far-none, so_far_skip, so-far-all, so-far-fails, so_far_more}
use Rattle.build.proofs.defaults.Laws.{laws, default-typed, default-implicit, block_none, inner-in, element-fails, element-all, field_in, field-none, field-fails, field-all}
use borrow.Author.Rules.{rules}
use Rattle.build.proofs.defaults.+defaults_of_places.Goals as goal

pub default_of-type_default-requires : goal.default_of-type_default-requires
default_of-type_default-requires t c = let e = link-some c.checked_sub.ensures c.in-Some.is in search (laws, e)

pub default_of-returns-in-Some : goal.default_of-returns-in-Some
default_of-returns-in-Some t c = default-typed _ _ (link-some c.checked_sub.ensures c.in-Some.is) c.type_default.ensures

pub default_of-returns-in-None : goal.default_of-returns-in-None
default_of-returns-in-None t c = default-implicit _ _ (link-none c.checked_sub.ensures c.in-None.is) c.implicit.ensures

pub element_defaults-default_of-requires : goal.element_defaults-default_of-requires
element_defaults-default_of-requires t c = search laws

pub element_defaults-returns-in_err-end : goal.element_defaults-returns-in_err-end
element_defaults-returns-in_err-end t c =
    let s = c in
    element-fails c.args.known.now.file c.args.place c.requires.1 c.element_place-inner.ensures.is c.args.at c.in_err-end.ensures (search rules)

pub element_defaults-spread-requires : goal.element_defaults-spread-requires
element_defaults-spread-requires t c =
    let s = c in
    let k = inner-in c.args.known.now.file c.args.place c.requires.1 c.element_place-inner.ensures.is c.element_place-inner.ensures.ready.accepted c.requires.0 in (
      default-whole c.element_place-inner.ensures.ready k c.default_of.ensures c.in_ok-end.was,
      omega (arith, c.requires),
    )

pub element_defaults-returns : goal.element_defaults-returns
element_defaults-returns t c =
    let s = c in
    element-all c.args.known.now.file c.args.place c.requires.1 c.element_place-inner.ensures.is c.args.at c.default_of.ensures
    c.element_place-inner.ensures.ready.accepted c.requires.0 c.in_ok-end.was c.spread.ensures

pub field_default-returns-in_err-inner : goal.field_default-returns-in_err-inner
field_default-returns-in_err-inner t c =
    let z = none-of c.ok_or.ensures.value c.in_err-inner.was (search rules) in
    field-none c.args.known.now.file c.args.place c.args.name c.field_place.result c.field_place.ensures.is z.0 z.1

pub field_default-default_of-requires : goal.field_default-default_of-requires
field_default-default_of-requires t c =
    let e = some-of c.ok_or.ensures.value c.in_ok-inner.was in
    search (laws, e)

pub field_default-returns-in_err-end : goal.field_default-returns-in_err-end
field_default-returns-in_err-end t c =
    field-fails c.args.known.now.file c.args.place c.args.name c.field_place.result c.field_place.ensures.is (some-of c.ok_or.ensures.value c.in_ok-inner.was) c.in_err-end.ensures (search rules)

pub field_default-name_field-requires : goal.field_default-name_field-requires
field_default-name_field-requires t c =
    let e = some-of c.ok_or.ensures.value c.in_ok-inner.was in
    let k = field_in c.args.known.now.file c.args.place c.args.name c.field_place.result c.field_place.ensures.is e c.field_place.ensures.ready.accepted c.requires.0 in (
      c.requires.1,
      default-after c.field_place.ensures.ready k c.default_of.ensures c.in_ok-end.was,
      omega (arith, levels-some c.args.known.now.file c.args.place, c.requires),
    )

pub field_default-returns : goal.field_default-returns
field_default-returns t c =
    let e = some-of c.ok_or.ensures.value c.in_ok-inner.was in
    let k = field_in c.args.known.now.file c.args.place c.args.name c.field_place.result c.field_place.ensures.is e c.field_place.ensures.ready.accepted c.requires.0 in
    field-all c.args.known.now.file c.args.place c.args.name c.field_place.result c.field_place.ensures.is e c.default_of.ensures
    c.in_ok-end.was c.requires.1 (default-after c.field_place.ensures.ready k c.default_of.ensures c.in_ok-end.was) c.name_field.ensures

pub fields-loop-k-init : goal.fields-loop-k-init
fields-loop-k-init t c =
    let s = c.args in
    so-far-none s.known.now.file s.known.now.index s.known.now.store s.place s.section s.first s.many s.at s.room.now (omega (arith, levels-some s.known.now.file s.place, c.requires))

pub fields-returns-in_err-to : goal.fields-returns-in_err-to
fields-returns-in_err-to t c =
    let s = c.args in
    so-far-fails s.known.now.file s.known.now.index s.known.now.store s.place s.section s.first s.many s.at s.room.now c.loop-k.invariant c.is_listed.ensures c.if-not-is_listed.false c.loop-k-test.true c.word-name.ensures c.in_err-to.ensures (search rules)

pub fields-loop-k-preserved-then-not-is_listed : goal.fields-loop-k-preserved-then-not-is_listed
fields-loop-k-preserved-then-not-is_listed t c =
    let s = c.args in
    so_far_skip s.known.now.file s.known.now.index s.known.now.store s.place s.section s.first s.many s.at s.room.now c.loop-k.invariant c.is_listed.ensures c.if-not-is_listed.true c.loop-k-test.true

pub fields-loop-k-preserved : goal.fields-loop-k-preserved
fields-loop-k-preserved t c =
    let s = c.args in
    so_far_more s.known.now.file s.known.now.index s.known.now.store s.place s.section s.first s.many s.at s.room.now c.loop-k.invariant c.is_listed.ensures c.if-not-is_listed.false c.loop-k-test.true c.word-name.ensures c.field_default.ensures c.in_ok-to.was c.field_default.auto.room

pub fields-field_default-requires : goal.fields-field_default-requires
fields-field_default-requires t c =
    let s = c in
    let i = c.loop-k.invariant in
    (omega (arith, c.decreases), (c.requires.0, omega (arith, i.after), i.within, omega (arith, i.long, c.requires)))

pub fields-returns : goal.fields-returns
fields-returns t c =
    let s = c.args in
    so-far-all s.known.now.file s.known.now.index s.known.now.store s.place s.section s.first s.many s.at s.room.now c.loop-k.invariant (search rules) c.head_structure.ensures

pub implicit-fields-requires-in-FunctionBlock : goal.implicit-fields-requires-in-FunctionBlock
implicit-fields-requires-in-FunctionBlock t c =
    let e = some-of c.ok_or.ensures.value c.in_ok-run-in-FunctionBlock.was in
    search (laws, e)

pub implicit-returns-in_err-run-in-FunctionBlock : goal.implicit-returns-in_err-run-in-FunctionBlock
implicit-returns-in_err-run-in-FunctionBlock t c =
    let z = none-of c.ok_or.ensures.value c.in_err-run-in-FunctionBlock.was (search rules) in
    block_none c.args.known.now.accepted c.requires.0 c.in-FunctionBlock.is c.block_run.ensures z.0 z.1

pub implicit-returns-in_ok-run-in-FunctionBlock : goal.implicit-returns-in_ok-run-in-FunctionBlock
implicit-returns-in_ok-run-in-FunctionBlock t c =
    let e = some-of c.ok_or.ensures.value c.in_ok-run-in-FunctionBlock.was in
    search (laws, e)

pub implicit-element_defaults-requires : goal.implicit-element_defaults-requires
implicit-element_defaults-requires t c = search laws

pub implicit-returns-in-Structure : goal.implicit-returns-in-Structure
implicit-returns-in-Structure t c = search laws

pub implicit-returns-in-Array : goal.implicit-returns-in-Array
implicit-returns-in-Array t c = search laws

pub implicit-returns-in_default : goal.implicit-returns-in_default
implicit-returns-in_default t c =
    let h : c.args.at + 6 ≤ length c.args.room.now = omega (arith, levels-some c.args.known.now.file c.args.place, c.requires) in
    search (laws, h)
