-- `start::initializer` meets its contract. Assumes nothing.
use native.Mathlib.Omega.{arith}
use borrow.Author.Rules.{rules}
use Rattle.initial.proofs.given.Laws.{array-inside, array-there, array-given}
use Rattle.initial.proofs.stated.Laws.{over-fails, default-there, default-over, array-or-given}
use Rattle.initial.proofs.start.Laws.{asked, constant-inside, members-room, members-in, array-room, array-in, starts-constant, starts-enumerated, starts-reference, starts-late, starts-members, starts-array}
use Rattle.initial.proofs.start.initializer.Goals as goal

pub stated_or_default-requires-in-Subrange-clause-leaf : goal.stated_or_default-requires-in-Subrange-clause-leaf
stated_or_default-requires-in-Subrange-clause-leaf c =
    λ n z. let k = constant-inside c.args.known.now.accepted c.requires.1 c.initializer-v.ensures.is c.in-Subrange.is z in search asked

pub returns-in-Subrange : goal.returns-in-Subrange
returns-in-Subrange c = starts-constant _ _ _ c.initializer-v.ensures.is c.stated_or_default-in-Subrange.ensures c.in-Subrange.is (λ n w p. search rules)

pub returns-in-EnumeratedValues : goal.returns-in-EnumeratedValues
returns-in-EnumeratedValues c = starts-enumerated _ _ _ c.initializer-v.ensures.is c.stated_or_default-in-EnumeratedValues.ensures c.in-EnumeratedValues.is (λ n w p. search rules)

pub returns-in-Reference : goal.returns-in-Reference
returns-in-Reference c = starts-reference _ _ _ c.initializer-v.ensures.is c.stated_or_default.ensures c.in-Reference.is (λ n w p. search rules)

pub returns-in-LateResolved : goal.returns-in-LateResolved
returns-in-LateResolved c = starts-late _ _ _ c.initializer-v.ensures.is c.stated_or_default-in-LateResolved.ensures c.in-LateResolved.is (λ n w p. search rules)

pub returns-in_err-end-in-FunctionBlock : goal.returns-in_err-end-in-FunctionBlock
returns-in_err-end-in-FunctionBlock c = starts-members _ _ _ c.initializer-v.ensures.is c.in-FunctionBlock.is (over-fails _ _ _ _ _ _ _ c.in_err-end-in-FunctionBlock.ensures (search asked))

pub apply_members-requires : goal.apply_members-requires
apply_members-requires c =
    let s = c in (
      c.requires.0,
      members-in c.args.known.now.accepted c.requires.1 c.initializer-v.ensures.is c.in-FunctionBlock.is,
      default-there c.initializer-v.ensures.ready c.requires.0 c.default_of-in-FunctionBlock.ensures c.in_ok-end-in-FunctionBlock.was,
      omega (arith, members-room _ _ _ _ _ c.requires.2 c.initializer-v.ensures.is c.in-FunctionBlock.is, c.default_of-in-FunctionBlock.auto.room),
    )

pub returns-in_ok-end-in-FunctionBlock : goal.returns-in_ok-end-in-FunctionBlock
returns-in_ok-end-in-FunctionBlock c =
    starts-members _ _ _ c.initializer-v.ensures.is c.in-FunctionBlock.is
    (default-over c.initializer-v.ensures.ready c.requires.0 c.default_of-in-FunctionBlock.ensures c.in_ok-end-in-FunctionBlock.was c.apply_members.ensures)

pub array-requires : goal.array-requires
array-requires c =
    let e = c.in-Array.is in
    let q = c.initializer-v.ensures.is in
    (c.requires.0, array-inside (array-in c.args.known.now.accepted c.requires.1 q e), array-there _ _ _ _ (array-room _ _ _ _ _ c.requires.2 q e))

pub returns-else-count-eq0 : goal.returns-else-count-eq0
returns-else-count-eq0 c =
    let e = c.in-Array.is in
    let q = c.initializer-v.ensures.is in
    starts-array _ _ _ q e
    (array-or-given c.args.place _ _ c.if-count-eq0.false (array-given c.initializer-v.ensures.ready c.args.place _ _ c.args.at (array-room _ _ _ _ _ c.requires.2 q e) c.array.ensures))
