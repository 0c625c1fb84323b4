-- `variable::declaration` meets its contract. Assumes nothing.
use borrow.Author.Rules.{rules}
use Rattle.initial.proofs.variable.Laws.{declared-none, declared-at, variable-init, variable-place, variable-room}
use Rattle.initial.proofs.variable.declaration.Goals as goal

pub returns-in_err-place : goal.returns-in_err-place
returns-in_err-place c =
    declared-none c.args.known.now.file c.args.v c.word-i.ensures c.variable_place.result c.variable_place.ensures c.is_outside.ensures c.if-is_outside.false c.ok_or.ensures.value c.in_err-place.was (search rules)

pub initializer-requires : goal.initializer-requires
initializer-requires c =
    let f = c.args.known.now.file in
    let a = c.args.known.now.accepted in (
      variable-place f c.args.v c.word-i.ensures c.variable_place.result c.variable_place.ensures c.ok_or.ensures.value c.in_ok-place.was a c.requires.0,
      variable-init f c.args.v c.word-i.ensures a c.requires.0,
      variable-room f c.args.v c.word-i.ensures c.variable_place.result c.variable_place.ensures c.ok_or.ensures.value c.in_ok-place.was _ _ c.requires.1,
    )

pub returns : goal.returns
returns c =
    declared-at c.args.known.now.file c.args.v c.word-i.ensures c.variable_place.result c.variable_place.ensures c.is_outside.ensures c.if-is_outside.false c.ok_or.ensures.value c.in_ok-place.was c.initializer.ensures
