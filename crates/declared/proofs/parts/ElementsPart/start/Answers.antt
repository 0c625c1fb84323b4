-- `parts::ElementsPart::start` meets its contract. Assumes nothing.
use borrow.Author.Rules.{rules}
use Rattle.declared.proofs.parts.Laws.{element-none, element_place_lem, element-init, element-room, element-at}
use Rattle.declared.proofs.parts.ElementsPart.start.Goals as goal

pub returns-in_err-inner : goal.returns-in_err-inner
returns-in_err-inner c =
    element-none c.args.known.now.file c.args.place c.args.k c.word-name.ensures c.field_place.result c.field_place.ensures.is c.ok_or.ensures.value c.in_err-inner.was (search rules)

pub initializer-requires : goal.initializer-requires
initializer-requires c =
    let f = c.args.known.now.file in
    let a = c.args.known.now.accepted in
    let w = c.field_place in
    let k = c.ok_or.ensures.value in
    let z = c.in_ok-inner.was in (
      element_place_lem f c.args.place c.args.k c.word-name.ensures w.result w.ensures.is k z a c.requires.0,
      element-init f c.args.k c.word-i.ensures a c.requires.1,
      element-room f c.args.place c.args.k c.word-name.ensures w.result w.ensures.is k z c.word-i.ensures _ _ c.requires.2,
    )

pub returns : goal.returns
returns c =
    element-at c.args.known.now.file c.args.place c.args.k c.word-name.ensures c.field_place.result c.field_place.ensures.is c.ok_or.ensures.value c.in_ok-inner.was c.word-i.ensures
    c.initializer.ensures
