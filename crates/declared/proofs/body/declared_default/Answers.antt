-- `body::declared_default` meets its contract. Assumes nothing.
use Rattle.declared.proofs.body.Laws.{asked, body-null, reference-room}
use Rattle.declared.proofs.body.declared_default.Goals as goal

pub subrange_default-requires : goal.subrange_default-requires
subrange_default-requires c = search asked

pub array_or_spec-requires : goal.array_or_spec-requires
array_or_spec-requires c = search asked

pub parts-requires : goal.parts-requires
parts-requires c = search asked

pub parts-requires-in-FunctionBlock : goal.parts-requires-in-FunctionBlock
parts-requires-in-FunctionBlock c = search asked

pub returns-in-Reference : goal.returns-in-Reference
returns-in-Reference c =
    body-null c.args.known.now.file c.args.t c.args.place c.in-Reference.is c.null.ensures (reference-room _ _ _ _ c.requires.3 c.in-Reference.is) c.put_leaf.ensures
