-- `parts::part_field` meets its contract. Assumes nothing.
use mathlib.Core.Path.{◌≡◌}
use borrow.Author.Rules.{rules}
use Rattle.definition.specs.Layout.{word}
use Rattle.declared.proofs.parts.Laws.{part-fails, part-after, part-inside, part-all}
use Rattle.declared.proofs.parts.part_field.Goals as goal

pub returns-in_err-end : goal.returns-in_err-end
returns-in_err-end g c =
    let w : c.word-name.result ≡ word c.args.known.now.file g.P.Part.SECTION c.args.k 0 = search rules in
    part-fails c.args.known.now.file c.args.place g.P.Part.SECTION c.args.k w c.in_err-end.ensures (search rules)

pub name_field-requires : goal.name_field-requires
name_field-requires g c =
    let s = c in (
      c.requires.3,
      part-after c.ready.ensures c.start.ensures c.in_ok-end.was,
      part-inside c.ready.ensures c.start.ensures c.in_ok-end.was,
    )

pub returns : goal.returns
returns g c =
    let s = c in
    let w : c.word-name.result ≡ word c.args.known.now.file g.P.Part.SECTION c.args.k 0 = search rules in
    part-all c.args.known.now.file c.args.place g.P.Part.SECTION c.args.k w c.start.ensures c.in_ok-end.was c.requires.3
    (part-after c.ready.ensures c.start.ensures c.in_ok-end.was) c.name_field.ensures
