-- `types::put_types` meets its contract. Assumes nothing.
use native.Mathlib.Omega.{arith}
use borrow.Author.Rules.{rules}
use Rattle.sheet_parts.proofs.Sections.{writing, type-next}
use Rattle.sheet_parts.proofs.types.put_types.Goals as goal

pub put_word-end-requires : goal.put_word-end-requires
put_word-end-requires c = search writing

pub loop-t-init : goal.loop-t-init
loop-t-init c = search writing

pub put_line-end-requires : goal.put_line-end-requires
put_line-end-requires c = search writing

pub loop-t-preserved : goal.loop-t-preserved
loop-t-preserved c =
    let k = c.requires.0 in
    let i = c.loop-t.invariant in
    let h = c.loop-t-test.true in
    let p = c.put_line-end in
    let l = p.auto in
    (type-next k i.2 h _ i.0 _ c.type_line-line.ensures c.word_at.ensures p.ensures, omega (arith, h), i.2, search rules)

pub returns : goal.returns
returns c = search writing
