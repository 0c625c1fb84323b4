-- `alias::simple_default` meets its contract. Assumes nothing.
use borrow.Author.Rules.{rules}
use Rattle.declared.proofs.alias.Laws.{simple-none, simple-in, simple-room, simple-some}
use Rattle.declared.proofs.alias.simple_default.Goals as goal

pub returns-in_err-i : goal.returns-in_err-i
returns-in_err-i c = simple-none c.args.known.now.file c.args.place c.args.start c.checked_sub.result c.checked_sub.ensures c.ok_or.ensures.value c.in_err-i.was (search rules)

pub alias_default-requires : goal.alias_default-requires
alias_default-requires c =
    let f = c.args.known.now.file in
    let o = c.checked_sub.result in
    let q = c.checked_sub.ensures in
    let k = c.ok_or.ensures.value in
    let e = c.in_ok-i.was in
    (c.requires.0, simple-in f c.args.place c.args.start o q k e c.requires.1, simple-room f c.args.place c.args.start o q k e _ _ c.requires.2)

pub returns : goal.returns
returns c = simple-some c.args.known.now.file c.args.place c.args.start c.checked_sub.result c.checked_sub.ensures c.ok_or.ensures.value c.in_ok-i.was c.alias_default.ensures
