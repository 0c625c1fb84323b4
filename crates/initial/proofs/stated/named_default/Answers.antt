-- `stated::named_default` meets its contract. Assumes nothing.
use borrow.Author.Rules.{rules}
use Rattle.initial.proofs.stated.Laws.{name-none, name-type, name-some}
use Rattle.initial.proofs.stated.named_default.Goals as goal

pub returns-in_err-t : goal.returns-in_err-t
returns-in_err-t c f l = name-none c.args.name c.checked_sub.result c.checked_sub.ensures c.ok_or.ensures.value c.in_err-t.was (search rules)

pub returns : goal.returns
returns c f l =
    name-some c.args.name c.checked_sub.result c.checked_sub.ensures c.ok_or.ensures.value c.in_ok-t.was
    (c.type_default.ensures f (name-type c.args.name c.checked_sub.result c.checked_sub.ensures c.ok_or.ensures.value c.in_ok-t.was f l))
