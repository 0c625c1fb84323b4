-- `sheet::write_given` meets its contract. Assumes nothing.
use borrow.Author.Rules.{rules}
use Rattle.resolver.proofs.Answering.{copied-so}
use Rattle.writer.proofs.Whole.{all-resolved, full-short, room-kept}
use Rattle.writer.proofs.sheet.write_given.Goals as goal

pub returns-in_err-ok_or : goal.returns-in_err-ok_or
returns-in_err-ok_or c =
    let p = c.requires in
    let s = c.resolve_types in
    let k = s.auto in
    full-short p.1 p.2 s.ensures.1 c.ok_or.ensures.value c.in_err-ok_or.was (search rules) (search rules) (search rules)

pub write_resolved-requires : goal.write_resolved-requires
write_resolved-requires c =
    let p = c.requires in
    let s = c.resolve_types in
    let k = s.auto in
    (all-resolved p.1 p.2 p.0 s.ensures.0 s.ensures.1 (copied-so c.ok_or.ensures.value c.in_ok-ok_or.was), room-kept p.1.roomy _ (search rules))
