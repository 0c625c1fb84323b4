-- `copies::copy_fields` meets its contract. Assumes nothing.
use borrow.Author.Rules.{rules}
use Rattle.build.proofs.Peeks.{some-of, none-of}
use Rattle.gather.proofs.Copying.{fields-end, fields-not}
use Rattle.gather.proofs.copies.copy_fields.Goals as goal

pub returns-in_err-to : goal.returns-in_err-to
returns-in_err-to c =
    let z = none-of c.ok_or.ensures.value c.in_err-to.was (search rules) in
    fields-not c.args.count c.copy_words.ensures z.0 z.1

pub returns : goal.returns
returns c =
    fields-end c.args.count c.copy_words.ensures (some-of c.ok_or.ensures.value c.in_ok-to.was) c.write_structure.ensures (some-of c.ok_or-2.ensures.value c.in_ok-ok_or.was)
