-- `copies::copy_structure` meets its contract. Assumes nothing.
use borrow.Author.Rules.{rules}
use Rattle.build.proofs.Peeks.{some-of, none-of}
use Rattle.gather.proofs.Copying.{structure-none, structure-other, structure-taken}
use Rattle.gather.proofs.copies.copy_structure.Goals as goal

pub returns-in_err-value : goal.returns-in_err-value
returns-in_err-value c =
    let z = none-of c.ok_or.ensures.value c.in_err-value.was (search rules) in
    structure-none c.args.begin c.args.end c.args.at c.value_at.ensures z.0 z.1

pub returns-in_default : goal.returns-in_default
returns-in_default c =
    structure-other c.args.begin c.args.end c.args.at c.value_at.ensures (some-of c.ok_or.ensures.value c.in_ok-value.was) c.in_default.not-Structure

pub returns : goal.returns
returns c =
    structure-taken c.args.begin c.args.end c.args.at c.value_at.ensures (some-of c.ok_or.ensures.value c.in_ok-value.was) c.in-Structure.is c.copy_fields.ensures
