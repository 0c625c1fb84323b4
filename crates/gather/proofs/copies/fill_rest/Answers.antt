-- `copies::fill_rest` meets its contract. Assumes nothing.
use borrow.Author.Rules.{rules}
use Rattle.build.proofs.Peeks.{some-of}
use Rattle.gather.proofs.Arrays.{over-fails}
use Rattle.gather.proofs.copies.fill_rest.Goals as goal

pub returns-in_err-to : goal.returns-in_err-to
returns-in_err-to c =
    let s = c.args in
    over-fails s.end s.values.end s.values.made s.places s.room.now c.after.ensures (some-of c.ok_or.ensures.value c.in_ok-part.was) c.replace.ensures c.in_err-to.was (search rules)
