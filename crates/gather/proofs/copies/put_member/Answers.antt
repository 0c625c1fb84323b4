-- `copies::put_member` meets its contract. Assumes nothing.
use mathlib.Core.Path.{refl}
use borrow.Author.Rules.{rules}
use Rattle.gather.proofs.Members.{puts-ends, puts-fails}
use Rattle.gather.proofs.copies.put_member.Goals as goal

pub returns-in_err-after : goal.returns-in_err-after
returns-in_err-after c =
    let s = c.args in
    puts-fails s.at s.end s.field.begin s.field.end s.field.name refl c.assign.ensures c.in_err-after.was (search rules)

pub returns : goal.returns
returns c =
    let s = c.args in
    puts-ends s.at s.end s.field.begin s.field.end s.field.name refl c.assign.ensures c.in_ok-after.was
