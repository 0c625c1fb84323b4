-- `copies::next_default` meets its contract. Assumes nothing.
use borrow.Author.Rules.{rules}
use Rattle.build.proofs.Peeks.{some-of, none-of}
use Rattle.gather.proofs.Copying.{next-ends, next-none}
use Rattle.gather.proofs.copies.next_default.Goals as goal

pub returns-in_err-end : goal.returns-in_err-end
returns-in_err-end c =
    let z = none-of c.ok_or.ensures.value c.in_err-end.was (search rules) in
    next-none c.default_end.ensures z.0 z.1

pub returns : goal.returns
returns c = next-ends c.default_end.ensures (some-of c.ok_or.ensures.value c.in_ok-end.was) c.push_words.ensures
