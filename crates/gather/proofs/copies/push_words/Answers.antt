-- `copies::push_words` meets its contract. Assumes nothing.
use borrow.Author.Rules.{rules}
use Rattle.build.proofs.Peeks.{some-of, none-of}
use Rattle.gather.proofs.Copying.{words-not, words-pushed, words-full}
use Rattle.gather.proofs.copies.push_words.Goals as goal

pub returns-in_err-may_add : goal.returns-in_err-may_add
returns-in_err-may_add c =
    let s = c.args in
    words-not s.begin s.end s.l s.room.now s.at c.nodes_between-nodes.ensures c.may_add.ensures c.in_err-may_add.was (search rules)

pub returns-in_err-to : goal.returns-in_err-to
returns-in_err-to c =
    let s = c.args in
    let z = none-of c.ok_or.ensures.value c.in_err-to.was (search rules) in
    words-full s.begin s.end s.l s.room.now s.at c.nodes_between-nodes.ensures c.may_add.ensures c.in_ok-may_add.was c.copy_words.ensures z.0 z.1

pub returns : goal.returns
returns c =
    let s = c.args in
    words-pushed s.begin s.end s.l s.room.now s.at c.nodes_between-nodes.ensures c.may_add.ensures c.in_ok-may_add.was c.copy_words.ensures
    (some-of c.ok_or.ensures.value c.in_ok-to.was)
