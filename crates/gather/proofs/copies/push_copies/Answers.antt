-- `copies::push_copies` meets its contract. Assumes nothing.
use borrow.Author.Rules.{rules}
use Rattle.gather.proofs.Copying.{made-mul, made-add, size-add, list-ends, list-not, list-fails}
use Rattle.gather.proofs.copies.push_copies.Goals as goal

pub returns-in_err-may_copy : goal.returns-in_err-may_copy
returns-in_err-may_copy c = let s = c.args in list-fails s.values.made s.values.size s.times s.l s.at c.may_copy.ensures s.room.now c.in_err-may_copy.was (search rules)

pub returns-in_err-end : goal.returns-in_err-end
returns-in_err-end c =
    let s = c.args in
    list-not s.values.made s.values.size s.times s.l s.at c.may_copy.ensures c.in_ok-may_copy.was c.repeat.ensures c.in_err-end.was

pub overflow_mul-result : goal.overflow_mul-result
overflow_mul-result c =
    let s = c.args in
    made-mul s.times s.l.places s.l.made s.l.size s.values.made s.values.size c.may_copy.ensures c.in_ok-may_copy.was (search rules)

pub overflow_add-result : goal.overflow_add-result
overflow_add-result c =
    let s = c.args in
    made-add s.times s.l.places s.l.made s.l.size s.values.made s.values.size c.may_copy.ensures c.in_ok-may_copy.was (search rules) (search rules)

pub overflow_add-result-2 : goal.overflow_add-result-2
overflow_add-result-2 c =
    let s = c.args in
    size-add s.times s.l.places s.l.made s.l.size s.values.made s.values.size c.may_copy.ensures c.in_ok-may_copy.was (search rules)

pub returns : goal.returns
returns c =
    let s = c.args in
    list-ends s.values.made s.values.size s.times s.l s.at c.may_copy.ensures c.in_ok-may_copy.was c.repeat.ensures c.in_ok-end.was
