-- `variables::variables_right` meets its contract. Assumes nothing.
use Rattle.sheet.proofs.Looping.{pairing-on, pairing}
use Rattle.sheet.proofs.variables.variables_right.Goals as goal

pub overflow_add-at : goal.overflow_add-at
overflow_add-at c = search pairing

pub overflow_add-from : goal.overflow_add-from
overflow_add-from c = search pairing

pub loop-v-init : goal.loop-v-init
loop-v-init c = search pairing

pub next_line-end-requires : goal.next_line-end-requires
next_line-end-requires c = search pairing

pub next_line-stop-requires : goal.next_line-stop-requires
next_line-stop-requires c = search pairing

pub variable_same-requires : goal.variable_same-requires
variable_same-requires c = search pairing

pub returns-then-not-variable_same : goal.returns-then-not-variable_same
returns-then-not-variable_same c = search pairing

pub loop-v-preserved : goal.loop-v-preserved
loop-v-preserved c = (search pairing, pairing-on c.loop-v.invariant.1 c.next_line-end.ensures c.next_line-stop.ensures c.variable_same.ensures c.loop-v-test.true (search pairing), search pairing)

pub returns : goal.returns
returns c = search pairing
