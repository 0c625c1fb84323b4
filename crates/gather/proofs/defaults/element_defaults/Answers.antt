-- `defaults::element_defaults` meets its contract. Assumes nothing.
use borrow.Author.Rules.{rules}
use Rattle.gather.proofs.Elements.{laws, elements-whole, elements-listed, head-whole, head-times, head-fits, head-ends, head-fails}
use Rattle.gather.proofs.defaults.element_defaults.Goals as goal

pub element_defaults-requires : goal.element_defaults-requires
element_defaults-requires c = (search laws, search laws, search laws, search laws)

pub returns-in_err-end : goal.returns-in_err-end
returns-in_err-end c = elements-listed c.ready.ensures _ c.requires.0 _ c.element_defaults.ensures (head-fails _ c.in_err-end.was (search rules))

pub flatten_values-v-requires : goal.flatten_values-v-requires
flatten_values-v-requires c = head-whole _ c.in_ok-end.was (elements-whole c.ready.ensures _ c.requires.0 _ c.element_defaults.ensures)

pub overflow_mul-result : goal.overflow_mul-result
overflow_mul-result c = head-times c.args.at c.in_ok-end.was (elements-whole c.ready.ensures _ c.requires.0 _ c.element_defaults.ensures) c.flatten_values-v.ensures c.flatten_values-v.auto.room (search rules)

pub overflow_add-result : goal.overflow_add-result
overflow_add-result c = head-fits c.args.at c.in_ok-end.was (elements-whole c.ready.ensures _ c.requires.0 _ c.element_defaults.ensures) c.flatten_values-v.ensures c.flatten_values-v.auto.room (search rules)

pub returns : goal.returns
returns c =
    let w = elements-whole c.ready.ensures _ c.requires.0 _ c.element_defaults.ensures in
    elements-listed c.ready.ensures _ c.requires.0 _ c.element_defaults.ensures (head-ends c.args.at c.in_ok-end.was w c.flatten_values-v.ensures)
