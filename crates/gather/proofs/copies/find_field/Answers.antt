-- `copies::find_field` meets its contract. Assumes nothing.
use Rattle.gather.proofs.copies.find_field.Goals as goal

pub named_field-requires : goal.named_field-requires
named_field-requires c = rw (c.file.ensures.is, c.classes.ensures) (c.file.ensures.ready.classed, c.requires)

pub returns : goal.returns
returns c = rw c.file.ensures.is at c.named_field.ensures
