-- `copies::named_field` meets its contract. Assumes nothing.
use Rattle.gather.proofs.Members.{laws}
use Rattle.gather.proofs.copies.named_field.Goals as goal

pub returns-in_err-inner : goal.returns-in_err-inner
returns-in_err-inner c = search (laws, c.in_ok-span.was, c.in_err-inner.was)

pub returns : goal.returns
returns c = search (laws, c.in_ok-span.was, c.in_ok-inner.was)
