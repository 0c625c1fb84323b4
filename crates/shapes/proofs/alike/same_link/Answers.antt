-- `alike::same_link` meets its contract. Assumes nothing.
use Rattle.shapes.proofs.Comparing.{link-both}
use Rattle.shapes.proofs.alike.same_link.Goals as goal

pub returns : goal.returns
returns c = link-both _ _ _ c.checked_sub.ensures c.in-Some.is c.checked_sub-2.ensures c.in-Some-checked_sub.is c.same_in.ensures
