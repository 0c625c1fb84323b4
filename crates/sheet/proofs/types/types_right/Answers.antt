-- `types::types_right` meets its contract. Assumes nothing.
use Rattle.sheet.proofs.Looping.{typing}
use Rattle.sheet.proofs.types.types_right.Goals as goal

pub loop-t-init : goal.loop-t-init
loop-t-init c = search typing

pub next_line-end-requires : goal.next_line-end-requires
next_line-end-requires c = search typing

pub returns-then-not-type_same : goal.returns-then-not-type_same
returns-then-not-type_same c = search typing

pub loop-t-preserved : goal.loop-t-preserved
loop-t-preserved c = (search typing, search typing, search typing)

pub returns : goal.returns
returns c = search typing
