-- `check::compared` meets its contract. Assumes nothing.
use Rattle.sheet.proofs.Answering.{types-refused, variables-refused, comparing}
use Rattle.sheet.proofs.check.compared.Goals as goal
use Rattle.sheet.proofs.check.compared.Goals.{else-types_right-via-then-types_right+else-variables_right, else-types_right-via-else-types_right}

pub returns-then-variables_right : goal.returns-then-variables_right
returns-then-variables_right c = search comparing

pub returns : goal.returns
returns c =
    let p = c.requires in
    elim c.else-types_right.branch [
      | else-types_right-via-then-types_right+else-variables_right w ↦ variables-refused p.1 p.0 c.types_right.ensures w.if-types_right.true w.variables_right.ensures w.if-variables_right.false
      | else-types_right-via-else-types_right w ↦ types-refused p.1 p.0 c.types_right.ensures w.if-types_right.false
    ]
