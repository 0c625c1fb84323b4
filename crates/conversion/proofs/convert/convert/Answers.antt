-- `convert::convert` meets its contract. Assumes nothing.
use Rattle.conversion.proofs.convert.Laws.{value-wrote, refusal-keeps}
use Rattle.conversion.proofs.convert.convert.Goals as goal

pub returns-in_err-file-clause-wrote : goal.returns-in_err-file-clause-wrote
returns-in_err-file-clause-wrote c = let a = c.args in refusal-keeps a.words.now a.shape a.constant _ c.in_err-file.ensures _

pub returns-in-Some-clause-wrote : goal.returns-in-Some-clause-wrote
returns-in-Some-clause-wrote c =
    let a = c.args in let i = c.in_ok-file.ensures in
    value-wrote a.words.now a.shape a.constant i.1 i.0 _ c.value_at.ensures c.in-Some.is _ c.put.ensures.wrote
