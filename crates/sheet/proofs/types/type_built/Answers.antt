-- `types::type_built` meets its contract. Assumes nothing.
use Rattle.definition.specs.Starting.{body}
use Rattle.driver.proofs.Settling.{built-of}
use Rattle.sheet.proofs.Telling.{checks-ready}
use Rattle.sheet.proofs.types.type_built.Goals as goal

pub new-read-requires : goal.new-read-requires
new-read-requires c = checks-ready c.requires.0

pub returns : goal.returns
returns c = let k = c.new-read.ensures in built-of k.0 k.2 k.3 (λ f. body f c.args.t) c.work_out.ensures
