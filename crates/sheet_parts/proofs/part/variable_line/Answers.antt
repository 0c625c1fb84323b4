-- `part::variable_line` meets its contract. Assumes nothing.
use Rattle.definition.specs.Starting.{declaration}
use Rattle.driver.proofs.Settling.{built-of}
use Rattle.sheet_parts.proofs.Parts.{parting, variable-lies}
use Rattle.sheet_parts.proofs.part.variable_line.Goals as goal

pub returns : goal.returns
returns c =
    let k = c.new-read.ensures in
    let v = c.args.v in
    variable-lies c.requires.0 c.requires.1 (built-of k.0 k.2 k.3 (λ f. declaration f v) c.variable.ensures) c.built_line.ensures
