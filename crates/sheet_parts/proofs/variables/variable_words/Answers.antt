-- `variables::variable_words` meets its contract. Assumes nothing.
use Rattle.sheet_parts.proofs.Beside.{counting}
use Rattle.sheet_parts.proofs.variables.variable_words.Goals as goal

pub returns : goal.returns
returns c = search counting
