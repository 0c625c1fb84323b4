-- `input::print_text` meets its contract. Assumes nothing.
use Rattle.sheet_text.proofs.Texting.{texts}
use Rattle.sheet_text.proofs.input.print_text.Goals as goal

pub returns-then-text-end : goal.returns-then-text-end
returns-then-text-end c = search texts

pub returns : goal.returns
returns c = search texts
