-- `input::put_text` meets its contract. Assumes nothing.
use Rattle.sheet_text.proofs.Texting.{texts}
use Rattle.sheet_text.proofs.input.put_text.Goals as goal

pub returns-then-bytes-gt-MOST_BYTES : goal.returns-then-bytes-gt-MOST_BYTES
returns-then-bytes-gt-MOST_BYTES c = search texts

pub returns-then-bytes-ne0 : goal.returns-then-bytes-ne0
returns-then-bytes-ne0 c = search texts

pub put_whole-requires : goal.put_whole-requires
put_whole-requires c = search texts

pub returns : goal.returns
returns c = search texts
