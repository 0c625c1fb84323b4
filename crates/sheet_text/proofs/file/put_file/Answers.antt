-- `file::put_file` meets its contract. Assumes nothing.
use Rattle.sheet_text.proofs.Filing.{files}
use Rattle.sheet_text.proofs.file.put_file.Goals as goal

pub put_sheet-requires : goal.put_sheet-requires
put_sheet-requires c = search files

pub put_refusal-requires : goal.put_refusal-requires
put_refusal-requires c = search files

pub returns-in-Ok-clause-text : goal.returns-in-Ok-clause-text
returns-in-Ok-clause-text c = search files
