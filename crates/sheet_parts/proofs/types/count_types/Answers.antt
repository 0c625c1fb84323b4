-- `types::count_types` meets its contract. Assumes nothing.
use Rattle.sheet_parts.proofs.Sections.{counting}
use Rattle.sheet_parts.proofs.types.count_types.Goals as goal

pub loop-t-init : goal.loop-t-init
loop-t-init c = search counting

pub words_of-words-requires : goal.words_of-words-requires
words_of-words-requires c = search counting

pub loop-t-preserved : goal.loop-t-preserved
loop-t-preserved c = search counting
