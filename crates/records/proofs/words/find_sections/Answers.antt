-- `words::find_sections` meets its contract: the starts found so far are the file's. Assumes nothing.
use Rattle.records.proofs.Starting.{first-start}
use Rattle.records.proofs.words.find_sections.Goals as goal

pub loop-s-init : goal.loop-s-init
loop-s-init c = first-start c.args.file.now
