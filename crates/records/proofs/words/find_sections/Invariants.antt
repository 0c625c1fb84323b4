-- `words::find_sections` meets its contract: the starts found so far are the file's. Assumes nothing.
use Rattle.records.specs.Starts.{StartsTo}
use Rattle.records.proofs.words.find_sections.Given as goal

abbrev pub invariant-loop-s : goal.invariant-loop-s
invariant-loop-s l = StartsTo l.file l.starts l.s
