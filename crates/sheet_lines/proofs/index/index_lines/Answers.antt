-- `index::index_lines` meets its contract. Assumes nothing.
use borrow.Author.Rules.{rules}
use Rattle.sheet_lines.proofs.Indexing.{index-starts, index_on}
use Rattle.sheet_lines.proofs.index.index_lines.Goals as goal

pub loop-entry-init : goal.loop-entry-init
loop-entry-init g c = let l = c.requires.lines in (c.requires.pre, index-starts l.0 l.1)

pub loop-entry-preserved : goal.loop-entry-preserved
loop-entry-preserved g c = let i = c.loop-entry.invariant in (i.0, index_on i.1 (search rules) c.word.ensures c.next_line-place.ensures)
