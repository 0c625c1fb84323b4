-- `index::index_lines` meets its contract. Assumes nothing.
use Rattle.sheet_lines.proofs.Indexing.{Indexing}
use Rattle.sheet_lines.proofs.index.index_lines.Given as goal

abbrev pub invariant-loop-entry : goal.invariant-loop-entry
invariant-loop-entry g l = goal.F-IsAlwaysCallable g l.word × Indexing (goal.F-post g l.word) l.sheet l.many l.fn.index l.entry-index l.place l.entry-items
