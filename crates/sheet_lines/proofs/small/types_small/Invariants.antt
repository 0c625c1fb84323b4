-- `small::types_small` meets its contract. Assumes nothing.
use Rattle.sheet_lines.proofs.Sizing.{Sizing}
use Rattle.sheet_lines.proofs.small.types_small.Given as goal

abbrev pub invariant-loop-t : goal.invariant-loop-t
invariant-loop-t l = Sizing l.sheet l.many l.t l.place
