-- `ends::lines_end` meets its contract. Assumes nothing.
use Prim.Native.Nat.{◌≤◌}
use Rattle.sheet_lines.proofs.Ending.{EndsAt}
use Rattle.sheet_lines.proofs.ends.lines_end.Given as goal

abbrev pub invariant-loop : goal.invariant-loop
invariant-loop l = (l.counter ≤ l.many) × EndsAt l.form l.sheet l.at l.counter l.place
