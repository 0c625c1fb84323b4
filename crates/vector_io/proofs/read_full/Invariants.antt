use Rattle.std.proofs.Common.{◌≤◌, length}
use Rattle.vector_io.proofs.read_full.Given as goal

abbrev pub invariant-loop-reader : goal.invariant-loop-reader
invariant-loop-reader g l = length l.rest ≤ l.room

abbrev pub decreases-loop-reader : goal.decreases-loop-reader
decreases-loop-reader g l = length l.rest
