-- `number::put_each` meets its contract. Assumes nothing.
use mathlib.Core.Path.{◌≡◌}
use lib.ListN.{length}
use Rattle.memory_bytes.proofs.Numbering.{Turning}
use Rattle.memory_bytes.proofs.number.put_each.Given as goal

abbrev pub invariant-loop : goal.invariant-loop
invariant-loop g l = goal.F-IsAlwaysCallable g l.turn × Turning (goal.F-post g l.turn) l.count l.n l.initial.bytes l.at l.counter l.rest l.bytes l.end × (length l.bytes ≡ length l.initial.bytes)
