-- `depths::greatest` meets its contract. Assumes nothing.
use mathlib.Core.Path.{◌≡◌}
use Prim.Native.Nat.{◌≤◌}
use lib.ListN.{length}
use Rattle.acceptance.proofs.Nests.{Greatest}
use Rattle.records.specs.Tables.{Filled}
use Rattle.acceptance.specs.Nesting.{FromLower}
use Rattle.acceptance.proofs.depths.greatest.Given as goal

abbrev pub invariant-loop-n : goal.invariant-loop-n
invariant-loop-n g l =
    (l.n ≤ l.many) × (length l.words ≡ length l.initial.words)
    × ((d : _) → FromLower (goal.F-pre g l.depth) (goal.F-post g l.depth) d l.many → Filled d l.n l.initial.words l.words × Greatest d l.n l.most)
