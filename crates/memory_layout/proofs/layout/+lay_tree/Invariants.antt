-- `layout::lay_tree` meets its contract: a part begins behind its node. Assumes nothing.
use mathlib.Core.Path.{◌≡◌}
use Prim.Native.Nat.{◌-◌}
use lib.ListN.{length}
use Rattle.memory_layout.specs.Parts.{Given, Located, entries_place}
use Rattle.memory_layout.specs.Laid.{Whole}
use Rattle.memory_layout.proofs.Laying.{SoFar}
use Rattle.memory_layout.proofs.layout.+lay_tree.Given as goal

abbrev pub decreases-lay_tree : goal.decreases-lay_tree
decreases-lay_tree l = length l.tree.now - l.at

abbrev pub invariant-loop-k : goal.invariant-loop-k
invariant-loop-k l =
    Given l.file.source l.classes × Located l.file.source l.place × (l.entry ≡ entries_place l.file.source l.place) × Whole l.tree l.at (length l.initial.shapes) × SoFar l.file.source l.tree l.at l.place l.initial.shapes l.shapes l.parts l.to l.k
