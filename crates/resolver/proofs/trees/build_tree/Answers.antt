-- `trees::build_tree` meets its contract. Assumes nothing.
use native.Mathlib.Omega.{arith}
use borrow.Author.Rules.{rules}
use Rattle.laws.specs.Depths.{few-shapes}
use Rattle.resolver.proofs.Answering.{passed-given, passed-ample}
use Rattle.resolver.proofs.trees.build_tree.Goals as goal

pub shape_classes-requires : goal.shape_classes-requires
shape_classes-requires c = omega (arith, few-shapes _ c.requires.accepted)

pub outcome-requires : goal.outcome-requires
outcome-requires c =
    let p = c.requires in
    (passed-given p _ c.shape_classes.ensures (search rules), p.inside, passed-ample p)
