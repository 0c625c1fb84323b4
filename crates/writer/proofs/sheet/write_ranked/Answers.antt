-- `sheet::write_ranked` meets its contract. Assumes nothing.
use native.Mathlib.Omega.{arith}
use Rattle.laws.specs.Depths.{few-shapes}
use Rattle.driver.proofs.Tabling.{tables-given}
use Rattle.writer.proofs.Whole.{passed-accepted}
use borrow.Author.Rules.{rules}
use Rattle.writer.proofs.sheet.write_ranked.Goals as goal

pub shape_classes-requires : goal.shape_classes-requires
shape_classes-requires c = omega (arith, few-shapes _ (passed-accepted c.requires.0))

pub write_given-requires : goal.write_given-requires
write_given-requires c =
    let p = c.requires in
    (tables-given (passed-accepted p.0) p.0.roomy _ c.shape_classes.ensures (search rules), p.0, p.1)
