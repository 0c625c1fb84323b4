-- `classes::shape_classes` meets its contract. Assumes nothing.
use native.Mathlib.Omega.{arith}
use lib.ListN.{length-set}
use borrow.Author.Rules.{rules}
use Rattle.records.proofs.Filling.{one-filled}
use Rattle.shapes.proofs.Classing.{class-next, filling}
use Rattle.shapes.proofs.classes.shape_classes.Goals as goal

pub loop-n-preserved : goal.loop-n-preserved
loop-n-preserved c = let i = c.loop-n.invariant in (search rules, search rules, simp length-set (search rules), i.3, one-filled i.4 (omega arith) (class-next _ i.4 c.args.file.now.accepted (omega arith) c.first_like-class.ensures))

pub returns : goal.returns
returns c = search filling
