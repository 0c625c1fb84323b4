-- `work::levels_of` meets its contract. Assumes nothing.
use native.Mathlib.Omega.{arith}
use borrow.Author.Rules.{rules}
use Rattle.laws.specs.Depths.{few-entries, few-shapes}
use Rattle.acceptance.proofs.work.levels_of.Goals as goal

pub levels-requires : goal.levels-requires
levels-requires c = let f = c.args.file.now in (omega (arith, few-entries f.source f.accepted), omega (arith, few-shapes f.source f.accepted), search rules)
