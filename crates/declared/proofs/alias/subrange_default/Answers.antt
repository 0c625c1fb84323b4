-- `alias::subrange_default` meets its contract. Assumes nothing.
use native.Mathlib.Omega.{arith}
use Rattle.build.proofs.Levels.{levels-some}
use Rattle.declared.proofs.alias.Laws.{asked}
use Rattle.declared.proofs.alias.subrange_default.Goals as goal

pub over_base-requires : goal.over_base-requires
over_base-requires c =
    (c.requires.0, c.requires.2, omega (arith, c.requires.3, levels-some c.args.known.now.file c.args.place))

pub returns : goal.returns
returns c = search asked
