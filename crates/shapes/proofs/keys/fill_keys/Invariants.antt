-- `keys::fill_keys` meets its contract. Assumes nothing.
use Rattle.records.specs.Tables.{Filled}
use Rattle.shapes.specs.Keys.{key_of}
use Rattle.shapes.proofs.keys.fill_keys.Given as goal

abbrev pub invariant-loop-n : goal.invariant-loop-n
invariant-loop-n l = Filled (key_of l.file) l.n l.initial.wanted l.wanted
