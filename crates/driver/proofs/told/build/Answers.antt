-- `told::build` meets its contract. Assumes nothing.
use mathlib.Core.Path.{◌≡◌}
use Rattle.definition.specs.Ask.{type_default}
use Rattle.definition.specs.Starting.{declaration}
use Rattle.driver.proofs.Settling.{built-of}
use Rattle.driver.proofs.Telling.{room-tree, type-inside}
use Rattle.driver.proofs.told.build.Goals as goal

pub type_default-requires : goal.type_default-requires
type_default-requires c = let p = c.requires in let k = c.new-known.ensures in (rw k.0 (type-inside _ p.1 c.in-Type.is), room-tree _ p.2)
