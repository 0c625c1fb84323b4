-- Nodes in places of an accepted file, and bytes that they are written as. Assumes nothing.
use Rattle.std.specs.Prelude.{◌≡◌, true, List, ℕ, ◌≤◌, length}
use Rattle.memory_definition.specs.Cells.{Cell}
use Rattle.memory_definition.specs.Memory.{readable_all}
use Rattle.memory_laws.specs.Placed.{PlacedAll}

pub record Written (f : List ℕ) (cs : List Cell) (bytes : List ℕ) : Type 0 where
  pub placed : PlacedAll f cs
  pub read : readable_all f cs bytes ≡ true
  pub few : length cs ≤ 2048
