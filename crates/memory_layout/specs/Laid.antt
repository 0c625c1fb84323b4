-- A tree in words, and the shapes of its nodes' places in words beside it.
use Rattle.std.specs.Prelude.{◌≡◌, List, ℕ, ◌≤◌}
use Rattle.definition.specs.declared.records.Place.{Place}
use Rattle.definition.specs.Tree.{Tree, nodes, flatten}
use Rattle.laws.specs.Whole.{Good}
use Rattle.tree.specs.Words.{Stand}
use Rattle.memory_definition.specs.Cells.{cells}
use Rattle.memory_laws.specs.InWords.{cells_from}
use Rattle.memory_layout.specs.Words.{Before}

-- a whole tree stands at a place, and ends within so many words
pub record Whole (s : List ℕ) (at room : ℕ) : Type 0 where
  pub tree : Tree
  pub end : ℕ
  pub good : Good tree
  pub stands : Stand s at (flatten tree) end
  pub fits : end ≤ room

-- every whole tree that stands at a place has its shapes beside it, and ends where the answer says
pub record LaidTo (f tree : List ℕ) (at : ℕ) (place : Place) (end : ℕ) (shapes : List ℕ) : Type 0 where
  pub says : (t : Tree) (e : ℕ) → Good t → Stand tree at (flatten t) e → (end ≡ e) × (cells_from tree shapes at (nodes t) ≡ cells f place t)

pub record LaidTree (f tree : List ℕ) (at : ℕ) (place : Place) (old : List ℕ) (end : ℕ) (new : List ℕ) : Type 0 where
  pub kept : Before at old new
  pub laid : LaidTo f tree at place end new

-- the cells in words of every whole tree that stands at the front are its cells
pub record Laid (f tree : List ℕ) (place : Place) (shapes : List ℕ) : Type 0 where
  pub says : (t : Tree) (e : ℕ) → Good t → Stand tree 0 (flatten t) e → cells_from tree shapes 0 (nodes t) ≡ cells f place t
