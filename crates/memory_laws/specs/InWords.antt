-- A tree's nodes in words, and the shapes of their places in other words, six for each node in both. Assumes nothing.
use Rattle.std.specs.Prelude.{List, [], ◌∷◌, ℕ, zero, suc, ◌+◌, get_or}
use Rattle.definition.specs.declared.records.Shape.{Shape}
use Rattle.definition.specs.Records.{shape_of}
use Rattle.definition.specs.Tree.{Node}
use Rattle.memory_definition.specs.Cells.{Cell, cell}

abbrev pub node_in : List ℕ → ℕ → Node
node_in s at =
    record { name = get_or s at 0; kind = get_or s (at + 1) 0; sign = get_or s (at + 2) 0; low = get_or s (at + 3) 0; high = get_or s (at + 4) 0; width = get_or s (at + 5) 0 }

-- the first five of six words are a shape's, as its record has them
abbrev pub shape_in : List ℕ → ℕ → Shape
shape_in s at = shape_of (get_or s at 0) (get_or s (at + 1) 0) (get_or s (at + 2) 0) (get_or s (at + 3) 0) (get_or s (at + 4) 0)

abbrev pub cell_in : List ℕ → List ℕ → ℕ → Cell
cell_in tree shapes at = cell (shape_in shapes at) (node_in tree at)

-- so many nodes from a place on
unfoldable pub cells_from : List ℕ → List ℕ → ℕ → ℕ → List Cell
cells_from tree shapes at zero = []
cells_from tree shapes at (suc k) = cell_in tree shapes at ∷ cells_from tree shapes (at + 6) k
