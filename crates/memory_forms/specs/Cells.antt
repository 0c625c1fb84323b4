-- The nodes that a walk has left, as cells of the definition. Assumes nothing.
use Rattle.std.specs.Prelude.{List, ℕ, ◌/◌, length, min}
use Rattle.memory_definition.specs.Cells as definition
use Rattle.memory_laws.specs.InWords.{cells_from}
use Rattle.memory_forms.specs.declared.cells.Cells.{Cells}

-- as many as both words hold
abbrev pub cells_in : List ℕ → List ℕ → List definition.Cell
cells_in tree shapes = cells_from tree shapes 0 (min (length tree / 6) (length shapes / 6))

abbrev pub left : Cells → List definition.Cell
left c = cells_in c.tree.now c.shapes.now
