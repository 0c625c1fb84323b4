-- Start memory of a variable of an accepted file: what is written is read back, and 14 is given for exactly the bytes that no tree of the variable's parts is written as.
-- Assumes nothing.
use Rattle.std.specs.Prelude.{◌≡◌, true, false, List, ℕ, ◌^◌, ◌<◌}
use Rattle.definition.specs.Layout.{count, variables}
use Rattle.definition.specs.Tree.{Tree, flatten}
use Rattle.laws.specs.Accepted.{Accepted}
use Rattle.laws.specs.Every.{Each}
use Rattle.memory_definition.specs.Cells.{Cell, variable_cells}
use Rattle.memory_definition.specs.Forms.{Characters}
use Rattle.memory_definition.specs.Memory.{held_all, narrow_all, bytes_all, readable_all}
use Rattle.memory_laws.specs.Lengths.{AlikeAll}
use Rattle.memory_laws.specs.ReadBack.{ReadBack, written-read-back}
use Rattle.memory_laws.specs.Exactly.{fourteen-exactly}
use Rattle.memory_laws.specs.AcceptedSizes.{WordsAll, sized-all, shaped-alike}
use Rattle.memory_laws.specs.CellShapes.{variable-shaped, variable-sized}

module _ (f : List ℕ) (a : Accepted f) (v : ℕ) (h : v < count f variables) (t : Tree) where
  pub variable-read-back : (text : Characters) → Each (λ w. w < 2 ^ 32) (flatten t) → held_all f (variable_cells f v t) ≡ true → narrow_all f text (variable_cells f v t) ≡ true
      → ReadBack f text (variable_cells f v t)
  variable-read-back text w k n = written-read-back f text (variable_cells f v t) (variable-sized f a v h t w) k n

  -- that bytes which are read are those of what is read is `written-again`
  pub variable-fourteen : (bs : List ℕ) → readable_all f (variable_cells f v t) bs ≡ false
      → (ds : List Cell) (text : Characters) → AlikeAll (variable_cells f v t) ds → WordsAll ds → held_all f ds ≡ true → narrow_all f text ds ≡ true → bytes_all f text ds ≡ bs → ⊥
  variable-fourteen bs r ds text l w k n e =
      fourteen-exactly f (variable_cells f v t) bs r ds text l (sized-all f a ds (shaped-alike f l (variable-shaped f a v h t)) w) k n e
