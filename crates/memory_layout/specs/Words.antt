-- A shape put into words: what stands before it stays.
use Rattle.std.specs.Prelude.{◌≡◌, List, ℕ, ◌+◌, ◌<◌, length, get_or}
use Rattle.definition.specs.declared.records.Shape.{Shape}
use Rattle.definition.specs.Sheet.{parts_of}
use Rattle.memory_laws.specs.InWords.{shape_in}

-- the words before a place are the same
pub record Before (at : ℕ) (old new : List ℕ) : Type 0 where
  pub long : length new ≡ length old
  pub same : (i : ℕ) → i < at → get_or new i 0 ≡ get_or old i 0

pub record Put (s : Shape) (at : ℕ) (old new : List ℕ) : Type 0 where
  pub kept : Before at old new
  pub is : shape_in new at ≡ s

-- beside a node, with how many parts it says that it has
pub record PutNode (tree : List ℕ) (s : Shape) (at : ℕ) (old : List ℕ) (parts : ℕ) (new : List ℕ) : Type 0 where
  pub put : Put s at old new
  pub many : parts ≡ parts_of (get_or tree (at + 1) 0) (get_or tree (at + 3) 0)
