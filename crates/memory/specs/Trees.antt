-- A variable's tree that stands in a room, written as bytes and read from bytes, as the definition answers it.
use Rattle.std.specs.Prelude.{◌≡◌, true, List, ℕ, ◌*◌, ◌≤◌, length, Option, Result}
use Rattle.definition.specs.declared.answers.Refusal.{Refusal}
use Rattle.definition.specs.Tree.{Tree, nodes, flatten}
use Rattle.definition.specs.Ask.{ok, Outcome}
use Rattle.definition.specs.Starting.{variable_outcome}
use Rattle.definition.specs.Answers.{tree_says}
use Rattle.tree.specs.Words.{Stand}
use Rattle.memory_definition.specs.Cells.{Cell, variable_cells}
use Rattle.memory_definition.specs.Forms.{file_characters}
use Rattle.memory_definition.specs.Memory.{held_all, narrow_all, text_all, nodes_all}
use Rattle.memory_definition.specs.Answers.{memory_says, cells_answer, cells_out, memory_of, memory_in, read_answer, read_over, tree_read_of, nodes_read_of, text_read_of}
use Rattle.memory_laws.specs.InWords.{cells_from}
use Rattle.memory_laws.specs.Placed.{PlacedIn, PlacedAll}

-- the variable's tree stands at the front of the room, so many nodes
pub record TreeIn (f : List ℕ) (v : ℕ) (room : List ℕ) (many : ℕ) : Type 0 where
  pub tree : Tree
  pub is : variable_outcome f v ≡ ok tree
  pub counted : many ≡ nodes tree
  pub stands : Stand room 0 (flatten tree) (6 * nodes tree)

-- so many nodes and the shapes of their places, in an accepted file, stand in words
pub record InWords (f tree shapes : List ℕ) (many : ℕ) : Type 0 where
  pub nodes : many * 6 ≤ length tree
  pub places : many * 6 ≤ length shapes
  pub few : many ≤ 2048
  pub placed : PlacedIn f tree shapes 0 many

-- the shapes of its nodes' places stand in words beside it
pub record Laid (f : List ℕ) (v : ℕ) (room shapes : List ℕ) (many : ℕ) : Type 0 where
  pub words : InWords f room shapes many
  pub cells : (t : Tree) → variable_outcome f v ≡ ok t → cells_from room shapes 0 many ≡ variable_cells f v t

-- so many cells, in places of an accepted file
pub record Few (f : List ℕ) (cs : List Cell) : Type 0 where
  pub placed : PlacedAll f cs
  pub few : length cs ≤ 2048

-- ---- writing
pub record Writable (f : List ℕ) (cs : List Cell) : Type 0 where
  pub held : held_all f cs ≡ true
  pub narrow : narrow_all f (file_characters f) cs ≡ true

pub record WritesCells (f : List ℕ) (cs : List Cell) (old : List ℕ) (r : Result (Option ℕ) Refusal) (new : List ℕ) : Type 0 where
  pub says : memory_says r ≡ cells_answer f cs (length old)
  pub is : new ≡ cells_out f cs old

pub record WritesMemory (f : List ℕ) (v : ℕ) (o : Outcome) (old : List ℕ) (r : Result (Option ℕ) Refusal) (new : List ℕ) : Type 0 where
  pub says : memory_says r ≡ memory_of f v o (length old)
  pub is : new ≡ memory_in f v o old

-- ---- reading: into words for nodes and words for characters
pub record ReadsCells (f : List ℕ) (cs : List Cell) (bs nodes text : List ℕ) (r : Result (Option ℕ) Refusal) (new_nodes new_text : List ℕ) : Type 0 where
  pub says : tree_says r ≡ read_answer f cs bs (length nodes) (length text)
  pub nodes_are : new_nodes ≡ read_over f cs bs (length nodes) (length text) (nodes_all f 0 cs bs) nodes
  pub text_is : new_text ≡ read_over f cs bs (length nodes) (length text) (text_all f cs bs) text

pub record ReadsMemory (f : List ℕ) (v : ℕ) (o : Outcome) (bs nodes text : List ℕ) (r : Result (Option ℕ) Refusal) (new_nodes new_text : List ℕ) : Type 0 where
  pub says : tree_says r ≡ tree_read_of f v o bs (length nodes) (length text)
  pub nodes_are : new_nodes ≡ nodes_read_of f v o bs nodes (length text)
  pub text_is : new_text ≡ text_read_of f v o bs (length nodes) text
