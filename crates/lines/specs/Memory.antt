-- The memo of the definition (specs/Resolve.antt) that an index and a store stand for.
use Rattle.std.specs.Prelude.{◌≡◌, ◌⊎◌, List, ℕ, ◌+◌, ◌*◌, ◌≤◌, ◌<◌, length, get_or, Result, Ok, Err}
use Rattle.std.proofs.Math.Seq.{paste}
use Rattle.definition.specs.Tree as trees
use Rattle.definition.specs.Ask.{ok, none, large, Outcome}
use Rattle.definition.specs.Resolve.{Look, known, unknown, Memo, at}
use Rattle.definition.specs.Lines.{outcome_words}
use Rattle.laws.specs.Asks.{OnOk}
use Rattle.laws.specs.Values.{Small}
use Rattle.tree.specs.Words.{Stand}
use Rattle.lines.specs.declared.look.Absent.TheVariants.{Unknown, None, TooLarge}
use Rattle.lines.specs.declared.copy.Uncopied.{Uncopied}
use Rattle.lines.specs.declared.copy.Uncopied.TheVariants as copied
use Rattle.lines.specs.Look.{Remembered}

-- a line of o begins at p, with any rank, and lies within the first `end` words
pub record LineAt (store : List ℕ) (end p : ℕ) (o : Outcome) : Type 0 where
  pub stop : ℕ
  pub stands : Stand store (p + 1) (outcome_words o) stop
  pub inside : stop ≤ end

-- a word of the index that leads to a line of o, whose tree is small
pub record LineOf (word : ℕ) (store : List ℕ) (end : ℕ) (o : Outcome) : Type 0 where
  pub place : ℕ
  pub is : word ≡ place + 2
  pub line : LineAt store end place o
  pub small : OnOk Small o

-- what a word of the index stands for. A type in progress is remembered as none.
abbrev pub Holds : ℕ → List ℕ → ℕ → Look → Type 0
Holds word store end unknown = word ≡ 0
Holds word store end (known o) = ((word ≡ 1) × (o ≡ none)) ⊎ LineOf word store end o

-- the types of M are the first of the index, and the lines lie anywhere in the first `end` words
pub record Remembers (index store : List ℕ) (end : ℕ) (M : Memo) : Type 0 where
  pub wide : length M ≤ length index
  pub within : end ≤ length store
  pub holds : (t : ℕ) → t < length M → Holds (get_or index t 0) store end (at M t)

-- ---- what is read, of what is remembered
-- a tree of so many nodes that stands at a place
pub record TreeThere (store : List ℕ) (at n : ℕ) (l : Look) : Type 0 where
  pub tree : trees.Tree
  pub is : l ≡ known (ok tree)
  pub stands : Stand store at (trees.flatten tree) (at + n * 6)
  pub count : trees.nodes tree ≡ n
  pub small : Small tree

abbrev pub Looks : Remembered → List ℕ → Look → Type 0
Looks (Ok x) store l = TreeThere store x.at x.nodes l
Looks (Err Unknown) store l = l ≡ unknown
Looks (Err None) store l = l ≡ known none
Looks (Err TooLarge) store l = l ≡ known large

-- ---- what is copied, of what is remembered
-- a known tree's words are written at a place, up to an end
pub record CopyThere (old : List ℕ) (at e : ℕ) (new : List ℕ) (l : Look) : Type 0 where
  pub tree : trees.Tree
  pub is : l ≡ known (ok tree)
  pub ends : e ≡ at + trees.nodes tree * 6
  pub room : e ≤ length old
  pub wrote : new ≡ paste old at (trees.flatten tree) (trees.nodes tree * 6)
  pub small : Small tree

-- a known tree has no room, and nothing is written
pub record CopyFull (old : List ℕ) (at : ℕ) (new : List ℕ) (l : Look) : Type 0 where
  pub tree : trees.Tree
  pub is : l ≡ known (ok tree)
  pub full : length old < at + trees.nodes tree * 6
  pub kept : new ≡ old

abbrev pub CopyLooks : Result ℕ Uncopied → List ℕ → ℕ → List ℕ → Look → Type 0
CopyLooks (Err copied.Unknown) old at new l = (l ≡ unknown) × (new ≡ old)
CopyLooks (Err copied.None) old at new l = (l ≡ known none) × (new ≡ old)
CopyLooks (Err copied.TooLarge) old at new l = (l ≡ known large) × (new ≡ old)
CopyLooks (Ok e) old at new l = CopyThere old at e new l
CopyLooks (Err copied.Full) old at new l = CopyFull old at new l
