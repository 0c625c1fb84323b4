-- What an answer says of a computation (definition, specs/Ask.antt) that a memo answers, and of the words in the room.
use Rattle.std.specs.Prelude.{◌≡◌, List, take, ℕ, ◌+◌, ◌*◌, ◌≤◌}
use Rattle.definition.specs.Tree.{Tree, Trees, many, nodes, nodes_in, flatten, flatten_all}
use Rattle.definition.specs.Ask.{Result, ok, none, large, Outcome, Ask}
use Rattle.definition.specs.Resolve.{Memo}
use Rattle.definition.specs.Peek.{Peek, got, wants, peek}
use Rattle.laws.specs.Values.{Small}
use Rattle.laws.specs.Gathers.{Gathered}
use Rattle.tree.specs.Words.{Stand}
use Rattle.build.specs.declared.built.Unbuilt.{Unbuilt}
use Rattle.build.specs.declared.built.Unbuilt.TheVariants as unbuilt
use Rattle.build.specs.Built.{Built}
use Rattle.gather.specs.declared.answers.Listed.{Listed}
use Rattle.gather.specs.declared.answers.Filling.{Filling}
use Rattle.std.specs.Prelude.{Err, Ok}
use Rattle.std.specs.Prelude as std

-- values that are gathered, or why there are none
abbrev pub Listing : Type 0
Listing = std.Result Listed Unbuilt

-- values up to here, so many with so many nodes
abbrev pub listed : ℕ → ℕ → ℕ → Listing
listed end made size = Ok (record { end = end; made = made; size = size })

-- why there is no value, as a memo gives it
abbrev pub stopped : {A : Type 0} → Unbuilt → Peek (Result A)
stopped unbuilt.None = got none
stopped unbuilt.TooLarge = got large
stopped (unbuilt.Wanted d) = wants d

-- a tree stands at a place
pub record TreeThere (M : Memo) (m : Ask Outcome) (at e : ℕ) (new : List ℕ) : Type 0 where
  pub tree : Tree
  pub is : peek M m ≡ got (ok tree)
  pub ends : e ≡ at + 6 * nodes tree
  pub stands : Stand new at (flatten tree) e
  pub small : Small tree

abbrev pub Builds : Memo → Ask Outcome → ℕ → Built → List ℕ → Type 0
Builds M m at (Ok e) new = TreeThere M m at e new
Builds M m at (Err u) new = peek M m ≡ stopped u

-- values stand at a place, behind those that were made before
pub record ListThere (M : Memo) (m : Ask (Result Trees)) (l : Filling) (at e made size : ℕ) (new : List ℕ) : Type 0 where
  pub trees : Trees
  pub is : peek M m ≡ got (ok trees)
  pub ends : e ≡ at + 6 * nodes_in trees
  pub counts : made ≡ l.made + many trees
  pub sizes : size ≡ l.size + nodes_in trees
  pub stands : Stand new at (flatten_all trees) e
  pub small : Gathered l.size trees
  pub few : made ≤ l.places

abbrev pub Lists : Memo → Ask (Result Trees) → Filling → ℕ → Listing → List ℕ → Type 0
Lists M m l at (Ok v) new = ListThere M m l at v.end v.made v.size new
Lists M m l at (Err u) new = peek M m ≡ stopped u

-- the same, where what stood before the place still does
pub record Placed (M : Memo) (m : Ask Outcome) (old : List ℕ) (at : ℕ) (r : Built) (new : List ℕ) : Type 0 where
  pub kept : take at new ≡ take at old
  pub builds : Builds M m at r new

pub record Filled (M : Memo) (m : Ask (Result Trees)) (l : Filling) (old : List ℕ) (at : ℕ) (r : Listing) (new : List ℕ) : Type 0 where
  pub kept : take at new ≡ take at old
  pub lists : Lists M m l at r new
