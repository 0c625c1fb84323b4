-- What a building function answers, and what it leaves in the room: for every memo that the index and the store stand for, what the memo gives the computation.
use Rattle.std.specs.Prelude.{◌≡◌, List, ℕ, ◌+◌, ◌-◌, ◌≤◌, length, take, drop}
use Rattle.definition.specs.Layout.{count, types}
use Rattle.definition.specs.Ask.{Result, ok, none, large, Ask}
use Rattle.definition.specs.Resolve.{Memo}
use Rattle.definition.specs.Peek.{Peek, got, wants, peek}
use Rattle.laws.specs.Accepted.{Accepted}
use Rattle.shapes.specs.Classes.{Classes}
use Rattle.tree.specs.Words.{Stand}
use Rattle.lines.specs.Memory.{Remembers}
use Rattle.build.specs.declared.built.Unbuilt.{Unbuilt}
use Rattle.build.specs.declared.built.Unbuilt.TheVariants.{None, TooLarge, Wanted}
use Rattle.std.specs.Prelude.{Err, Ok}
use Rattle.std.specs.Prelude as std

-- where a value ends in the room, or why there is none
abbrev pub Built : Type 0
Built = std.Result ℕ Unbuilt

-- a value's words stand at `at`, and the answer is where they end
abbrev pub answer_of : {A : Type 0} → (A → List ℕ) → ℕ → Peek (Result A) → Built
answer_of words at (got (ok a)) = Ok (at + length (words a))
answer_of words at (got none) = Err None
answer_of words at (got large) = Err TooLarge
answer_of words at (wants d) = Err (Wanted d)

abbrev pub Stands : {A : Type 0} → (A → List ℕ) → ℕ → Peek (Result A) → List ℕ → Type 0
Stands words at (got (ok a)) new = Stand new at (words a) (at + length (words a))
Stands words at (got none) new = Unit {0}
Stands words at (got large) new = Unit {0}
Stands words at (wants d) new = Unit {0}

pub record Gives {A : Type 0} (words : A → List ℕ) (p : Peek (Result A)) (at : ℕ) (r : Built) (new : List ℕ) : Type 0 where
  pub says : r ≡ answer_of words at p
  pub stands : Stands words at p new

-- what lies before `at` stays; what lies behind the answer is free
pub record Puts {A : Type 0} (words : A → List ℕ) (p : Peek (Result A)) (at : ℕ) (old : List ℕ) (r : Built) (new : List ℕ) : Type 0 where
  pub gives : Gives words p at r new
  pub kept : take at new ≡ take at old

-- the tables that never change while a tree is built, as one slice: shape classes in the first 1,024 words, the index of remembered types in the others
abbrev pub index_at : ℕ
index_at = 1024

abbrev pub index_in : List ℕ → List ℕ
index_in known = take (length known - index_at) (drop index_at known)

-- a memo of all types of the file that the index and the store stand for
pub record Memory (f index store : List ℕ) (M : Memo) : Type 0 where
  pub remembers : Remembers index store (length store) M
  pub all : count f types ≤ length M

pub record Builds {A : Type 0} (f index store : List ℕ) (words : A → List ℕ) (m : Ask (Result A)) (at : ℕ) (old : List ℕ) (r : Built) (new : List ℕ) : Type 0 where
  pub gives : (M : Memo) → Memory f index store M → Gives words (peek M m) at r new
  pub kept : take at new ≡ take at old

-- what every building function reads fits together
pub record Ready (f classes index store : List ℕ) : Type 0 where
  pub accepted : Accepted f
  pub classed : Classes f classes
  pub memo : Memo
  pub memory : Memory f index store memo
