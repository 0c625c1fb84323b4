-- What the driver leaves in an index and a store: for every memo that they stand for, the memo that the definition's resolver gives.
use Rattle.std.specs.Prelude.{◌≡◌, List, [], ◌∷◌, ℕ, suc, ◌+◌, ◌/◌, ◌≤◌, ◌<◌, min, eqb, length, get_or}
use Rattle.definition.specs.Base.{pick}
use Rattle.definition.specs.Layout.{count, types}
use Rattle.definition.specs.Ask.{Ask}
use Rattle.definition.specs.Starting.{body}
use Rattle.definition.specs.Resolve.{Look, known, unknown, Memo, put, Ran, run, resolve}
use Rattle.definition.specs.Lines.{outcome_words}
use Rattle.definition.specs.Answers.{room_words}
use Rattle.laws.specs.Accepted.{Accepted}
use Rattle.shapes.specs.Classes.{Classes}
use Rattle.lines.specs.Append.{most_words, AppendsState, AppendsTree}
use Rattle.lines.specs.Memory.{Remembers}
use Rattle.build.specs.Built.{Built}
use Rattle.build.specs.declared.built.Unbuilt.TheVariants as unbuilt
use Rattle.build.specs.Built.{index_at}
use Rattle.std.specs.Prelude.{None, Option, Some}
use Rattle.std.specs.Prelude.{Ok, Err}

-- ---- the words of lines
-- a line has a rank before its outcome's words
unfoldable pub look_words : Look → ℕ
look_words (known o) = suc (length (outcome_words o))
look_words unknown = 0

-- of all known types, those in progress among them
unfoldable pub width : Memo → ℕ
width [] = 0
width (l ∷ M) = look_words l + width M

-- of all known types but those in progress
unfoldable pub spent : Memo → List ℕ → ℕ
spent [] index = 0
spent (l ∷ M) [] = 0
spent (l ∷ M) (w ∷ index) = pick (eqb w 1) 0 (look_words l) + spent M index

-- an index and a store stand for a memo of the file's types, and the lines lie one behind the other
pub record Holding (f index store : List ℕ) (end : ℕ) (M : Memo) : Type 0 where
  pub remembers : Remembers index store end M
  pub all : length M ≡ count f types
  pub spends : end ≡ spent M index

-- how many words of an index are 0
unfoldable pub zeros : List ℕ → ℕ
zeros [] = 0
zeros (w ∷ l) = pick (eqb w 0) 1 0 + zeros l

-- ---- what is resolved
-- the file's own resolver
unfoldable pub ran : {A : Type 0} → List ℕ → Memo → Ask A → Ran A
ran f M m = run (resolve (body f) (count f types)) M m

-- a type in progress, worked out
unfoldable pub settled : List ℕ → Memo → ℕ → Memo
settled f M t = let r = ran f M (body f t) in put r.memo t r.value

-- an unknown type
unfoldable pub resolved : List ℕ → Memo → ℕ → Memo
resolved f M t = (resolve (body f) (count f types) M t).memo

-- a memo is held, or its lines are more than a store has room for
abbrev pub After : List ℕ → Option ℕ → List ℕ → List ℕ → Memo → Type 0
After f (Some e) index store N = Holding f index store e N
After f None index store N = min (length store) most_words < width N

-- ---- contracts
-- the type that is wanted
abbrev pub wanted_in : Built → Option ℕ
wanted_in (Ok e) = None
wanted_in (Err unbuilt.None) = None
wanted_in (Err unbuilt.TooLarge) = None
wanted_in (Err (unbuilt.Wanted d)) = Some d

-- what was built at the front of a room becomes the line of t
abbrev pub AppendsBuilt : Built → List ℕ → List ℕ → List ℕ → ℕ → ℕ → Option ℕ → List ℕ → List ℕ → Type 0
AppendsBuilt (Ok e) room index store end t r index' store' = AppendsTree room 0 (e / 6) index store end t r index' store'
AppendsBuilt (Err unbuilt.None) room index store end t r index' store' = AppendsState 1 index store end t r index' store'
AppendsBuilt (Err unbuilt.TooLarge) room index store end t r index' store' = AppendsState 2 index store end t r index' store'
AppendsBuilt (Err (unbuilt.Wanted d)) room index store end t r index' store' = Unit {0}

-- a value that was built ends within so many words
abbrev pub EndsIn : Built → ℕ → Type 0
EndsIn (Ok e) n = e ≤ n
EndsIn (Err u) n = Unit {0}

pub record Stores (made : Built) (room index store : List ℕ) (end t : ℕ) (r : Option ℕ) (index' store' : List ℕ) : Type 0 where
  pub appends : AppendsBuilt made room index store end t r index' store'

pub record Settles (f : List ℕ) (t : ℕ) (index store : List ℕ) (end : ℕ) (r : Option ℕ) (index' store' : List ℕ) : Type 0 where
  pub gives : (M : Memo) → Holding f index store end M → After f r index' store' (settled f M t)
  pub old : (s w : ℕ) → (s ≡ t → ⊥) → get_or index s 0 ≡ suc w → get_or index' s 0 ≡ suc w
  pub fewer : zeros index' ≤ zeros index

pub record Resolves (f : List ℕ) (t : ℕ) (index store : List ℕ) (end : ℕ) (r : Option ℕ) (index' store' : List ℕ) : Type 0 where
  pub gives : (M : Memo) → Holding f index store end M → After f r index' store' (resolved f M t)
  pub old : (s w : ℕ) → get_or index s 0 ≡ suc w → get_or index' s 0 ≡ suc w
  pub fewer : zeros index' < zeros index

-- what the arguments have to be where classes and index are one slice: it has a word of the index for each type
pub record Given (f known : List ℕ) (room : ℕ) : Type 0 where
  pub accepted : Accepted f
  pub classed : Classes f known
  pub tables : index_at + count f types ≤ length known
  pub roomy : room_words f ≤ room

-- the same of the classes and the index where they are lent apart: how many words the index has
pub record Prepared (f classes : List ℕ) (words room : ℕ) : Type 0 where
  pub accepted : Accepted f
  pub classed : Classes f classes
  pub typed : count f types ≤ words
  pub roomy : room_words f ≤ room

-- a memo is held
pub record Held (f index store : List ℕ) (end : ℕ) : Type 0 where
  pub memo : Memo
  pub holding : Holding f index store end memo

-- and a type is in progress, or unknown
pub record Begun (f index store : List ℕ) (end t : ℕ) : Type 0 where
  pub held : Held f index store end
  pub inside : t < count f types
  pub word : get_or index t 0 ≡ 1

pub record Fresh (f index store : List ℕ) (end t : ℕ) : Type 0 where
  pub held : Held f index store end
  pub inside : t < count f types
  pub word : get_or index t 0 ≡ 0
