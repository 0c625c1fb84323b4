-- A line that is appended to a store.
use Rattle.std.specs.Prelude.{◌≡◌, Bool, ◌&&◌, List, [], ◌∷◌, ℕ, ◌+◌, ◌*◌, ◌≤◌, min, leb, length, drop, set, Option, Some, None}
use Rattle.std.proofs.Math.Seq.{paste}
use Rattle.definition.specs.Base.{pick}

-- no store has more words, so that a place in it fits a word
abbrev pub most_words : ℕ
most_words = 268435456

-- a line of so many nodes fits behind the others
unfoldable pub room : ℕ → ℕ → ℕ → Bool
room length end nodes = leb (end + 3 + nodes * 6) (min length most_words)

-- the same of a head alone, as facts
pub record HeadRoom (length end : ℕ) : Type 0 where
  pub inside : end + 3 ≤ length
  pub counted : end + 3 ≤ most_words

-- where a test holds, the first n words of `src` are the line of t, and the lines end behind it; else nothing is written
pub record Appends (test : Bool) (src : List ℕ) (n : ℕ) (index store : List ℕ) (end t : ℕ) (r : Option ℕ) (index' store' : List ℕ) : Type 0 where
  pub says : r ≡ pick test (Some (end + n)) None
  pub marks : index' ≡ pick test (set index t (end + 2)) index
  pub writes : store' ≡ pick test (paste store end src n) store

-- a line without nodes
abbrev pub AppendsState : ℕ → List ℕ → List ℕ → ℕ → ℕ → Option ℕ → List ℕ → List ℕ → Type 0
AppendsState state index store end t r index' store' = Appends (room (length store) end 0) (0 ∷ state ∷ 0 ∷ []) 3 index store end t r index' store'

-- a line with so many nodes from `a` on of another slice
abbrev pub AppendsTree : List ℕ → ℕ → ℕ → List ℕ → List ℕ → ℕ → ℕ → Option ℕ → List ℕ → List ℕ → Type 0
AppendsTree from a nodes index store end t r index' store' =
    Appends (room (length store) end nodes && leb (a + nodes * 6) (length from)) (0 ∷ 0 ∷ nodes ∷ drop a from) (3 + nodes * 6) index store end t r index' store'
