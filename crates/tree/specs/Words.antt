-- Words that stand at a place of a slice, and words that are written there.
use Rattle.std.specs.Prelude.{◌≡◌, Bool, ◌&&◌, ◌||◌, List, [], ◌++◌, ℕ, zero, suc, ◌+◌, ◌*◌, ◌≤◌, leb, length, take, drop, Option, Some, None}
use Rattle.std.proofs.Math.Seq.{slice, paste}
use Rattle.definition.specs.Base.{pick}

-- the words `ws` stand at `at`, up to `end`
pub record Stand (s : List ℕ) (at : ℕ) (ws : List ℕ) (end : ℕ) : Type 0 where
  pub long : at + length ws ≡ end
  pub fits : end ≤ length s
  pub is : slice at end s ≡ ws

-- where a test holds, the first n words of `src` are written at `at`, and the answer is where they end; else nothing is
pub record Wrote (test : Bool) (old : List ℕ) (at : ℕ) (src : List ℕ) (n : ℕ) (r : Option ℕ) (new : List ℕ) : Type 0 where
  pub says : r ≡ pick test (Some (at + n)) None
  pub is : new ≡ pick test (paste old at src n) old

-- the six words of a node
abbrev pub WroteNode : List ℕ → ℕ → List ℕ → Option ℕ → List ℕ → Type 0
WroteNode old at ws r new = Wrote (leb (at + 6) (length old)) old at ws 6 r new

-- n words from `a` on of another slice
abbrev pub WroteCopy : List ℕ → ℕ → ℕ → List ℕ → ℕ → Option ℕ → List ℕ → Type 0
WroteCopy from a n old at r new = Wrote (leb (a + n) (length from) && leb (at + n) (length old)) old at (drop a from) n r new

-- n words at `a` of so many, and at `at` of so many others
pub record Copyable (from a to at n : ℕ) : Type 0 where
  pub source : a + n ≤ from
  pub target : at + n ≤ to

-- words are moved to the front, or past their end
abbrev pub apart : ℕ → ℕ → ℕ → Bool
apart from n to = leb to from || leb (from + n) to

abbrev pub movable : ℕ → ℕ → ℕ → ℕ → Bool
movable len from n to = (leb (from + n) len && leb (to + n) len) && apart from n to

-- n words of the same slice
abbrev pub WroteShift : List ℕ → ℕ → ℕ → ℕ → Option ℕ → List ℕ → Type 0
WroteShift old from n to r new = Wrote (movable (length old) from n to) old to (drop from old) n r new

-- words, so many times one behind the other
unfoldable pub rept : ℕ → List ℕ → List ℕ
rept zero w = []
rept (suc k) w = w ++ rept k w

-- a run of nodes, so many times in all
abbrev pub WroteRun : List ℕ → ℕ → ℕ → ℕ → Option ℕ → List ℕ → Type 0
WroteRun old at nodes times r new =
    Wrote (leb (at + nodes * 6) (length old) && leb (at + nodes * 6 * times) (length old)) old at (rept times (take (nodes * 6) (drop at old))) (nodes * 6 * times) r new
