-- Trees that grow in words.
use Rattle.std.specs.Prelude.{◌≡◌, Bool, ◌&&◌, List, ◌++◌, ℕ, suc, ◌+◌, ◌-◌, ◌*◌, ◌≤◌, leb, length, take, drop, set, Result, Ok, Err}
use Rattle.std.proofs.Math.Seq.{paste, slice}
use Rattle.definition.specs.Base.{pick}
use Rattle.definition.specs.Tree.{most_nodes}
use Rattle.tree.specs.declared.extent.Span.{Span}
use Rattle.tree_changes.specs.declared.grow.Unfit.{Unfit}
use Rattle.tree_changes.specs.declared.grow.Unfit.TheVariants.{TooLarge, Outside}
use Rattle.tree.specs.Words.{rept}

-- where it is small enough and a test holds, the first n words of `src` are written at `at`, and the answer is where they end; else nothing is
pub record Grew (small test : Bool) (old : List ℕ) (at : ℕ) (src : List ℕ) (n : ℕ) (r : Result ℕ Unfit) (new : List ℕ) : Type 0 where
  pub says : r ≡ pick small (pick test (Ok (at + n)) (Err Outside)) (Err TooLarge)
  pub is : new ≡ pick (small && test) (paste old at src n) old

-- nodes of another slice, under a head that has some already: the definition's `gathered`
abbrev pub Gathered : List ℕ → ℕ → ℕ → List ℕ → ℕ → ℕ → Result ℕ Unfit → List ℕ → Type 0
Gathered from a nodes old at size r new =
    Grew (leb (suc (size + nodes)) most_nodes) (leb (a + nodes * 6) (length from) && leb (at + nodes * 6) (length old)) old at (drop a from) (nodes * 6) r new

-- a run of nodes, so many times in all: the definition's `repeated_defaults`
abbrev pub Repeated : List ℕ → ℕ → ℕ → ℕ → Result ℕ Unfit → List ℕ → Type 0
Repeated old at nodes times r new =
    Grew (leb (suc (times * nodes)) most_nodes) (leb (at + nodes * 6) (length old) && leb (at + nodes * 6 * times) (length old)) old at
    (rept times (take (nodes * 6) (drop at old))) (nodes * 6 * times) r new

-- ---- a part of a tree gives way to a tree that lies behind
-- the part lies within the tree, and the new one behind it
abbrev pub in_order : Span → Span → Span → Bool
in_order tree part fresh =
    leb tree.begin part.begin && (leb part.begin part.end && (leb part.end tree.end && (leb tree.end fresh.begin && leb fresh.begin fresh.end)))

pub record Ordered (tree part fresh : Span) : Type 0 where
  pub after : tree.begin ≤ part.begin
  pub part_runs : part.begin ≤ part.end
  pub inside : part.end ≤ tree.end
  pub behind : tree.end ≤ fresh.begin
  pub fresh_runs : fresh.begin ≤ fresh.end

-- what follows the part
abbrev pub tail : Span → Span → ℕ
tail tree part = tree.end - part.end

-- the new tree and what follows the part
abbrev pub moved : Span → Span → Span → ℕ
moved tree part fresh = fresh.end - fresh.begin + tail tree part

-- the whole has at most 2,048 nodes, and there is room to move what follows the part
abbrev pub ordered_of : ℕ → Span → Span → Span → Result ℕ Unfit
ordered_of len tree part fresh =
    pick (leb (part.begin - tree.begin + moved tree part fresh) (most_nodes * 6))
    (pick (leb (fresh.end + tail tree part) len) (Ok (part.begin + moved tree part fresh)) (Err Outside))
    (Err TooLarge)

abbrev pub replaced_of : ℕ → Span → Span → Span → Result ℕ Unfit
replaced_of len tree part fresh = pick (in_order tree part fresh) (ordered_of len tree part fresh) (Err Outside)

pub record Room (s : List ℕ) (tree part fresh : Span) : Type 0 where
  pub ordered : Ordered tree part fresh
  pub room : fresh.end + tail tree part ≤ length s

-- the same, of a new tree that is no longer than the part
pub record Within (s : List ℕ) (tree part fresh : Span) : Type 0 where
  pub room : Room s tree part fresh
  pub short : fresh.end - fresh.begin ≤ part.end - part.begin

-- up to the answer, and behind the words that were moved; what is between them is scratch
pub record Spliced (old : List ℕ) (tree part fresh : Span) (new : List ℕ) : Type 0 where
  pub front : take (part.begin + moved tree part fresh) new ≡ take part.begin old ++ (slice fresh.begin fresh.end old ++ slice part.end tree.end old)
  pub back : drop (fresh.end + tail tree part) new ≡ drop (fresh.end + tail tree part) old

abbrev pub Splices : List ℕ → Span → Span → Span → Result ℕ Unfit → List ℕ → Type 0
Splices old tree part fresh (Ok e) new = Spliced old tree part fresh new
Splices old tree part fresh (Err u) new = new ≡ old

pub record Replaced (old : List ℕ) (tree part fresh : Span) (r : Result ℕ Unfit) (new : List ℕ) : Type 0 where
  pub says : r ≡ replaced_of (length old) tree part fresh
  pub wrote : Splices old tree part fresh r new

-- the same, of a new tree that first takes the name, where it has a node
abbrev pub renamed : List ℕ → ℕ → ℕ → List ℕ
renamed s at name = pick (leb (at + 6) (length s)) (set s at name) s

abbrev pub Assigns : List ℕ → Span → Span → Span → ℕ → Result ℕ Unfit → List ℕ → Type 0
Assigns old tree part fresh name (Ok e) new = Spliced (renamed old fresh.begin name) tree part fresh new
Assigns old tree part fresh name (Err u) new = new ≡ old

pub record Assigned (old : List ℕ) (tree part fresh : Span) (name : ℕ) (r : Result ℕ Unfit) (new : List ℕ) : Type 0 where
  pub says : r ≡ replaced_of (length old) tree part fresh
  pub wrote : Assigns old tree part fresh name r new
