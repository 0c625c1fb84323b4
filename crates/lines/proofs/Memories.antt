-- An index and a store that stand for a memo, after each function that writes them. Assumes nothing.
use mathlib.Core.Path.{◌≡◌, refl, ap, sym, subst, ◌∙◌}
use mathlib.Core.Bool.{Bool, true, false, ◌&&◌}
use mathlib.Core.Logic.{inl, inr}
use mathlib.Core.List.{List, [], ◌∷◌}
use Prim.Native.Nat.{ℕ, suc, ◌+◌, ◌*◌, ◌≤◌, ◌<◌, min}
use native.Mathlib.Omega.{arith}
use native.Mathlib.Decide.{ℕ_discrete}
use lib.ListN.{length, get_or, take, drop, set, length-set, length-drop, replicate, length-replicate, get_or-replicate}
use lib.Seq.{get_or-set_same, get_or-set_other, paste, length-paste}
use borrow.Author.Tests.{le-leb}
use lib.Dec.{leb}
use Rattle.std.specs.Prelude.{Option, Some, None}
use Rattle.definition.specs.Tree as trees
use Rattle.definition.specs.Ask.{ok, none, large, Outcome}
use Rattle.definition.specs.Resolve.{Look, known, unknown, Memo, at, put, empty}
use Rattle.definition.specs.Lines.{outcome_words}
use Rattle.definition.specs.Answers.{cleared}
use Rattle.laws.specs.Asks.{OnOk}
use Rattle.laws.specs.Cases.{both}
use Rattle.laws.specs.Values.{Small}
use Rattle.laws.specs.Memo.{put-long, put_same, put_other, empty-at, empty-long}
use Rattle.tree.specs.Words.{Stand}
use Rattle.tree.proofs.Stands.{take-drop, stand-back}
use Rattle.tree.proofs.Standing.{paste-stands, paste-before}
use Rattle.lines.specs.Append.{most_words, room, Appends, AppendsState, AppendsTree}
use Rattle.lines.specs.Memory.{LineAt, Holds, Remembers}
use Rattle.lines.proofs.Appending.{and_first, room-le, room-short}

-- ---- at the start
pub remembers-empty : (words store : List ℕ) (end n : ℕ) → n ≤ length words → end ≤ length store → Remembers (cleared words) store end (empty n)
unfolding cleared
remembers-empty words store end n h k =
    record {
      wide = rw (empty-long n, length-replicate {A = ℕ} (length words) 0) h;
      within = k;
      holds = λ t l. go t (rw (empty-long n) at l);
    }
  where
    go : (t : ℕ) → t < n → Holds (get_or (replicate (length words) 0) t 0) store end (at (empty n) t)
    go t l = rw (empty-at n t l) (get_or-replicate (length words) t 0 0 (omega arith))

-- words that are cleared, of which the length alone is left
pub cleared-same : {new : List ℕ} (mid old : List ℕ) → new ≡ cleared mid → length mid ≡ length old → new ≡ cleared old
unfolding cleared
cleared-same mid old e l = e ∙ ap (λ (n : ℕ). replicate n 0) l

-- ---- a word of the index stands for the same where the lines stand in another store, or within other words
holds_kept : {store : List ℕ} {end : ℕ} (store' : List ℕ) (end' : ℕ) → ((p : ℕ) (o : Outcome) → LineAt store end p o → LineAt store' end' p o)
    → (v : ℕ) (l : Look) → Holds v store end l → Holds v store' end' l
holds_kept store' end' f v unknown e = e
holds_kept store' end' f v (known o) (inl e) = inl e
holds_kept store' end' f v (known o) (inr y) = inr (record { place = y.place; is = y.is; line = f y.place o y.line; small = y.small })

-- ---- a word of the index that is written over
module _ {index store : List ℕ} {end : ℕ} {M : Memo} (x : Remembers index store end M) (t w : ℕ) (o : Outcome) (store' : List ℕ) (end' : ℕ) where
  -- the other lines stand there, and the word written stands for o
  pub remembers-put : end' ≤ length store' → ((p : ℕ) (q : Outcome) → LineAt store end p q → LineAt store' end' p q) → Holds w store' end' (known o)
      → Remembers (set index t w) store' end' (put M t o)
  remembers-put k f h =
      record {
        wide = rw (put-long M t o, length-set index t w) x.wide;
        within = k;
        holds = λ e l. go e (rw (put-long M t o) at l) (ℕ_discrete e t);
      }
    where
      go : (e : ℕ) → e < length M → Dec (e ≡ t) → Holds (get_or (set index t w) e 0) store' end' (at (put M t o) e)
      go e l (yes s) =
          let m : t < length M = omega (arith, s) in
          rw (s, get_or-set_same index t w 0 (omega (arith, x.wide)), put_same M t o m) h
      go e l (no s) = rw (get_or-set_other index t e w 0 s, put_other M t o e s) (holds_kept store' end' f (get_or index e 0) (at M e) (x.holds e l))

-- a type is in progress: it is remembered as none
pub remembers-begin : {index store : List ℕ} {end : ℕ} {M : Memo} → Remembers index store end M → (t : ℕ) → Remembers (set index t 1) store end (put M t none)
remembers-begin {index} {store} {end} x t = remembers-put x t 1 none store end x.within (λ q u y. y) (inl (refl, refl))

-- a line stands in the store already, as in a sheet
pub line_at : {store : List ℕ} {p stop : ℕ} (rank : ℕ) (o : Outcome) → Stand store p (rank ∷ outcome_words o) stop → (end : ℕ) → stop ≤ end → LineAt store end p o
line_at {stop} rank o x end h = record { stop = stop; stands = stand-back (rank ∷ []) (outcome_words o) x; inside = h }

pub remembers-there : {index store : List ℕ} {end : ℕ} {M : Memo} → Remembers index store end M → (t p : ℕ) (o : Outcome) → LineAt store end p o → OnOk Small o
    → Remembers (set index t (p + 2)) store end (put M t o)
remembers-there {index} {store} {end} x t p o y s =
    remembers-put x t (p + 2) o store end x.within (λ q u y. y) (inr (record { place = p; is = refl; line = y; small = s }))

-- ---- what a reader needs: the lines lie within more words too, and a known tree is small
module _ {index store : List ℕ} {end : ℕ} {M : Memo} (x : Remembers index store end M) where
  pub remembers-wider : (end' : ℕ) → end ≤ end' → end' ≤ length store → Remembers index store end' M
  remembers-wider end' h k = record { wide = x.wide; within = k; holds = λ t l. holds_kept store end' more (get_or index t 0) (at M t) (x.holds t l) }
    where
      more : (p : ℕ) (o : Outcome) → LineAt store end p o → LineAt store end' p o
      more p o y = record { stop = y.stop; stands = y.stands; inside = omega (arith, y.inside) }

  pub remembers-small : (t : ℕ) (o : Outcome) → t < length M → at M t ≡ known o → OnOk Small o
  remembers-small t o h e = go o (rw e at (x.holds t h))
    where
      go : (o : Outcome) → Holds (get_or index t 0) store end (known o) → OnOk Small o
      go o (inl q) = rw q.1 tt
      go o (inr y) = y.small

-- ---- a line that is appended
-- what stood before stands afterwards
pub line_kept : {store : List ℕ} {end p : ℕ} {o : Outcome} → LineAt store end p o → (src : List ℕ) (n : ℕ) → end + n ≤ length store → n ≤ length src
    → LineAt (paste store end src n) (end + n) p o
line_kept {store} {end} y src n h k =
    record { stop = y.stop; stands = paste-before store end src n h k refl y.stands y.inside; inside = omega (arith, y.inside) }

module _ {index store : List ℕ} {end : ℕ} {M : Memo} (x : Remembers index store end M) (src : List ℕ) (n : ℕ) (h : end + n ≤ length store) (k : n ≤ length src) where
  -- the first n words are a line of o: a rank, and its words
  pub remembers-line : (t rank : ℕ) (o : Outcome) → take n src ≡ rank ∷ outcome_words o → OnOk Small o
      → Remembers (set index t (end + 2)) (paste store end src n) (end + n) (put M t o)
  remembers-line t rank o e s =
      let y : Stand (paste store end src n) end (rank ∷ outcome_words o) (end + n) =
      subst (λ (ws : List ℕ). Stand (paste store end src n) end ws (end + n)) e (paste-stands store end src n h k refl) in
      remembers-put x t (end + 2) o (paste store end src n) (end + n)
      (rw (length-paste store end src n h k) h)
      (λ p q z. line_kept z src n h k)
      (inr (record { place = end; is = refl; line = line_at rank o y (end + n) (omega arith); small = s }))

-- ---- after each function
-- an answer that is an end: the line was written
module _ {src : List ℕ} {n : ℕ} {index store : List ℕ} {end t : ℕ} {r : Option ℕ} {index' store' : List ℕ} where
  appends-so : (test : Bool) → Appends test src n index store end t r index' store' → {e : ℕ} → r ≡ Some e
      → (test ≡ true) × (e ≡ end + n) × (index' ≡ set index t (end + 2)) × (store' ≡ paste store end src n)
  appends-so true q i = let z = q.says in (refl, cc, q.marks, q.writes)
  appends-so false q i = let z = q.says in cc

  -- and no end: nothing was
  pub appends-full : (test : Bool) → Appends test src n index store end t r index' store' → r ≡ None → (test ≡ false) × (index' ≡ index) × (store' ≡ store)
  appends-full true q i = let z = q.says in cc
  appends-full false q i = (refl, q.marks, q.writes)

module _ {index store : List ℕ} {end : ℕ} {M : Memo} (x : Remembers index store end M) {t : ℕ} {r : Option ℕ} {index' store' : List ℕ} {e : ℕ} where
  state-remembers : (state : ℕ) (o : Outcome) → outcome_words o ≡ state ∷ 0 ∷ [] → OnOk Small o → AppendsState state index store end t r index' store' → r ≡ Some e
      → Remembers index' store' e (put M t o)
  state-remembers state o w s q i =
      let z = appends-so (room (length store) end 0) q i in
      let h = room-le (length store) end 0 refl z.0 in
      rw (z.1, z.2, z.3) (remembers-line x (0 ∷ state ∷ 0 ∷ []) 3 (omega arith) (omega arith) t 0 o (ap (λ (l : List ℕ). 0 ∷ l) (sym w)) s)

  pub remembers-none : AppendsState 1 index store end t r index' store' → r ≡ Some e → Remembers index' store' e (put M t none)
  unfolding outcome_words
  remembers-none q i = state-remembers 1 none refl tt q i

  pub remembers-large : AppendsState 2 index store end t r index' store' → r ≡ Some e → Remembers index' store' e (put M t large)
  unfolding outcome_words
  remembers-large q i = state-remembers 2 large refl tt q i

  -- the nodes were those of a small tree
  pub remembers-tree : (from : List ℕ) (a n : ℕ) → AppendsTree from a n index store end t r index' store' → r ≡ Some e
      → (tree : trees.Tree) → trees.nodes tree ≡ n → Small tree → Stand from a (trees.flatten tree) (a + n * 6) → Remembers index' store' e (put M t (ok tree))
  unfolding outcome_words
  remembers-tree from a n q i tree c s y =
      let z = appends-so (room (length store) end n && leb (a + n * 6) (length from)) q i in
      let b = both (room (length store) end n) (leb (a + n * 6) (length from)) z.0 in
      let h = room-le (length store) end n refl b.0 in
      let k : n * 6 ≤ length (drop a from) = simp length-drop (omega (arith, y.fits)) in
      let m : 3 + n * 6 ≡ suc (suc (suc (n * 6))) = omega arith in
      let w : take (3 + n * 6) (0 ∷ 0 ∷ n ∷ drop a from) ≡ 0 ∷ 0 ∷ trees.nodes tree ∷ trees.flatten tree = rw (m, c, take-drop a (n * 6) from, y.is) in
      rw (z.1, z.2, z.3)
      (remembers-line x (0 ∷ 0 ∷ n ∷ drop a from) (3 + n * 6) (omega arith) (omega (arith, k)) t 0 (ok tree) w s)

-- ---- no end only where the store has no room
module _ {index store : List ℕ} {end t : ℕ} {r : Option ℕ} {index' store' : List ℕ} (i : r ≡ None) where
  pub full-state : (state : ℕ) → AppendsState state index store end t r index' store' → min (length store) most_words < end + 3
  full-state state q = omega (arith, room-short (length store) end 0 (appends-full (room (length store) end 0) q i).0)

  pub full-tree : (from : List ℕ) (a n : ℕ) → AppendsTree from a n index store end t r index' store' → a + n * 6 ≤ length from → min (length store) most_words < end + 3 + n * 6
  full-tree from a n q h =
      let b : leb (a + n * 6) (length from) ≡ true = le-leb (a + n * 6) (length from) h in
      let z = (appends-full (room (length store) end n && leb (a + n * 6) (length from)) q i).0 in
      room-short (length store) end n (and_first (room (length store) end n) (leb (a + n * 6) (length from)) z b)
