-- What the functions that append a line write and answer at each return. Assumes nothing.
use mathlib.Core.Path.{◌≡◌, refl, ap, sym, ◌∙◌}
use mathlib.Core.Bool.{Bool, true, false, ◌&&◌}
use mathlib.Core.List.{List, [], ◌∷◌, ◌++◌, append_assoc}
use Prim.Native.Nat.{ℕ, suc, ◌+◌, ◌*◌, ◌≤◌, ◌<◌, min}
use native.Mathlib.Omega.{arith}
use lib.Dec.{leb}
use lib.ListN.{length, take, drop, set}
use lib.Seq.{set_out, paste, take-append-le, take-take, drop_at, length-take-le}
use mir.Syntax.{w32, w64}
use mir.Val.{Fits}
use borrow.Author.Tests.{leb-true, leb-false, le-leb, lt-leb}
use Rattle.std.specs.Prelude.{Option, Some, None}
use Rattle.laws.specs.Cases.{both}
use Rattle.tree.specs.Words.{WroteCopy}
use Rattle.tree.proofs.Writes.{writes}
use Rattle.tree.proofs.Standing.{wrote-so-is}
use Rattle.lines.specs.Append.{most_words, room, HeadRoom, Appends, AppendsState, AppendsTree}
use Rattle.lines.specs.declared.append.Lines.{Lines}
use Rattle.lines.specs.Lines.{Headed, ends}
use Rattle.lines.proofs.Copying.{wrote-not-is}

-- ---- room
pub head-out : (len end nodes : ℕ) {b : Bool} → b ≡ leb (end + 3) len → b ≡ false → false ≡ leb (end + 3 + nodes * 6) len
head-out len end nodes e f = let k = leb-false (end + 3) len (sym e ∙ f) in sym (lt-leb (end + 3 + nodes * 6) len (omega arith))

pub room-is : (len end nodes : ℕ) {u : ℕ} → u ≡ min len most_words → {b : Bool} → b ≡ leb (end + 3 + nodes * 6) u → b ≡ room len end nodes
unfolding room
room-is len end nodes e i = i ∙ ap (leb (end + 3 + nodes * 6)) e

-- what the test showed
module _ (len end nodes : ℕ) {b : Bool} (e : b ≡ room len end nodes) (t : b ≡ true) where
  pub room-le : end + 3 + nodes * 6 ≤ min len most_words
  unfolding room
  room-le = leb-true (end + 3 + nodes * 6) (min len most_words) (sym e ∙ t)

  pub room-head : HeadRoom len end
  room-head = let k = room-le in record { inside = omega arith; counted = omega arith }

  -- a store keeps its length
  pub room-kept : {len' : ℕ} → len' ≡ len → HeadRoom len' end
  room-kept q = rw q room-head

  pub room-counts : Fits w64 (end + 3)
  room-counts = let k = room-le in record { fits = omega arith }

  pub count_fits : Fits w32 nodes
  count_fits = let k = room-le in record { fits = omega arith }

-- what it showed where it failed
pub room-short : (len end nodes : ℕ) → room len end nodes ≡ false → min len most_words < end + 3 + nodes * 6
unfolding room
room-short len end nodes e = leb-false (end + 3 + nodes * 6) (min len most_words) e

-- ---- heads
pub set_past : (l : List ℕ) (i v : ℕ) → length l ≤ i → l ≡ set l i v
set_past l i v h = sym (set_out l i v h)

-- a head before words that were written
pub head-before : (d : List ℕ) (at x y z : ℕ) (s : List ℕ) (m : ℕ) → at + 3 ≤ length d
    → paste (paste d (at + 3) s m) at (x ∷ y ∷ z ∷ []) 3 ≡ paste d at (x ∷ y ∷ z ∷ s) (3 + m)
head-before d at x y z s m h =
    let n : 3 + m ≡ suc (suc (suc m)) = omega arith in
    let j : at + (3 + m) ≡ at + 3 + m = omega arith in
    let l : length (take (at + 3) d) ≡ at + 3 = length-take-le (at + 3) d h in
    let p : List ℕ = take m s ++ drop (at + 3 + m) d in
    let e : paste d (at + 3) s m ≡ take (at + 3) d ++ p = append_assoc (take (at + 3) d) (take m s) (drop (at + 3 + m) d) in
    let f : take at (take (at + 3) d ++ p) ≡ take at d = take-append-le at (take (at + 3) d) p (omega arith) ∙ take-take at (at + 3) d (omega arith) in
    let g : drop (at + 3) (take (at + 3) d ++ p) ≡ p = drop_at (take (at + 3) d) p (at + 3) l in
    rw (e, f, g, j, n)
    (append_assoc (take at d) (x ∷ y ∷ z ∷ []) p ∙ sym (append_assoc (take at d) (x ∷ y ∷ z ∷ take m s) (drop (at + 3 + m) d)))

-- ---- lines
pub and_first : (p q : Bool) → p && q ≡ false → q ≡ true → p ≡ false
and_first true q g h = sym h ∙ g
and_first false q g h = refl

module _ {test : Bool} (src : List ℕ) (n : ℕ) (index store : List ℕ) (end t : ℕ) {b : Bool} (e : b ≡ test) where
  pub line-full : b ≡ false → Appends test src n index store end t None index store
  line-full f = let k : test ≡ false = sym e ∙ f in record { says = rw k; marks = rw k; writes = rw k }

module _ (state : ℕ) (index store : List ℕ) (end t : ℕ) {b : Bool} (e : b ≡ room (length store) end 0) where
  pub state-full : b ≡ false → AppendsState state index store end t None index store
  state-full f = line-full (0 ∷ state ∷ 0 ∷ []) 3 index store end t e f

module _ (state t : ℕ) {old : Lines} {b : Bool} (e : b ≡ room (length old.store.now) old.end 0) where
  pub state-there : b ≡ true → {new : Lines} → Headed state 0 t old new → {x : ℕ} → x ≡ old.end + 3
      → AppendsState state old.index.now old.store.now old.end t (Some x) new.index.now new.store.now
  state-there f h q = let k : room (length old.store.now) old.end 0 ≡ true = sym e ∙ f in record { says = rw k (ap Some q); marks = rw k h.marks; writes = rw k h.writes }

module _ (from : List ℕ) (a nodes : ℕ) (index store : List ℕ) (end t : ℕ) {b : Bool} (e : b ≡ room (length store) end nodes) where
  pub tree-full : b ≡ false → AppendsTree from a nodes index store end t None index store
  tree-full f = let k : room (length store) end nodes ≡ false = sym e ∙ f in rw k (record { says = refl; marks = refl; writes = refl })

  module _ (f : b ≡ true) {x : Option ℕ} {mid : List ℕ} (w : WroteCopy from a (nodes * 6) store (end + 3) x mid) where
    roomy : room (length store) end nodes ≡ true
    roomy = sym e ∙ f

    inside : end + (3 + nodes * 6) ≤ length store
    inside = let k = room-le (length store) end nodes e f in omega arith

    copy_test : Bool
    copy_test = leb (a + nodes * 6) (length from) && leb (end + 3 + nodes * 6) (length store)

    pub tree-not : x ≡ None → AppendsTree from a nodes index store end t None index mid
    unfolding copy_test
    tree-not i =
        let z = wrote-not-is copy_test w i in
        let l : leb (end + 3 + nodes * 6) (length store) ≡ true = le-leb (end + 3 + nodes * 6) (length store) (omega (arith, inside)) in
        let k : leb (a + nodes * 6) (length from) ≡ false = and_first (leb (a + nodes * 6) (length from)) (leb (end + 3 + nodes * 6) (length store)) z.0 l in
        rw (roomy, k) (record { says = refl; marks = refl; writes = z.1 })

    pub tree-there : {end' : ℕ} → x ≡ Some end' → {old new : Lines} → Headed 0 nodes t old new → old.index.now ≡ index → old.store.now ≡ mid → old.end ≡ end
        → AppendsTree from a nodes index store end t (Some end') new.index.now new.store.now
    unfolding copy_test
    tree-there {end'} i h q u v =
        let z = wrote-so-is copy_test w i in
        let k = (both (leb (a + nodes * 6) (length from)) (leb (end + 3 + nodes * 6) (length store)) z.0).0 in
        let m : end' ≡ end + (3 + nodes * 6) = omega (arith, z.1) in
        rw (roomy, k) (record {
          says = ap Some m;
          marks = rw (q, v) at h.marks;
          writes = rw (u, v) at h.writes ∙ ap (λ (l : List ℕ). paste l end (0 ∷ 0 ∷ nodes ∷ []) 3) z.2 ∙ head-before store end 0 0 nodes (drop a from) (nodes * 6) (omega (arith, inside));
        })

pub ruleset appends = (writes, head-out, room-is, room-head, room-kept, room-counts, count_fits, set_past, state-full, state-there, tree-full, tree-not, tree-there)
