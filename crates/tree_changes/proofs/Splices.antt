-- A part that gives way: where the answer is, and the moves for a longer tree. Assumes nothing.
use mathlib.Core.Path.{◌≡◌, refl, ap, sym, ◌∙◌}
use mathlib.Core.Bool.{Bool, true, false}
use mathlib.Core.List.{List, ◌++◌}
use Prim.Native.Nat.{ℕ, ◌+◌, ◌-◌, ◌*◌, ◌≤◌, ◌<◌}
use native.Mathlib.Omega.{arith}
use lib.Dec.{leb}
use lib.ListN.{length, take, drop, set, length-drop}
use lib.Seq.{paste, length-paste, take-paste, drop-paste, take-take, take-append-le, drop-append-le, length-take-le, slice}
use borrow.Author.Rules.{rules}
use borrow.Author.Tests.{leb-true, le-leb, lt-leb}
use Rattle.std.specs.Prelude.{Result, Ok, Err}
use Rattle.definition.specs.Base.{pick}
use Rattle.definition.specs.Tree.{most_nodes}
use Rattle.laws.specs.Cases.{both}
use Rattle.tree.specs.declared.extent.Span.{Span}
use Rattle.tree_changes.specs.declared.grow.Unfit.{Unfit}
use Rattle.tree_changes.specs.declared.grow.Unfit.TheVariants.{TooLarge, Outside}
use Rattle.tree.specs.Node.{Renamed}
use Rattle.tree_changes.specs.Grow.{in_order, Ordered, tail, moved, ordered_of, replaced_of, Room, Spliced, Replaced, renamed, Assigned}
use Rattle.tree.proofs.Stands.{take-drop, drop_past}

module _ (tree part fresh : Span) {b : Bool} (e : b ≡ in_order tree part fresh) where
  pub ordered : b ≡ true → Ordered tree part fresh
  ordered t =
      let p = both (leb tree.begin part.begin) _ (sym e ∙ t) in
      let q = both (leb part.begin part.end) _ p.1 in
      let r = both (leb part.end tree.end) _ q.1 in
      let s = both (leb tree.end fresh.begin) (leb fresh.begin fresh.end) r.1 in
      record {
        after = leb-true tree.begin part.begin p.0;
        part_runs = leb-true part.begin part.end q.0;
        inside = leb-true part.end tree.end r.0;
        behind = leb-true tree.end fresh.begin s.0;
        fresh_runs = leb-true fresh.begin fresh.end s.1;
      }

  module _ (len : ℕ) where
    pub replaced-so : b ≡ true → {r : Result ℕ Unfit} → r ≡ ordered_of len tree part fresh → r ≡ replaced_of len tree part fresh
    replaced-so t i = let k : in_order tree part fresh ≡ true = sym e ∙ t in rw (k, i)

    pub replaced-not : b ≡ false → Err Outside ≡ replaced_of len tree part fresh
    replaced-not t = let k : in_order tree part fresh ≡ false = sym e ∙ t in rw k

-- ---- where the answer is
module _ (len : ℕ) (tree part fresh : Span) where
  pub ordered-large : 12288 < part.begin - tree.begin + moved tree part fresh → Err TooLarge ≡ ordered_of len tree part fresh
  ordered-large h = rw (lt-leb (part.begin - tree.begin + moved tree part fresh) (most_nodes * 6) h)

  module _ (h : part.begin - tree.begin + moved tree part fresh ≤ 12288) {b : Bool} (e : b ≡ leb (fresh.end + tail tree part) len) where
    pub ordered-ends : b ≡ true → Ok (part.begin + moved tree part fresh) ≡ ordered_of len tree part fresh
    ordered-ends t = let k : leb (fresh.end + tail tree part) len ≡ true = sym e ∙ t in rw (le-leb (part.begin - tree.begin + moved tree part fresh) (most_nodes * 6) h, k)

    pub ordered-not : b ≡ false → Err Outside ≡ ordered_of len tree part fresh
    ordered-not t = let k : leb (fresh.end + tail tree part) len ≡ false = sym e ∙ t in rw (le-leb (part.begin - tree.begin + moved tree part fresh) (most_nodes * 6) h, k)

module _ (s : List ℕ) (tree part fresh : Span) where
  by_tests : (a b c : Bool) (x e : ℕ) → in_order tree part fresh ≡ a → leb (fresh.end + tail tree part) (length s) ≡ c
      → pick a (pick b (pick c (Ok x) (Err Outside)) (Err TooLarge)) (Err Outside) ≡ Ok e → Room s tree part fresh
  by_tests true true true x e i k q = record { ordered = ordered tree part fresh (sym i) refl; room = leb-true (fresh.end + tail tree part) (length s) k }
  by_tests true true false x e i k q = cc
  by_tests true false c x e i k q = cc
  by_tests false b c x e i k q = cc

  pub ends-room : {r : Result ℕ Unfit} → r ≡ replaced_of (length s) tree part fresh → {e : ℕ} → r ≡ Ok e → Room s tree part fresh
  ends-room i {e} q =
      by_tests
      (in_order tree part fresh)
      (leb (part.begin - tree.begin + moved tree part fresh) (most_nodes * 6))
      (leb (fresh.end + tail tree part) (length s))
      (part.begin + moved tree part fresh)
      e
      refl
      refl
      (sym i ∙ q)

-- ---- a longer tree
module _ {old : List ℕ} {tree part fresh : Span} (r : Room old tree part fresh) where
  abbrev mid : List ℕ
  mid = paste old fresh.end (drop part.end old) (tail tree part)

  order : Ordered tree part fresh
  order = r.ordered

  tail-long : tail tree part ≤ length (drop part.end old)
  tail-long = let o = order in simp length-drop (omega (arith, r.room))

  mid-length : length mid ≡ length old
  mid-length = length-paste old fresh.end (drop part.end old) (tail tree part) r.room tail-long

  mid-front : take (fresh.end + tail tree part) mid ≡ take fresh.end old ++ slice part.end tree.end old
  mid-front =
      let o = order in
      let e : part.end + tail tree part ≡ tree.end = omega arith in
      take-paste old fresh.end (drop part.end old) (tail tree part) (omega (arith, r.room)) tail-long
      ∙ ap (λ (x : List ℕ). take fresh.end old ++ x) (take-drop part.end (tail tree part) old ∙ ap (λ (k : ℕ). slice part.end k old) e)

  long : length (take fresh.end old) ≡ fresh.end
  long = length-take-le fresh.end old (omega (arith, r.room))

  mid-before : take part.begin mid ≡ take part.begin old
  mid-before =
      let o = order in
      sym (take-take part.begin (fresh.end + tail tree part) mid (omega arith))
      ∙ ap (take part.begin) mid-front
      ∙ take-append-le part.begin (take fresh.end old) (slice part.end tree.end old) (omega (arith, long))
      ∙ take-take part.begin fresh.end old (omega arith)

  mid-after : take (moved tree part fresh) (drop fresh.begin mid) ≡ slice fresh.begin fresh.end old ++ slice part.end tree.end old
  mid-after =
      let o = order in
      let e : fresh.begin + moved tree part fresh ≡ fresh.end + tail tree part = omega arith in
      take-drop fresh.begin (moved tree part fresh) mid ∙ ap (λ (k : ℕ). slice fresh.begin k mid) e ∙ ap (drop fresh.begin) mid-front
      ∙ drop-append-le fresh.begin (take fresh.end old) (slice part.end tree.end old) (omega (arith, long))

  -- the two moves are possible
  pub tail-room : fresh.end + (tree.end - part.end) ≤ length old
  tail-room = r.room

  pub all-room : part.begin + (fresh.end + tail tree part - fresh.begin) ≤ length old
  all-room = let o = order in omega (arith, r.room)

  module _ {s t : List ℕ} (p : s ≡ mid) (d : t ≡ paste s part.begin (drop fresh.begin s) (fresh.end + tail tree part - fresh.begin)) where
    q : t ≡ paste s part.begin (drop fresh.begin s) (moved tree part fresh)
    q = let o = order in let n : fresh.end + tail tree part - fresh.begin ≡ moved tree part fresh = omega arith in rw n at d

    target : part.begin + moved tree part fresh ≤ fresh.end + tail tree part
    target = let o = order in omega arith

    front-is : take (part.begin + moved tree part fresh) t ≡ take part.begin old ++ (slice fresh.begin fresh.end old ++ slice part.end tree.end old)
    front-is =
        let o = order in
        rw (q, p) (take-paste mid part.begin (drop fresh.begin mid) (moved tree part fresh) (omega (arith, mid-length, r.room)) (simp length-drop (omega (arith, mid-length, r.room)))
        ∙ rw (mid-before, mid-after))

    back_is : drop (fresh.end + tail tree part) t ≡ drop (fresh.end + tail tree part) old
    back_is =
        let o = order in
        drop_past (part.begin + moved tree part fresh) (fresh.end + tail tree part) t mid target
        (rw (q, p) (drop-paste mid part.begin (drop fresh.begin mid) (moved tree part fresh) (omega (arith, mid-length, r.room)) (simp length-drop (omega (arith, mid-length, r.room)))))
        ∙ drop-paste old fresh.end (drop part.end old) (tail tree part) (omega (arith, r.room)) tail-long

    pub spliced : Spliced old tree part fresh t
    spliced = record { front = front-is; back = back_is }

-- ---- the answer with the words
module _ (old : List ℕ) (tree part fresh : Span) {r : Result ℕ Unfit} (i : r ≡ replaced_of (length old) tree part fresh) where
  pub replaced-ends : {e : ℕ} → r ≡ Ok e → {new : List ℕ} → Spliced old tree part fresh new → Replaced old tree part fresh (Ok e) new
  replaced-ends q s = record { says = sym q ∙ i; wrote = s }

  pub replaced-none : {u : Unfit} → r ≡ Err u → Replaced old tree part fresh (Err u) old
  replaced-none q = record { says = sym q ∙ i; wrote = refl }

-- ---- the same with a name
module _ (old : List ℕ) (tree part fresh : Span) (name : ℕ) {r : Result ℕ Unfit} (i : r ≡ replaced_of (length old) tree part fresh) where
  pub assigned-ends : {e : ℕ} → r ≡ Ok e → {b : Bool} {mid new : List ℕ} → Renamed old fresh.begin name b mid → Spliced mid tree part fresh new → Assigned old tree part fresh name (Ok e) new
  assigned-ends q {b} {mid} {new} n s =
      let m : mid ≡ renamed old fresh.begin name = n.is ∙ ap (λ (c : Bool). pick c (set old fresh.begin name) old) n.says in
      record { says = sym q ∙ i; wrote = rw m at s }

  pub assigned-none : {u : Unfit} → r ≡ Err u → Assigned old tree part fresh name (Err u) old
  assigned-none q = record { says = sym q ∙ i; wrote = refl }

pub room-same : (old s : List ℕ) {tree part fresh : Span} → Room old tree part fresh → length s ≡ length old → Room s tree part fresh
room-same old s r n = record { ordered = r.ordered; room = omega (arith, r.room) }

pub ends-room-same : (old s : List ℕ) (tree part fresh : Span) {r : Result ℕ Unfit} → r ≡ replaced_of (length old) tree part fresh → {e : ℕ} → r ≡ Ok e → length s ≡ length old → Room s tree part fresh
ends-room-same old s tree part fresh i q n = room-same old s (ends-room old tree part fresh i q) n

pub ruleset orders = (rules, lt-leb, le-leb)

pub ruleset splices =
    (rules, ordered, replaced-so, replaced-not, ordered-large, ordered-ends, ordered-not, ends-room, tail-room, all-room, spliced, replaced-ends, replaced-none)

pub ruleset assigns = (rules, ends-room-same, assigned-ends, assigned-none)
