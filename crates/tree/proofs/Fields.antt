-- The parts of a tree that stands in words. Assumes nothing.
use mathlib.Core.Path.{◌≡◌, refl, ap, sym, ◌∙◌}
use mathlib.Core.Bool.{Bool, true, false}
use mathlib.Core.List.{List, ◌++◌}
use Prim.Native.Nat.{ℕ, zero, suc, ◌+◌, ◌-◌, ◌*◌, ◌≤◌, ◌<◌}
use native.Mathlib.Omega.{arith}
use native.Mathlib.Nat.{add-zero}
use lib.Dec.{eqb, ltb}
use lib.ListN.{length, get_or, drop}
use lib.Seq.{get_or-drop}
use borrow.Author.Tests.{le-leb, lt-ltb, le-ltb, eqb-true, ltb-true, ltb-false, eqb-false, ne_eqb}
use Rattle.std.specs.Prelude.{Option, Some, None}
use Rattle.definition.specs.Base.{pick, choose}
use Rattle.definition.specs.Tree.{Tree, Trees, node, tnil, tcons, head, parts, many, nodes, nodes_in, flatten, flatten_all, named, join, rest, replaced}
use Rattle.definition.specs.Ask.{Outcome, Ask, nothing}
use Rattle.definition.specs.Parts.{on_named}
use Rattle.definition.specs.Sheet.{parts_of}
use Rattle.laws.specs.Whole.{Good, Goods, flatten-length, flatten_all-join, many-rest}
use Rattle.tree.specs.declared.part.Value.TheVariants as value
use Rattle.tree.specs.declared.extent.Span.{Span}
use Rattle.tree.specs.Extent.{after_of}
use Rattle.tree.specs.Words.{Stand}
use Rattle.tree.specs.Node.{words_of, as_node, node_at}
use Rattle.tree.specs.Part.{on_structure, span, value_of, value_at, seek, find_of, nth_of, part_of, value_is, place}
use Rattle.tree.proofs.Stands.{stand-rest, stand-front, stand-back}
use Rattle.tree.proofs.Trees.{after-there, whole-there}

-- ---- a tree's node, and its parts behind it
pub head-stands : (s : List ℕ) (at : ℕ) (t : Tree) (e : ℕ) → Stand s at (flatten t) e → Stand s at (words_of (as_node (head t))) (at + 6)
unfolding flatten head
head-stands s at (node h ts) e x = stand-front (words_of (as_node h)) (flatten_all ts) x

pub parts-stand : (s : List ℕ) (at : ℕ) (t : Tree) (e : ℕ) → Stand s at (flatten t) e → Stand s (at + 6) (flatten_all (parts t)) e
unfolding flatten parts
parts-stand s at (node h ts) e x = stand-back (words_of (as_node h)) (flatten_all ts) x

pub one-stands : (s : List ℕ) (at : ℕ) (t : Tree) (ts : Trees) (e : ℕ) → Stand s at (flatten_all (tcons t ts)) e → Stand s at (flatten t) (at + 6 * nodes t)
unfolding flatten
one-stands s at t ts e x = rw (flatten-length t) at (stand-front (flatten t) (flatten_all ts) x)

pub others-stand : (s : List ℕ) (at : ℕ) (t : Tree) (ts : Trees) (e : ℕ) → Stand s at (flatten_all (tcons t ts)) e → Stand s (at + 6 * nodes t) (flatten_all ts) e
unfolding flatten
others-stand s at t ts e x = rw (flatten-length t) at (stand-back (flatten t) (flatten_all ts) x)

pub stands-long : (s : List ℕ) (at : ℕ) (t : Tree) (e : ℕ) → Stand s at (flatten t) e → at + 6 * nodes t ≡ e
stands-long s at t e x = rw (flatten-length t) at x.long

-- ---- reading
read-there : (s : List ℕ) (at : ℕ) (h : Tree) (e k : ℕ) → Stand s at (flatten h) e → get_or s (at + k) 0 ≡ get_or (flatten h ++ drop e s) k 0
read-there s at h e k x = sym (get_or-drop at s k 0) ∙ ap (λ (l : List ℕ). get_or l k 0) (stand-rest x)

pub node-there : (s : List ℕ) (at : ℕ) (t : Tree) (e : ℕ) → Stand s at (flatten t) e → node_at s at ≡ Some (as_node (head t))
unfolding flatten head
node-there s at (node h ts) e x =
    let l : at + 6 ≤ length s = omega (arith, x.fits, (head-stands s at (node h ts) e x).fits) in
    let n : get_or s at 0 ≡ h.name = rw add-zero at (read-there s at (node h ts) e 0 x) in
    rw (
      le-leb (at + 6) (length s) l,
      n,
      read-there s at (node h ts) e 1 x,
      read-there s at (node h ts) e 2 x,
      read-there s at (node h ts) e 3 x,
      read-there s at (node h ts) e 4 x,
      read-there s at (node h ts) e 5 x,
    )

-- a leaf, an array or a structure
three : {X : Type 0} (kind : ℕ) → kind ≤ 14 → (kind < 13 → X) → (kind ≡ 13 → X) → (kind ≡ 14 → X) → X
three {X} kind h leaf array structure = go (ltb kind 13) refl (eqb kind 13) refl
  where
    above : (k : ℕ) → k ≤ 14 → 13 ≤ k → (k ≡ 13 → ⊥) → k ≡ 14
    above k a b c = omega arith

    go : (b : Bool) → ltb kind 13 ≡ b → (c : Bool) → eqb kind 13 ≡ c → X
    go true b c d = leaf (ltb-true kind 13 b)
    go false b true d = array (eqb-true kind 13 d)
    go false b false d = structure (above kind h (ltb-false kind 13 b) (eqb-false kind 13 d))

many-low : (kind low n : ℕ) → 13 ≤ kind → n ≡ parts_of kind low → n ≡ low
unfolding parts_of
many-low kind low n h e = rw (le-ltb kind 13 h) at e

value-good : (t : Tree) → Good t → value_of (head t).kind (head t).low ≡ Some (value_is t)
unfolding value_of value_is Good head
value-good (node h ts) g =
    three h.kind g.0
    (λ l. rw (lt-ltb h.kind 13 l))
    (λ e. rw (e, many-low h.kind h.low (many ts) (omega arith) g.1))
    (λ e. rw (e, many-low h.kind h.low (many ts) (omega arith) g.1))

pub value_there : (s : List ℕ) (at : ℕ) (t : Tree) (e : ℕ) → Good t → Stand s at (flatten t) e → value_at s at ≡ Some (value_is t)
unfolding value_at
value_there s at t e g x = rw (node-there s at t e x) (value-good t g)

-- what the answer says of a whole tree's head
pub kind-structure : (t : Tree) (n : ℕ) → Good t → value_is t ≡ value.Structure n → ((head t).kind ≡ 14) × (many (parts t) ≡ n)
unfolding value_is Good head parts
kind-structure (node h ts) n g q =
    three h.kind g.0
    (λ l. let r = rw (lt-ltb h.kind 13 l) at q in cc)
    (λ e. let r = rw e at q in cc)
    (λ e. let r = rw e at q in (e, cc))

pub kind-array : (t : Tree) (n : ℕ) → Good t → value_is t ≡ value.Array n → ((head t).kind ≡ 13) × (many (parts t) ≡ n)
unfolding value_is Good head parts
kind-array (node h ts) n g q =
    three h.kind g.0
    (λ l. let r = rw (lt-ltb h.kind 13 l) at q in cc)
    (λ e. let r = rw e at q in (e, cc))
    (λ e. let r = rw e at q in cc)

pub kind-leaf : (t : Tree) → Good t → value_is t ≡ value.Leaf → (head t).kind < 13
unfolding value_is Good head
kind-leaf (node h ts) g q =
    three h.kind g.0 (λ l. l)
    (λ e. let r = rw e at q in cc)
    (λ e. let r = rw e at q in cc)

-- ---- finding
pub seek-there : (s : List ℕ) (name : ℕ) (ts : Trees) (at e : ℕ) → Goods ts → Stand s at (flatten_all ts) e → seek s name (many ts) at ≡ place name at ts
unfolding seek place many Good head flatten
seek-there s name tnil at e g x = refl
seek-there s name (tcons (node h us) ts) at e g x =
    let t : Tree = node h us in
    let y = one-stands s at (node h us) ts e x in
    let n : get_or s at 0 ≡ h.name = rw add-zero at (read-there s at (node h us) (at + 6 * nodes (node h us)) 0 y) in
    rw (whole-there s at (node h us) (at + 6 * nodes (node h us)) g.0 y, n, seek-there s name ts (at + 6 * nodes (node h us)) e g.1 (others-stand s at (node h us) ts e x))

-- the first field of a name, in a structure; nothing in any other value
unfoldable pub field_at : ℕ → ℕ → Tree → Option Span
field_at name at t = pick (eqb (head t).kind 14) (place name (at + 6) (parts t)) None

find-kinds : (s : List ℕ) (name at e : ℕ) (t : Tree) → Good t → Stand s (at + 6) (flatten_all (parts t)) e
    → on_structure (Some (value_is t)) (λ n. seek s name n (at + 6)) None ≡ field_at name at t
unfolding value_is field_at head parts Good
find-kinds s name at e (node h ts) g x =
    three h.kind g.0
    (λ l. rw (lt-ltb h.kind 13 l, ne_eqb h.kind 14 (λ q. omega arith)))
    (λ q. rw q)
    (λ q. rw q (seek-there s name ts (at + 6) e g.2 x))

pub find-there : (s : List ℕ) (at : ℕ) (t : Tree) (e name : ℕ) → Good t → Stand s at (flatten t) e → find_of s at name ≡ field_at name at t
unfolding find_of
find-there s at t e name g x = rw (value_there s at t e g x) (find-kinds s name at e t g (parts-stand s at t e x))

pub found-place : (s : List ℕ) (at : ℕ) (t : Tree) (e name : ℕ) (p : Span) → Good t → Stand s at (flatten t) e → find_of s at name ≡ Some p
    → ((head t).kind ≡ 14) × (place name (at + 6) (parts t) ≡ Some p)
unfolding field_at
found-place s at t e name p g x q = go (eqb (head t).kind 14) refl (sym (find-there s at t e name g x) ∙ q)
  where
    go : (k : Bool) → eqb (head t).kind 14 ≡ k → pick k (place name (at + 6) (parts t)) None ≡ Some p → ((head t).kind ≡ 14) × (place name (at + 6) (parts t) ≡ Some p)
    go true k r = (eqb-true (head t).kind 14 k, r)
    go false k r = cc

-- the definition asks for no field that is not there
pub place_none : (name at : ℕ) (ts : Trees) → place name at ts ≡ None → (go : Tree → Ask Outcome) → on_named name ts go ≡ nothing
unfolding place on_named
place_none name at tnil q go = refl
place_none name at (tcons t ts) q go = by (eqb (head t).name name) q (λ r. place_none name (at + 6 * nodes t) ts r go)
  where
    by : (c : Bool) → pick c (Some (span at (at + 6 * nodes t))) (place name (at + 6 * nodes t) ts) ≡ None → (place name (at + 6 * nodes t) ts ≡ None → on_named name ts go ≡ nothing)
        → choose c (λ v. go (named 0 t)) (λ v. on_named name ts go) ≡ nothing
    by true r ih = cc
    by false r ih = ih r

-- what was found is a part, and the one that the definition asks for
pub record Named (name at : ℕ) (ts : Trees) (x : Span) : Type 0 where
  pub front : Trees
  pub part : Tree
  pub back : Trees
  pub is : ts ≡ join front (tcons part back)
  pub begins : x.begin ≡ at + 6 * nodes_in front
  pub ends : x.end ≡ x.begin + 6 * nodes part
  pub is_named : (head part).name ≡ name
  pub gives : (u : Tree) → replaced name u ts ≡ join front (tcons u back)
  pub asked : (go : Tree → Ask Outcome) → on_named name ts go ≡ go (named 0 part)

pub place-named : (name at : ℕ) (ts : Trees) (x : Span) → place name at ts ≡ Some x → Named name at ts x
unfolding place replaced join nodes on_named
place-named name at tnil x q = cc
place-named name at (tcons t ts) x q = go (eqb (head t).name name) refl q (place-named name (at + 6 * nodes t) ts x)
  where
    go : (c : Bool) → eqb (head t).name name ≡ c → pick c (Some (span at (at + 6 * nodes t))) (place name (at + 6 * nodes t) ts) ≡ Some x
        → (place name (at + 6 * nodes t) ts ≡ Some x → Named name (at + 6 * nodes t) ts x) → Named name at (tcons t ts) x
    go true c f ih =
        let z : span at (at + 6 * nodes t) ≡ x = cc in
        let i : at ≡ x.begin = ap (λ (y : Span). y.begin) z in
        let j : at + 6 * nodes t ≡ x.end = ap (λ (y : Span). y.end) z in
        record { front = tnil; part = t; back = ts; is = refl; begins = omega arith; ends = omega arith; is_named = eqb-true (head t).name name c; gives = λ u. rw c; asked = λ g. rw c }
    go false c f ih =
        let n = ih f in
        record {
          front = tcons t n.front;
          part = n.part;
          back = n.back;
          is = ap (tcons t) n.is;
          begins = omega (arith, n.begins);
          ends = n.ends;
          is_named = n.is_named;
          gives = λ u. rw c (ap (tcons t) (n.gives u));
          asked = λ g. rw c (n.asked g);
        }

-- ---- by number
pub record Nth (s : List ℕ) (from i : ℕ) (t : Tree) : Type 0 where
  pub at : Span
  pub is : nth_of s from i ≡ Some at
  pub stands : Stand s at.begin (flatten t) at.end
  pub good : Good t

nth-by : (s : List ℕ) (from i : ℕ) (t : Tree) (b e : ℕ) → after_of s from i ≡ Some b → Good t → Stand s b (flatten t) e → Nth s from i t
unfolding nth_of
nth-by s from i t b e q g x = record { at = span b e; is = rw (q, whole-there s b t e g x); stands = x; good = g }

-- the first so many, and the rest
record Parted (i : ℕ) (ts : Trees) : Type 0 where
  front : Trees
  is : ts ≡ join front (rest i ts)
  front_many : many front ≡ i

parted : (i : ℕ) (ts : Trees) → i ≤ many ts → Parted i ts
unfolding rest join many
parted zero ts h = record { front = tnil; is = refl; front_many = refl }
parted (suc i) tnil h = absurd (omega arith)
parted (suc i) (tcons u ts) h =
    let r = parted i ts (omega arith) in
    record { front = tcons u r.front; is = ap (tcons u) r.is; front_many = ap suc r.front_many }

pub goods-parted : (f us : Trees) → Goods (join f us) → Goods f × Goods us
unfolding Good join
goods-parted tnil us g = (tt, g)
goods-parted (tcons t f) us g = let k = goods-parted f us g.1 in ((g.0, k.0), k.1)

-- the rest stands behind the first so many
pub record Rest (s : List ℕ) (from i : ℕ) (us : Trees) (e : ℕ) : Type 0 where
  pub begin : ℕ
  pub is : after_of s from i ≡ Some begin
  pub stands : Stand s begin (flatten_all us) e
  pub good : Goods us

pub rest-there : (s : List ℕ) (from : ℕ) (ts : Trees) (e i : ℕ) → Goods ts → Stand s from (flatten_all ts) e → i ≤ many ts → Rest s from i (rest i ts) e
rest-there s from ts e i g x h = let r = parted i ts h in go r.front (rest i ts) r.is r.front_many
  where
    go : (f us : Trees) → ts ≡ join f us → many f ≡ i → Rest s from i us e
    go f us j m =
        let k = goods-parted f us (rw j at g) in
        let y : Stand s from (flatten_all f ++ flatten_all us) e = rw (j, flatten_all-join) at x in
        record {
          begin = from + length (flatten_all f);
          is = rw m at (after-there s from f (from + length (flatten_all f)) k.0 (stand-front (flatten_all f) (flatten_all us) y));
          stands = stand-back (flatten_all f) (flatten_all us) y;
          good = k.1;
        }

pub nth-there : (s : List ℕ) (from : ℕ) (ts : Trees) (e i : ℕ) → Goods ts → Stand s from (flatten_all ts) e → (t : Tree) (us : Trees) → rest i ts ≡ tcons t us → Nth s from i t
unfolding Good many
nth-there s from ts e i g x t us q =
    let n : suc (many us) ≡ many ts - i = sym (ap many q) ∙ many-rest i ts in
    go (rest i ts) q (rest-there s from ts e i g x (omega arith))
  where
    go : (vs : Trees) → vs ≡ tcons t us → Rest s from i vs e → Nth s from i t
    go vs p r =
        let y : Stand s r.begin (flatten_all (tcons t us)) e = rw p at r.stands in
        let k : Goods (tcons t us) = rw p at r.good in
        nth-by s from i t r.begin (r.begin + 6 * nodes t) r.is k.0 (one-stands s r.begin t us e y)

pub part-there : (s : List ℕ) (at : ℕ) (t : Tree) (e i : ℕ) → Good t → Stand s at (flatten t) e → i < many (parts t) → part_of s at i ≡ nth_of s (at + 6) i
unfolding part_of Good parts head
part-there s at (node h ts) e i g x l = rw (node-there s at (node h ts) e x, ← g.1, lt-ltb i (many ts) l)

pub part-past-there : (s : List ℕ) (at : ℕ) (t : Tree) (e i : ℕ) → Good t → Stand s at (flatten t) e → many (parts t) ≤ i → part_of s at i ≡ None
unfolding part_of Good parts head
part-past-there s at (node h ts) e i g x l = rw (node-there s at (node h ts) e x, ← g.1, le-ltb i (many ts) l)
