-- A law for each return of copies.rt, and what its calls require. Assumes nothing.
use mathlib.Core.Path.{◌≡◌, refl, ap, sym, ◌∙◌}
use mathlib.Core.Bool.{Bool, true, false, ◌&&◌, ◌||◌}
use mathlib.Core.List.{List}
use Prim.Native.Nat.{ℕ, zero, suc, ◌+◌, ◌-◌, ◌*◌, ◌^◌, ◌≤◌, ◌<◌}
use native.Mathlib.Omega.{arith}
use native.Mathlib.Nat.{zero-add, zero-mul, suc-mul, mul_comm, mul_assoc}
use mir.Syntax.{w64}
use mir.Val.{Fits}
use borrow.Author.Rules.{rules}
use borrow.Author.Tests.{le-leb, leb-true, leb-false}
use lib.Dec.{leb}
use lib.ListN.{length, take, drop}
use lib.Seq.{paste}
use Rattle.definition.specs.Tree.{Tree, Trees, node, tnil, tcons, head, parts, many, nodes, nodes_in, flatten, flatten_all, headed, structure_tree, one, times, rest, most_nodes}
use Rattle.definition.specs.Ask.{Result, none, Ask, ◌>>=◌}
use Rattle.definition.specs.Parts.{on_first, added, copied}
use Rattle.definition.specs.Resolve.{Memo}
use Rattle.definition.specs.Peek.{got, peek}
use Rattle.laws.specs.Cases.{both}
use Rattle.laws.specs.Gathers.{gathered-rest}
use Rattle.laws.specs.Steps.{peek-done, peek-ok, peek-nothing}
use Rattle.laws.specs.Whole.{Good, Goods, flatten-length, flatten_all-length, nodes-some, many-one, nodes_in-one, flatten_all-one, goods-one, many-rest, many-times, nodes_in-times, nodes_in-rest, goods-times}
use Rattle.tree.specs.declared.part.Value.{Value}
use Rattle.tree.specs.declared.part.Value.TheVariants as value
use Rattle.tree.specs.Words.{Stand, WroteNode, WroteShift, movable, apart, rept}
use Rattle.tree.specs.Node.{head_words}
use Rattle.tree.specs.Extent.{after_of, whole_of}
use Rattle.tree.specs.Part.{value_at, value_is}
use Rattle.tree_changes.specs.Grow.{Grew, Repeated}
use Rattle.tree_changes.specs.Limit.{added_of, copied_of, on_fits}
use Rattle.tree_changes.proofs.Limits.{count_fits, size_fits, added-counts, added_is, copied_is, copied-small, outcome_of}
use Rattle.tree.proofs.Trees.{whole-there}
use Rattle.tree.proofs.Fields.{value_there, kind-structure, parts-stand, one-stands, Rest, rest-there}
use Rattle.tree.proofs.Standing.{wrote-so-is, copied-there, headed-there, repeated-there}
use Rattle.build.specs.declared.built.Unbuilt.{Unbuilt}
use Rattle.build.specs.declared.built.Unbuilt.TheVariants as unbuilt
use Rattle.build.specs.Built.{Built}
use Rattle.gather.specs.declared.answers.Listed.{Listed}
use Rattle.gather.specs.declared.answers.Filling.{Filling}
use Rattle.gather.specs.Answers.{Listing, listed, stopped, Lists}
use Rattle.build.specs.Unfit.{unlisted_of}
use Rattle.build.proofs.spread.Laws.{product-comm}
use Rattle.gather.specs.Room.{Defaults, Fillable, Current}
use Rattle.gather.specs.Copies.{TakesFirst, CopiesWords, PushesWords, CopiesFields, CopiesStructure, CopiesDefault, DefaultEnds, MovesOn, Remains, CopiesList, PushesCopies, NextDefault}
use Rattle.gather.proofs.Onward.{peek-stops, lists-as, lists-same}
use Rattle.build.proofs.leaves.Laws.{paste-kept, wrote_kept, node_kept}
use Rattle.std.specs.Prelude.{Err, None, Ok, Option, Some}
use Rattle.std.specs.Prelude as std
use Rattle.std.specs.Option.{unwrap_or}
use Rattle.tree_changes.specs.declared.grow.Unfit.{Unfit}
use Rattle.tree_changes.specs.declared.limit.Misfit.TheVariants as misfit
use Rattle.tree_changes.specs.declared.limit.Misfit.{Misfit}
use Rattle.tree_changes.specs.Limit.{Added}

-- ---- `copy_words`
or-true : (b : Bool) → b || true ≡ true
or-true true = refl
or-true false = refl

movable-so : (len from n to : ℕ) → from + n ≤ len → to + n ≤ len → from + n ≤ to → movable len from n to ≡ true
movable-so len from n to a b c = rw (le-leb (from + n) len a, le-leb (to + n) len b, le-leb (from + n) to c) (or-true (leb to from))

movable-target : (len from n to : ℕ) → movable len from n to ≡ true → to ≤ len
movable-target len from n to e =
    let z = both (leb (from + n) len && leb (to + n) len) (apart from n to) e in
    let y = leb-true (to + n) len (both (leb (from + n) len) (leb (to + n) len) z.0).1 in
    omega arith

pub words-apart : (from to : ℕ) (old : List ℕ) (at : ℕ) → to < from → CopiesWords from to old at None old
words-apart from to old at h = record { kept = refl; says = λ ws x b room. absurd (omega (arith, x.long)) }

pub words-shift : (from to : ℕ) (old : List ℕ) (at : ℕ) {r : Option ℕ} {new : List ℕ} → from ≤ to → WroteShift old from (to - from) at r new → CopiesWords from to old at r new
words-shift from to old at {r} {new} h w =
    record {
      kept = wrote_kept (movable (length old) from (to - from) at) (movable-target (length old) from (to - from) at) w;
      says = λ ws x b room.
          let n : to - from ≡ length ws = omega (arith, x.long) in
          let t : movable (length old) from (to - from) at ≡ true =
          movable-so (length old) from (to - from) at (omega (arith, x.long, x.fits)) (omega arith) (omega arith) in
          let i : new ≡ _ = rw t at w.is in
          let y : Stand old from ws (from + (to - from)) = let k : from + (to - from) ≡ to = omega arith in rw k x in
          (rw (← n) (rw t at w.says), rw (← n) (copied-there old from (to - from) ws y old at (omega arith) i));
    }

-- ---- `copy_fields`
structure-is : (ts : Trees) → structure_tree ts ≡ headed 14 ts
unfolding structure_tree
structure-is ts = refl

module _ {begin end : ℕ} (count : ℕ) {old : List ℕ} {at : ℕ} {x : Option ℕ} {mid : List ℕ} (w : CopiesWords begin end old at x mid) where
  fields-words : (t : Tree) → Current old begin end t at 12288 → (x ≡ Some (at + length (flatten t))) × Stand mid at (flatten t) (at + length (flatten t))
  fields-words t c = w.says (flatten t) c.stands c.before (omega (arith, c.few, c.room, flatten-length t))

  module _ {to : ℕ} (q : x ≡ Some to) {y : Option ℕ} {new : List ℕ} (u : WroteNode mid at (head_words 14 count) y new) where
    fields-kept : take at new ≡ take at old
    fields-kept = node_kept u ∙ w.kept

    pub fields-end : {e : ℕ} → y ≡ Some e → CopiesFields begin end count old at (Ok to) new
    fields-end i =
        record {
          kept = fields-kept;
          says = λ t c k n.
              let z = fields-words t c in
              let l = flatten-length t in
              let e : to ≡ at + length (flatten t) = cc in
              let g = parts-stand mid at t (at + length (flatten t)) z.1 in
              let p = (wrote-so-is (leb (at + 6) (length mid)) u i).2 in
              record {
                kind = k;
                ends = omega arith;
                stands = rw (e, structure-is (parts t)) (headed-there mid at 14 (parts t) (at + length (flatten t)) g (rw n p));
              };
        }

    pub fields-full : y ≡ None → {r : Built} → r ≡ Err unbuilt.None → CopiesFields begin end count old at r new
    fields-full i p = rw p
        record {
          kept = fields-kept;
          says = λ t c k n.
              let z = fields-words t c in
              let h : at + 6 ≤ length mid = omega (arith, z.1.fits, flatten-length t, nodes-some t) in
              let v = rw (le-leb (at + 6) (length mid) h) at u.says in
              let n : ◌≡◌ {A = ℕ} 0 1 = cc in absurd (omega arith);
        }

  pub fields-not : x ≡ None → {r : Built} → r ≡ Err unbuilt.None → CopiesFields begin end count old at r mid
  fields-not q p = rw p record { kept = w.kept; says = λ t c k n. let z = fields-words t c in let n : ◌≡◌ {A = ℕ} 0 1 = cc z.0 in absurd (omega arith) }

-- ---- `copy_structure`
pub value-structure : (t : Tree) → (head t).kind ≡ 14 → value_is t ≡ value.Structure (many (parts t))
unfolding value_is head parts
value-structure (node h ts) e = rw e

module _ (begin end : ℕ) {old : List ℕ} (at : ℕ) {v : Option Value} (q : v ≡ value_at old begin) where
  pub structure-taken : {x : Value} → v ≡ Some x → {count : ℕ} → x ≡ value.Structure count → {r : Built} {new : List ℕ} → CopiesFields begin end count old at r new → CopiesStructure begin end old at r new
  structure-taken {x} a {count} b w =
      record {
        kept = w.kept;
        says = λ t c.
            let i : v ≡ Some (value.Structure count) = cc in
            let y : Some (value_is t) ≡ Some (value.Structure count) = sym (value_there old begin t end c.good c.stands) ∙ sym q ∙ i in
            let z = kind-structure t count c.good (cc y) in
            w.says t c z.0 z.1;
      }

  pub structure-none : v ≡ None → {r : Built} → r ≡ Err unbuilt.None → CopiesStructure begin end old at r old
  structure-none i p = rw p record { kept = refl; says = λ t c k. let y = value_there old begin t end c.good c.stands in cc }

  pub structure-other : {x : Value} → v ≡ Some x → ((count : ℕ) → x ≡ value.Structure count → ⊥) → CopiesStructure begin end old at (Err unbuilt.None) old
  structure-other {x} i o =
      record {
        kept = refl;
        says = λ t c k.
            let y : Some x ≡ Some (value_is t) = sym i ∙ q ∙ value_there old begin t end c.good c.stands in
            let z : x ≡ value_is t = cc in
            o (many (parts t)) (z ∙ value-structure t k);
      }

-- ---- `copy_default`
-- the next default, where it stands
record NextIn (s : List ℕ) (from : ℕ) (t : Tree) (e : ℕ) : Type 0 where
  is : whole_of s from ≡ Some (from + 6 * nodes t)
  stands : Stand s from (flatten t) (from + 6 * nodes t)
  inside : from + 6 * nodes t ≤ e
  good : Good t

module _ {l : Filling} {old : List ℕ} {at need : ℕ} {ds : Trees} (y : Fillable old l at need ds) where
  next-in : (t : Tree) (us : Trees) → rest l.made ds ≡ tcons t us → NextIn old l.from t at
  unfolding nodes Good
  next-in t us q =
      let x : Stand old l.from (flatten_all (tcons t us)) y.defaults.end = rw q at y.defaults.stands in
      let k : Goods (tcons t us) = rw q at (gathered-rest l.made ds y.defaults.whole).whole in
      let o = one-stands old l.from t us y.defaults.end x in
      record {
        is = whole-there old l.from t (l.from + 6 * nodes t) k.0 o;
        stands = o;
        inside = omega (arith, x.long, flatten_all-length (tcons t us), y.defaults.before);
        good = k.0;
      }

  pub next-few : (t : Tree) (us : Trees) → rest l.made ds ≡ tcons t us → nodes t ≤ most_nodes
  unfolding nodes
  next-few t us q = omega (arith, nodes_in-rest l.made ds, ap nodes_in q, y.defaults.whole.room)

  next-current : {e : ℕ} → whole_of old l.from ≡ Some e → (t : Tree) (us : Trees) → rest l.made ds ≡ tcons t us → Current old l.from e t at need
  next-current {e} h t us q =
      let n = next-in t us q in
      let j : l.from + 6 * nodes t ≡ e = cc n.is in
      record { stands = rw j at n.stands; before = omega (arith, n.inside); good = n.good; few = next-few t us q; room = y.room }

  past-none : l.places ≤ l.made → (t : Tree) (us : Trees) → rest l.made ds ≡ tcons t us → ⊥
  unfolding many
  past-none h t us q = omega (arith, many-rest l.made ds, ap many q, y.defaults.count)

  some_left : l.made < l.places → rest l.made ds ≡ tnil → ⊥
  unfolding many
  some_left h q = omega (arith, many-rest l.made ds, ap many q, y.defaults.count)

module _ (l : Filling) {old : List ℕ} (at : ℕ) {x : Option ℕ} (q : x ≡ whole_of old l.from) (h : l.made < l.places) where
  pub default-copied : {e : ℕ} → x ≡ Some e → {r : Built} {new : List ℕ} → CopiesStructure l.from e old at r new → CopiesDefault l old at r new
  default-copied i {r} {new} w = record { kept = w.kept; says = λ ds y. go ds y (rest l.made ds) refl }
    where
      go : (ds : Trees) → Fillable old l at 12288 ds → (us : Trees) → rest l.made ds ≡ us → TakesFirst us at r new
      go ds y tnil e = absurd (some_left y h e)
      go ds y (tcons t us) e = w.says t (next-current y (sym q ∙ i) t us e)

  pub default-not : x ≡ None → {r : Built} → r ≡ Err unbuilt.None → CopiesDefault l old at r old
  default-not i p = rw p record { kept = refl; says = λ ds y. go ds y (rest l.made ds) refl }
    where
      go : (ds : Trees) → Fillable old l at 12288 ds → (us : Trees) → rest l.made ds ≡ us → TakesFirst us at (Err unbuilt.None) old
      go ds y tnil e = refl
      go ds y (tcons t us) e = let n = next-in y t us e in let z : ◌≡◌ {A = ℕ} 0 1 = cc n.is in absurd (omega arith)

pub default-past : (l : Filling) (old : List ℕ) (at : ℕ) → l.places ≤ l.made → CopiesDefault l old at (Err unbuilt.None) old
default-past l old at h = record { kept = refl; says = λ ds y. go ds y (rest l.made ds) refl }
  where
    go : (ds : Trees) → Fillable old l at 12288 ds → (us : Trees) → rest l.made ds ≡ us → TakesFirst us at (Err unbuilt.None) old
    go ds y tnil e = refl
    go ds y (tcons t us) e = absurd (past-none y h t us e)

-- by whether a place is left
module _ {l : Filling} {s : List ℕ} {x : Option ℕ} (d : DefaultEnds l s x) where
  by_left : (P : Type 0) → (x ≡ whole_of s l.from → l.made < l.places → P) → (l.places ≤ l.made → x ≡ None → P) → P
  by_left P a b = go (leb l.places l.made) refl
    where
      go : (t : Bool) → leb l.places l.made ≡ t → P
      go true e = let h = leb-true l.places l.made e in b h (d.past h)
      go false e = let h = leb-false l.places l.made e in a (d.left h) h

module _ {l : Filling} {old : List ℕ} {at : ℕ} {x : Option ℕ} (d : DefaultEnds l old x) where
  pub default-ends : {e : ℕ} → x ≡ Some e → {r : Built} {new : List ℕ} → CopiesStructure l.from e old at r new → CopiesDefault l old at r new
  default-ends i {r} {new} w = by_left d (CopiesDefault l old at r new) (λ q h. default-copied l at q h i w) (λ h n. let z : ◌≡◌ {A = ℕ} 0 1 = cc in absurd (omega arith))

  pub default-none : x ≡ None → {r : Built} → r ≡ Err unbuilt.None → CopiesDefault l old at r old
  default-none i {r} p = by_left d (CopiesDefault l old at r old) (λ q h. default-not l at q h i p) (λ h n. rw p (default-past l old at h))

-- ---- `push_words`
-- what does not fit is what the definition stops with
misfit-stops : (m : Misfit) (ts : Trees) → got (outcome_of (Err m) ts) ≡ stopped (unlisted_of m)
misfit-stops misfit.TooMany ts = refl
misfit-stops misfit.TooLarge ts = refl

module _ (begin end : ℕ) (l : Filling) (old : List ℕ) (at : ℕ) {n : ℕ} (counts : (k : ℕ) → end ≡ begin + 6 * k → n ≡ k) {a : Added} (q : a ≡ added_of l.places l.made l.size 1 n) where
  -- its nodes are counted
  words_count : (t : Tree) → Current old begin end t at 0 → n ≡ nodes t
  words_count t c = counts (nodes t) (omega (arith, c.stands.long, flatten-length t))

  -- what the test says of the definition
  words-peek : (M : Memo) (t : Tree) → Current old begin end t at 0 → peek M (added l.places l.made l.size (one t)) ≡ got (outcome_of a (one t))
  words-peek M t c =
      let k = words_count t c in
      let d : many (one t) ≡ 1 = many-one t in
      let e : nodes_in (one t) ≡ n = nodes_in-one t ∙ sym k in
      let f : added_of l.places l.made l.size (many (one t)) (nodes_in (one t)) ≡ a = rw (d, e) (sym q) in
      ap (peek M) (added_is l.places l.made l.size (one t)) ∙ peek-done M _ ∙ ap (λ x. got (outcome_of x (one t))) f

  pub words-not : {m : Misfit} → a ≡ Err m → {r : Listing} → r ≡ Err (unlisted_of m) → PushesWords begin end l old at r old
  words-not {m} i {r} p = record { kept = refl; says = λ M t c room. rw p (words-peek M t c ∙ ap (λ x. got (outcome_of x (one t))) i ∙ misfit-stops m (one t)) }

  module _ {u : Unit {0}} (i : a ≡ Ok u) {y : Option ℕ} {new : List ℕ} (w : CopiesWords begin end old at y new) where
    words-there : (t : Tree) → Current old begin end t at 0 → at + 12282 ≤ length old + 6 * l.size
        → (y ≡ Some (at + length (flatten t))) × Stand new at (flatten t) (at + length (flatten t))
    words-there t c room =
        let z = added-counts l.places l.made l.size 1 n (sym q ∙ i) in
        w.says (flatten t) c.stands c.before (omega (arith, z.0, words_count t c, flatten-length t))

    pub words-pushed : {to : ℕ} → y ≡ Some to → PushesWords begin end l old at (listed to (l.made + 1) (l.size + n)) new
    words-pushed {to} j =
        record {
          kept = w.kept;
          says = λ M t c room.
              let z = added-counts l.places l.made l.size 1 n (sym q ∙ i) in
              let v = words-there t c room in
              let o : to ≡ at + length (flatten t) = cc v.0 in
              let k = words_count t c in
              let f = flatten-length t in
              let a = many-one t in
              let b = nodes_in-one t in
              record {
                trees = one t;
                is = words-peek M t c ∙ ap (λ x. got (outcome_of x (one t))) i;
                ends = omega arith;
                counts = omega arith;
                sizes = omega arith;
                stands = rw (flatten_all-one t, o) v.1;
                small = record { whole = goods-one t c.good; room = omega (arith, z.0) };
                few = omega (arith, z.1);
              };
        }

    pub words-full : y ≡ None → {r : Listing} → r ≡ Err unbuilt.None → PushesWords begin end l old at r new
    words-full j p = rw p record { kept = w.kept; says = λ M t c room. let v = words-there t c room in let n : ◌≡◌ {A = ℕ} 0 1 = cc v.0 in absurd (omega arith) }

-- ---- `next_default`
abbrev next : Filling → Trees → Ask (Result Trees)
next l us = on_first us (λ t ts. added l.places l.made l.size (one t))

module _ (l : Filling) (old : List ℕ) (at : ℕ) {x : Option ℕ} (q : x ≡ whole_of old l.from) (h : l.made < l.places) where
  pub next-pushed : {e : ℕ} → x ≡ Some e → {r : Listing} {new : List ℕ} → PushesWords l.from e l old at r new → NextDefault l old at r new
  next-pushed {e} i {r} {new} w = record { kept = w.kept; says = λ M ds z room. go M ds z room (rest l.made ds) refl }
    where
      go : (M : Memo) (ds : Trees) → Fillable old l at 0 ds → at + 12282 ≤ length old + 6 * l.size → (us : Trees) → rest l.made ds ≡ us → Lists M (next l us) l at r new
      go M ds z room tnil p = absurd (some_left z h p)
      go M ds z room (tcons t us) p = w.says M t (next-current z (sym q ∙ i) t us p) room

  pub next-not : x ≡ None → {r : Listing} → r ≡ Err unbuilt.None → NextDefault l old at r old
  next-not i p = rw p record { kept = refl; says = λ M ds z room. go M ds z (rest l.made ds) refl }
    where
      go : (M : Memo) (ds : Trees) → Fillable old l at 0 ds → (us : Trees) → rest l.made ds ≡ us → Lists M (next l us) l at (Err unbuilt.None) old
      go M ds z tnil p = absurd (some_left z h p)
      go M ds z (tcons t us) p = let n = next-in z t us p in let n : ◌≡◌ {A = ℕ} 0 1 = cc n.is in absurd (omega arith)

pub next_past : (l : Filling) (old : List ℕ) (at : ℕ) → l.places ≤ l.made → NextDefault l old at (Err unbuilt.None) old
next_past l old at h = record { kept = refl; says = λ M ds y room. go M ds y (rest l.made ds) refl }
  where
    go : (M : Memo) (ds : Trees) → Fillable old l at 0 ds → (us : Trees) → rest l.made ds ≡ us
        → peek M (on_first us (λ t ts. added l.places l.made l.size (one t))) ≡ got none
    go M ds y tnil e = peek-nothing M
    go M ds y (tcons t us) e = absurd (past-none y h t us e)

module _ {l : Filling} {old : List ℕ} {at : ℕ} {x : Option ℕ} (d : DefaultEnds l old x) where
  pub next-ends : {e : ℕ} → x ≡ Some e → {r : Listing} {new : List ℕ} → PushesWords l.from e l old at r new → NextDefault l old at r new
  next-ends i {r} {new} w = by_left d (NextDefault l old at r new) (λ q h. next-pushed l old at q h i w) (λ h n. let z : ◌≡◌ {A = ℕ} 0 1 = cc in absurd (omega arith))

  pub next-none : x ≡ None → {r : Listing} → r ≡ Err unbuilt.None → NextDefault l old at r old
  next-none i {r} p = by_left d (NextDefault l old at r old) (λ q h. next-not l old at q h i p) (λ h n. rw p (next_past l old at h))

-- ---- `moved_on`
pub rest-zero : (ts : Trees) → rest 0 ts ≡ ts
unfolding rest
rest-zero ts = refl

rest-nil : (k : ℕ) → rest k tnil ≡ tnil
unfolding rest
rest-nil zero = refl
rest-nil (suc k) = refl

rest-rest : (i k : ℕ) (ts : Trees) → rest k (rest i ts) ≡ rest (i + k) ts
unfolding rest
rest-rest zero k ts = rw zero-add
rest-rest (suc i) k tnil = let e : suc i + k ≡ suc (i + k) = omega arith in rw e (rest-nil k)
rest-rest (suc i) k (tcons t ts) = let e : suc i + k ≡ suc (i + k) = omega arith in rw e (rest-rest i k ts)

module _ {s : List ℕ} (from made more : ℕ) {k : ℕ} (c : k ≡ more - made) {x : Option ℕ} (q : x ≡ after_of s from k) where
  moved-rest : (places : ℕ) (ds : Trees) (upto : ℕ) (d : Defaults s from made places ds upto) → made ≤ more → more ≤ places → Rest s from k (rest more ds) d.end
  moved-rest places ds upto d a b =
      let n : made + k ≡ more = omega arith in
      rw (rest-rest made k ds, n) at (rest-there s from (rest made ds) d.end k (gathered-rest made ds d.whole).whole d.stands (omega (arith, many-rest made ds, d.count)))

  pub moved-from : {b : ℕ} → x ≡ Some b → MovesOn s from made more b
  moved-from {b} i =
      record {
        says = λ places ds upto d h e.
            let r = moved-rest places ds upto d h e in
            let j : r.begin ≡ b = cc r.is in
            record { end = d.end; stands = rw j at r.stands; before = d.before; whole = d.whole; count = d.count };
      }

  pub moved-not : x ≡ None → (r : ℕ) → MovesOn s from made more r
  moved-not i r = record { says = λ places ds upto d h e. let n = moved-rest places ds upto d h e in let z : ◌≡◌ {A = ℕ} 0 1 = cc n.is in absurd (omega arith) }

  pub moved : {r : ℕ} → r ≡ unwrap_or x from → MovesOn s from made more r
  moved {r} p = go x refl p
    where
      go : (y : Option ℕ) → x ≡ y → r ≡ unwrap_or y from → MovesOn s from made more r
      go (Some b) i p = rw p (moved-from i)
      go None i p = moved-not i r

-- ---- `remaining`
pub remains-from : (l : Filling) {p : ℕ} → p ≡ l.places - l.made → Remains l (record { from = l.from; places = p; made = 0; size = 0 })
remains-from l {p} e =
    record {
      none_made = refl;
      no_size = refl;
      says = λ s ds upto d.
          record {
            end = d.end;
            stands = rw (rest-zero (rest l.made ds)) d.stands;
            before = d.before;
            whole = gathered-rest l.made ds d.whole;
            count = rw e (many-rest l.made ds ∙ ap (λ n. n - l.made) d.count);
          };
    }

-- ---- `copy_list`
copied-few : (k places made size values nodes : ℕ) {u : Unit {0}} → copied_of (suc k) places made size values nodes ≡ Ok u → made + suc k * values ≤ places
unfolding copied_of
copied-few zero places made size values nodes {u} e = go (added_of places made size values nodes) refl e
  where
    go : (a : Added) → added_of places made size values nodes ≡ a → on_fits a (copied_of zero places (made + values) (size + nodes) values nodes) ≡ Ok u
        → made + suc zero * values ≤ places
    go (Ok v) q r = let z = added-counts places made size values nodes q in rw (suc-mul, zero-mul) (omega (arith, z.1))
    go (Err misfit.TooMany) q r = let z : ◌≡◌ {A = ℕ} 0 1 = cc in absurd (omega arith)
    go (Err misfit.TooLarge) q r = let z : ◌≡◌ {A = ℕ} 0 1 = cc in absurd (omega arith)
copied-few (suc k) places made size values nodes {u} e = go (added_of places made size values nodes) refl e (copied-few k places (made + values) (size + nodes) values nodes)
  where
    left : Added
    left = copied_of (suc k) places (made + values) (size + nodes) values nodes

    go : (a : Added) → added_of places made size values nodes ≡ a → on_fits a left ≡ Ok u → (left ≡ Ok u → made + values + suc k * values ≤ places)
        → made + suc (suc k) * values ≤ places
    go (Ok v) q r ih = let z = ih r in rw suc-mul (omega (arith, z))
    go (Err misfit.TooMany) q r ih = let z : ◌≡◌ {A = ℕ} 0 1 = cc in absurd (omega arith)
    go (Err misfit.TooLarge) q r ih = let z : ◌≡◌ {A = ℕ} 0 1 = cc in absurd (omega arith)

copied-sized : (k places made size values nodes : ℕ) {u : Unit {0}} → copied_of (suc k) places made size values nodes ≡ Ok u → suc (size + suc k * nodes) ≤ most_nodes
unfolding copied_of
copied-sized k places made size values nodes {u} e = go (added_of places made size values nodes) refl e
  where
    go : (a : Added) → added_of places made size values nodes ≡ a → on_fits a (copied_of k places (made + values) (size + nodes) values nodes) ≡ Ok u
        → suc (size + suc k * nodes) ≤ most_nodes
    go (Ok v) q r =
        let z = added-counts places made size values nodes q in
        let y = copied-small k places (made + values) (size + nodes) values nodes z.0 r in
        rw suc-mul (omega (arith, y))
    go (Err misfit.TooMany) q r = let z : ◌≡◌ {A = ℕ} 0 1 = cc in absurd (omega arith)
    go (Err misfit.TooLarge) q r = let z : ◌≡◌ {A = ℕ} 0 1 = cc in absurd (omega arith)

-- what is counted fits
module _ (k places made size values nodes : ℕ) {a : Added} (q : a ≡ copied_of k places made size values nodes) {u : Unit {0}} (i : a ≡ Ok u) where
  pub made-most : made ≤ places → made + k * values ≤ places
  made-most = go k (sym q ∙ i)
    where
      go : (k : ℕ) → copied_of k places made size values nodes ≡ Ok u → made ≤ places → made + k * values ≤ places
      go zero e h = rw zero-mul (omega arith)
      go (suc k) e h = copied-few k places made size values nodes e

  pub made-mul : places < 2 ^ 64 → Fits w64 (k * values)
  made-mul = go k (sym q ∙ i)
    where
      go : (k : ℕ) → copied_of k places made size values nodes ≡ Ok u → places < 2 ^ 64 → Fits w64 (k * values)
      go zero e h = rw zero-mul (record { fits = omega arith })
      go (suc k) e h = let z = copied-few k places made size values nodes e in record { fits = omega arith }

  pub made-add : places < 2 ^ 64 → made < 2 ^ 64 → Fits w64 (made + k * values)
  made-add = go k (sym q ∙ i)
    where
      go : (k : ℕ) → copied_of k places made size values nodes ≡ Ok u → places < 2 ^ 64 → made < 2 ^ 64 → Fits w64 (made + k * values)
      go zero e h m = rw zero-mul (record { fits = omega arith })
      go (suc k) e h m = let z = copied-few k places made size values nodes e in record { fits = omega arith }

  pub size-mul : Fits w64 (k * nodes)
  size-mul = go k (sym q ∙ i)
    where
      go : (k : ℕ) → copied_of k places made size values nodes ≡ Ok u → Fits w64 (k * nodes)
      go zero e = rw zero-mul (record { fits = omega arith })
      go (suc k) e = let z = copied-sized k places made size values nodes e in record { fits = omega arith }

  pub size-add : size < 2 ^ 64 → Fits w64 (size + k * nodes)
  size-add = go k (sym q ∙ i)
    where
      go : (k : ℕ) → copied_of k places made size values nodes ≡ Ok u → size < 2 ^ 64 → Fits w64 (size + k * nodes)
      go zero e h = rw zero-mul (record { fits = omega arith })
      go (suc k) e h = let z = copied-sized k places made size values nodes e in record { fits = omega arith }

-- what was repeated
grew-kept : (small test : Bool) {old : List ℕ} {at : ℕ} {src : List ℕ} {n : ℕ} {r : std.Result ℕ Unfit} {new : List ℕ} → (test ≡ true → at ≤ length old) → Grew small test old at src n r new → take at new ≡ take at old
grew-kept true true {old} {at} {src} {n} h g = ap (take at) g.is ∙ paste-kept old at src n (h refl)
grew-kept true false {old} {at} h g = ap (take at) g.is
grew-kept false test {old} {at} h g = ap (take at) g.is

module _ (values nodes k : ℕ) (l : Filling) {a : Added} (q : a ≡ copied_of k l.places l.made l.size values nodes) where
  copied-peek : (M : Memo) (ts : Trees) → many ts ≡ values → nodes_in ts ≡ nodes → peek M (copied k ts l.places l.made l.size) ≡ got (outcome_of a (times k ts))
  copied-peek M ts m n =
      let f : copied_of k l.places l.made l.size (many ts) (nodes_in ts) ≡ a = rw (m, n) (sym q) in
      ap (peek M) (copied_is k l.places l.made l.size ts) ∙ peek-done M _ ∙ ap (λ c. got (outcome_of c (times k ts))) f

module _ (values nodes k : ℕ) (l : Filling) (at : ℕ) {a : Added} (q : a ≡ copied_of k l.places l.made l.size values nodes) where
  module _ {old : List ℕ} {u : Unit {0}} (i : a ≡ Ok u) {g : std.Result ℕ Unfit} {new : List ℕ} (w : Repeated old at nodes k g new) where
    list-kept : take at new ≡ take at old
    list-kept =
        grew-kept (leb (suc (k * nodes)) most_nodes) (leb (at + nodes * 6) (length old) && leb (at + nodes * 6 * k) (length old))
        (λ e. let z = leb-true (at + nodes * 6) (length old) (both (leb (at + nodes * 6) (length old)) (leb (at + nodes * 6 * k) (length old)) e).0 in omega arith) w

    module _ (ts : Trees) {e : ℕ} (x : Stand old at (flatten_all ts) e) (n : nodes_in ts ≡ nodes) (s : suc l.size ≤ most_nodes) (room : at + 12288 ≤ length old) where
      list-small : suc (l.size + k * nodes) ≤ most_nodes
      list-small = copied-small k l.places l.made l.size values nodes s (sym q ∙ i)

      list-end : e ≡ at + nodes * 6
      list-end = omega (arith, x.long, flatten_all-length ts)

      list-first : at + nodes * 6 ≤ length old
      list-first = omega (arith, x.fits, list-end)

      list-room : at + nodes * 6 * k ≤ length old
      list-room = omega (arith, list-small, product-comm nodes k)

      list-few : suc (k * nodes) ≤ most_nodes
      list-few = omega (arith, list-small)

      list-says : g ≡ Ok (at + nodes * 6 * k)
      list-says = rw (le-leb (suc (k * nodes)) most_nodes list-few, le-leb (at + nodes * 6) (length old) list-first, le-leb (at + nodes * 6 * k) (length old) list-room) at w.says

      list-new : new ≡ paste old at (rept k (take (nodes * 6) (drop at old))) (nodes * 6 * k)
      list-new = rw (le-leb (suc (k * nodes)) most_nodes list-few, le-leb (at + nodes * 6) (length old) list-first, le-leb (at + nodes * 6 * k) (length old) list-room) at w.is

    pub list-ends : {z : ℕ} → g ≡ Ok z → CopiesList values nodes k l old at (listed z (l.made + k * values) (l.size + k * nodes)) new
    list-ends {z} j =
        record {
          kept = list-kept;
          says = λ M ts e x good m n f s room.
              let y : z ≡ at + nodes * 6 * k = cc (list-says ts x n s room) in
              let c : nodes_in (times k ts) ≡ k * nodes = nodes_in-times k ts ∙ ap (λ d. k * d) n in
              let d : many (times k ts) ≡ k * values = many-times k ts ∙ ap (λ d. k * d) m in
              record {
                trees = times k ts;
                is = copied-peek values nodes k l q M ts m n ∙ ap (λ c. got (outcome_of c (times k ts))) i;
                ends = omega (arith, product-comm nodes k);
                counts = ap (λ d. l.made + d) (sym d);
                sizes = ap (λ d. l.size + d) (sym c);
                stands = rw y (repeated-there old at (nodes * 6) k ts (rw (list-end ts x n s room) at x) (list-room ts x n s room) (list-new ts x n s room));
                small = record { whole = goods-times k ts good; room = rw c (list-small ts x n s room) };
                few = made-most k l.places l.made l.size values nodes q i f;
              };
        }

    -- what was counted is repeated
    pub list-not : {u : Unfit} → g ≡ Err u → {r : Listing} → CopiesList values nodes k l old at r new
    list-not {u} j =
        record { kept = list-kept; says = λ M ts e x good m n f s room. let z : ◌≡◌ {A = ℕ} 0 1 = cc (list-says ts x n s room) in absurd (omega arith) }

  pub list-fails : (old : List ℕ) → {m : Misfit} → a ≡ Err m → {r : Listing} → r ≡ Err (unlisted_of m) → CopiesList values nodes k l old at r old
  list-fails old {m} i {r} p =
      record {
        kept = refl;
        says = λ M ts e x g c n f s room. rw p (copied-peek values nodes k l q M ts c n ∙ ap (λ c. got (outcome_of c (times k ts))) i ∙ misfit-stops m (times k ts));
      }

-- ---- `push_copies`
abbrev copying_of : ℕ → Filling → Trees → Ask (Result Trees)
copying_of k l ts = copied k ts l.places l.made l.size

module _ {b : Listing} (k : ℕ) (l : Filling) where
  pub copies-ends : {v : Listed} → b ≡ Ok v → {old : List ℕ} {at : ℕ} {r : Listing} {new : List ℕ} → CopiesList v.made v.size k l old at r new → PushesCopies b k l old at r new
  copies-ends {v} q {old} {at} {r} {new} w =
      record {
        kept = w.kept;
        says = λ M m i a z y f s room.
            let t = lists-as M m i at old q y in
            lists-same M (copying_of k l t.trees) (m >>= copying_of k l) l at r new (peek-ok M m (copying_of k l) t.trees t.is)
            (w.says M t.trees v.end t.stands t.small.whole (omega (arith, t.counts)) (omega (arith, t.sizes)) f s room);
      }

  pub copies-fails : {u : Unbuilt} → b ≡ Err u → {r : Listing} → r ≡ Err u → {old : List ℕ} {at : ℕ} → PushesCopies b k l old at r old
  copies-fails {u} q {r} p {old} {at} = record { kept = refl; says = λ M m i a z y f s room. rw p (peek-stops M m (copying_of k l) u (lists-as M m i at old q y)) }

pub ruleset laws = (
  rules,
  words-apart,
  words-shift,
  fields-end,
  fields-full,
  fields-not,
  structure-taken,
  structure-none,
  structure-other,
  default-copied,
  default-not,
  default-past,
  next-pushed,
  next-not,
  next_past,
  moved,
  remains-from,
)

pub ruleset pushes = (rules, count_fits, size_fits, words-not, words-pushed, words-full)

pub ruleset lists = (rules, made-mul, made-add, size-mul, size-add, list-ends, list-not, list-fails, copies-ends, copies-fails)
