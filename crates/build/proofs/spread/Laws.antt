-- A law for each return of spread.rt, and what its calls require. Assumes nothing.
use mathlib.Core.Path.{◌≡◌, refl, ap, sym, ◌∙◌}
use mathlib.Core.Bool.{Bool, true, false, ◌&&◌}
use mathlib.Core.List.{List}
use Prim.Native.Nat.{ℕ, zero, suc, ◌+◌, ◌-◌, ◌*◌, ◌/◌, ◌^◌, ◌≤◌, ◌<◌, min}
use native.Mathlib.Omega.{arith}
use native.Mathlib.Decide.{dec_le, ℕ_discrete}
use native.Mathlib.Nat.{mul_comm, mul_assoc, mul-suc, mul-zero, mul-le-mul_right}
use mir.Val.{Fits}
use mir.Syntax.{w32, w64}
use lib.Dec.{leb, eqb}
use lib.ListN.{length, take, drop}
use lib.Seq.{paste}
use borrow.Author.Rules.{rules}
use borrow.Author.Tests.{le-leb, lt-leb, leb-true, eqb-true, eq-eqb}
use Rattle.definition.specs.Base.{pick}
use Rattle.definition.specs.Tree.{Tree, Trees, node, tnil, tcons, head, parts, many, nodes, nodes_in, flatten, flatten_all, headed, array_tree, one, times, join, most_nodes, tree_words}
use Rattle.definition.specs.Ask.{ok, large, give}
use Rattle.definition.specs.Parts.{flat, repeated_defaults}
use Rattle.definition.specs.Resolve.{Memo}
use Rattle.definition.specs.Peek.{got, peek}
use Rattle.laws.specs.Whole.{Good, nodes-some, nodes-parts, nodes_in-one, many-one, many-times, flatten_all-one}
use Rattle.tree.specs.declared.part.Value.{Value}
use Rattle.tree.specs.declared.part.Value.TheVariants as value
use Rattle.tree.specs.Words.{Stand, WroteNode, WroteShift, movable}
use Rattle.tree.specs.Node.{head_words}
use Rattle.tree.specs.Part.{value_at, value_is}
use Rattle.tree_changes.specs.Grow.{Grew, Repeated}
use Rattle.tree.proofs.Fields.{parts-stand, stands-long, value_there, kind-array}
use Rattle.tree.proofs.Standing.{copied-there, repeated-there, headed-there}
use Rattle.build.specs.declared.built.Unbuilt.TheVariants as unbuilt
use Rattle.build.specs.Built.{Built, Gives}
use Rattle.build.specs.Unfit.{unbuilt_of}
use Rattle.build.specs.Parts.{array_words, Spreads, WholeAt}
use Rattle.build.specs.Spread.{FlatAt, Flattens}
use Rattle.build.proofs.Peeks.{kept-before}
use Rattle.build.proofs.leaves.Laws.{paste-kept}
use Rattle.std.specs.Prelude.{Err, Ok, Option, Some}
use Rattle.std.specs.Prelude as std
use Rattle.tree_changes.specs.declared.grow.Unfit.TheVariants as unfit
use Rattle.tree_changes.specs.declared.grow.Unfit.{Unfit}

-- ---- how many nodes a tree has that stands between two places
pub nodes-between : (s : List ℕ) (at : ℕ) (t : Tree) (end : ℕ) → Stand s at (flatten t) end → (end - at) / 6 ≡ nodes t
nodes-between s at t end x = let n = stands-long s at t end x in omega arith

module _ {s : List ℕ} {at end : ℕ} (x : WholeAt s at end) where
  pub whole-runs : at ≤ end
  whole-runs = omega (arith, stands-long s at x.tree end x.stands)

  pub whole-head : at + 6 ≤ length s
  whole-head = omega (arith, stands-long s at x.tree end x.stands, x.stands.fits, nodes-some x.tree)

  pub whole-fits : length s < 2 ^ 64 → Fits w64 (at + 6)
  whole-fits h = record { fits = omega (arith, whole-head) }

  pub whole-nodes : 1 ≤ (end - at) / 6
  whole-nodes = omega (arith, nodes-between s at x.tree end x.stands, nodes-some x.tree)

  pub whole_words_lem : length s < 2 ^ 64 → Fits w64 (((end - at) / 6 - 1) * 6)
  whole_words_lem h = record { fits = omega (arith, x.stands.fits) }

-- ---- `flatten_values`
-- what `let .. else` leaves of a value that is no array
abbrev NoArray : Value → Type 0
NoArray v = (count : ℕ) → v ≡ value.Array count → ⊥

flat-one : (t : Tree) → NoArray (value_is t) → flat t ≡ one t
unfolding flat value_is head
flat-one (node h ts) n = go (eqb h.kind 13) refl
  where
    go : (b : Bool) → eqb h.kind 13 ≡ b → pick b (parts (node h ts)) (one (node h ts)) ≡ one (node h ts)
    go true e =
        let k : h.kind ≡ 13 = eqb-true h.kind 13 e in
        let v : value_is (node h ts) ≡ value.Array (many ts) = rw k in
        absurd (n (many ts) v)
    go false e = refl

flat-parts : (t : Tree) → (head t).kind ≡ 13 → flat t ≡ parts t
unfolding flat
flat-parts t e = rw (eq-eqb (head t).kind 13 e)

module _ (at end : ℕ) (old : List ℕ) {v : Option Value} (e : v ≡ value_at old at) where
  pub values_none : v ≡ std.None → {count nodes : ℕ} → Flattens at end old count nodes old
  values_none i = record { gives = λ t g x. let q = value_there old at t end g x in cc; kept = refl }

  pub values_one : {x : Value} → v ≡ Some x → NoArray x → Flattens at end old 1 ((end - at) / 6) old
  values_one {x = w} i n = record { gives = go; kept = refl }
    where
      go : (t : Tree) → Good t → Stand old at (flatten t) end → FlatAt old at 1 ((end - at) / 6) t
      go t g x =
          let z : v ≡ Some (value_is t) = e ∙ value_there old at t end g x in
          let q : w ≡ value_is t = cc in
          let o : flat t ≡ one t = flat-one t (rw q at n) in
          let k = nodes-between old at t end x in
          let m : at + (end - at) / 6 * 6 ≡ end = omega (arith, stands-long old at t end x) in
          record { counts = rw o (many-one t); sizes = rw o (nodes_in-one t ∙ sym k); stands = rw (o, m, flatten_all-one t) x }

  pub values-parts : WholeAt old at end → {x : Value} → v ≡ Some x → {count : ℕ} → x ≡ value.Array count → {w : Option ℕ} {new : List ℕ} → WroteShift old (at + 6) (((end - at) / 6 - 1) * 6) at w new
      → Flattens at end old count ((end - at) / 6 - 1) new
  values-parts whole {x} a {count} b {w} {new} y = record { gives = go; kept = ap (take at) pasted ∙ paste-kept old at (drop (at + 6) old) n (omega (arith, whole-head whole)) }
    where
      i : v ≡ Some (value.Array count)
      i = cc

      n : ℕ
      n = ((end - at) / 6 - 1) * 6

      test : movable (length old) (at + 6) (((end - at) / 6 - 1) * 6) at ≡ true
      test =
          let b = whole.stands.fits in
          let k = whole-nodes whole in
          let r = whole-runs whole in
          rw (le-leb (at + 6 + ((end - at) / 6 - 1) * 6) (length old) (omega arith), le-leb (at + ((end - at) / 6 - 1) * 6) (length old) (omega arith), le-leb at (at + 6) (omega arith))

      pasted : new ≡ paste old at (drop (at + 6) old) (((end - at) / 6 - 1) * 6)
      pasted = rw test at y.is

      go : (t : Tree) → Good t → Stand old at (flatten t) end → FlatAt new at count ((end - at) / 6 - 1) t
      go t g x =
          let p : Some (value_is t) ≡ Some (value.Array count) = sym (value_there old at t end g x) ∙ sym e ∙ i in
          let q : value_is t ≡ value.Array count = cc in
          let z = kind-array t count g q in
          let o : flat t ≡ parts t = flat-parts t z.0 in
          let k = nodes-between old at t end x in
          let p = nodes-parts t in
          let l = stands-long old at t end x in
          let m : at + 6 + ((end - at) / 6 - 1) * 6 ≡ end = omega arith in
          let u : Stand old (at + 6) (flatten_all (parts t)) (at + 6 + ((end - at) / 6 - 1) * 6) = rw m (parts-stand old at t end x) in
          record {
            counts = rw o z.1;
            sizes = rw o (omega arith);
            stands = rw o (copied-there old (at + 6) (((end - at) / 6 - 1) * 6) (flatten_all (parts t)) u old at (omega (arith, x.fits)) pasted);
          }

-- ---- `spread_times`
mutual
  unfolding many nodes

  many-least : (ts : Trees) → many ts ≤ nodes_in ts
  many-least tnil = omega arith
  many-least (tcons t ts) = omega (arith, many-least ts, nodes-some t)

-- an answer that is an end: both tests held, and the words are there
grew-ends : (small test : Bool) {old : List ℕ} {at : ℕ} {src : List ℕ} {n : ℕ} {r : std.Result ℕ Unfit} {new : List ℕ} → Grew small test old at src n r new → {e : ℕ} → r ≡ Ok e
    → (small ≡ true) × (e ≡ at + n) × (new ≡ paste old at src n)
grew-ends true true q i = let z = q.says in (refl, cc, q.is)
grew-ends true false q i = let z = q.says in let y : ◌≡◌ {A = ℕ} 0 1 = cc in absurd (omega arith)
grew-ends false test q i = let z = q.says in let y : ◌≡◌ {A = ℕ} 0 1 = cc in absurd (omega arith)

grew-large : (small test : Bool) {old : List ℕ} {at : ℕ} {src : List ℕ} {n : ℕ} {r : std.Result ℕ Unfit} {new : List ℕ} → Grew small test old at src n r new → r ≡ (Err unfit.TooLarge)
    → (small ≡ false) × (new ≡ old)
grew-large true true q i = let z = q.says in let y : ◌≡◌ {A = ℕ} 0 1 = cc in absurd (omega arith)
grew-large true false q i = let z = q.says in let y : ◌≡◌ {A = ℕ} 0 1 = cc in absurd (omega arith)
grew-large false test q i = (refl, q.is)

grew-not : (small test : Bool) {old : List ℕ} {at : ℕ} {src : List ℕ} {n : ℕ} {r : std.Result ℕ Unfit} {new : List ℕ} → Grew small test old at src n r new → r ≡ (Err unfit.Outside)
    → (small ≡ true) × (test ≡ false) × (new ≡ old)
grew-not true true q i = let z = q.says in let y : ◌≡◌ {A = ℕ} 0 1 = cc in absurd (omega arith)
grew-not true false q i = (refl, refl, q.is)
grew-not false test q i = let z = q.says in let y : ◌≡◌ {A = ℕ} 0 1 = cc in absurd (omega arith)

-- what is repeated, as the definition says it
peek-repeated : (M : Memo) (k : ℕ) (ts : Trees) → leb (suc (k * nodes_in ts)) most_nodes ≡ true → peek M (repeated_defaults k ts) ≡ got (ok (times k ts))
unfolding repeated_defaults peek give
peek-repeated M k ts e = rw e

peek-too-large : (M : Memo) (k : ℕ) (ts : Trees) → leb (suc (k * nodes_in ts)) most_nodes ≡ false → peek M (repeated_defaults k ts) ≡ got large
unfolding repeated_defaults peek give
peek-too-large M k ts e = rw e

-- an array's words up to an end
array-gives : (at : ℕ) (ts : Trees) (e : ℕ) (fin : List ℕ) → Stand fin at (flatten (headed 13 ts)) e → Gives array_words (got (ok ts)) at (Ok e) fin
unfolding array_tree
array-gives at ts e fin x = record { says = ap Ok (sym x.long); stands = rw x.long x }

-- as many words as nodes, so many times
pub product-comm : (n k : ℕ) → n * 6 * k ≡ 6 * (k * n)
product-comm n k = let a : n * 6 * k ≡ n * (6 * k) = mul_assoc n 6 k in let b : n * (6 * k) ≡ 6 * k * n = mul_comm n (6 * k) in a ∙ b ∙ mul_assoc 6 k n

module _ {p end : ℕ} {old : List ℕ} (whole : WholeAt old p end) {count size : ℕ} {mid : List ℕ} (y : Flattens p end old count size mid)
    (k : ℕ) {g : std.Result ℕ Unfit} {new : List ℕ} (z : Repeated mid p size k g new) where
  few : {e : ℕ} → g ≡ Ok e → suc (k * size) ≤ most_nodes
  few i = leb-true (suc (k * size)) most_nodes (grew-ends (leb (suc (k * size)) most_nodes) _ z i).0

  counted : count ≤ size
  counted = let x = y.gives whole.tree whole.good whole.stands in omega (arith, x.counts, x.sizes, many-least (flat whole.tree))

  pub spread-count : {e : ℕ} → g ≡ Ok e → Fits w32 (count * k)
  spread-count i =
      let b : count * k ≤ size * k = mul-le-mul_right k counted in
      record { fits = omega (arith, few i, b, mul_comm size k) }

module _ (at : ℕ) {end : ℕ} {old : List ℕ} (whole : WholeAt old (at + 6) end) {count size : ℕ} {mid : List ℕ} (y : Flattens (at + 6) end old count size mid)
    {k : ℕ} {g : std.Result ℕ Unfit} {new : List ℕ} (z : Repeated mid (at + 6) size k g new) (h : at + tree_words ≤ length old) (l : length mid ≡ length old) where
  pub spread-ends : {e : ℕ} → g ≡ Ok e → length new ≡ length mid → {w : Option ℕ} {fin : List ℕ} → WroteNode new at (head_words 13 (count * k)) w fin
      → Spreads k at end old (Ok e) fin
  spread-ends {e} i m {w} {fin} u =
      let p : fin ≡ paste new at (head_words 13 (count * k)) 6 = rw (le-leb (at + 6) (length new) (omega arith)) at u.is in
      let q = grew-ends (leb (suc (k * size)) most_nodes) _ z i in
      record {
        gives = λ t good st M.
            let x = y.gives t good st in
            let s : leb (suc (k * nodes_in (flat t))) most_nodes ≡ true = rw x.sizes q.0 in
            let r : at + 6 + size * 6 * k ≤ length mid = omega (arith, product-comm size k, few whole y k z i) in
            let v = repeated-there mid (at + 6) (size * 6) k (flat t) x.stands r q.2 in
            let n : many (times k (flat t)) ≡ count * k = many-times k (flat t) ∙ ap (λ (j : ℕ). k * j) x.counts ∙ mul_comm k count in
            let o : fin ≡ paste new at (head_words 13 (many (times k (flat t)))) 6 = p ∙ ap (λ (j : ℕ). paste new at (head_words 13 j) 6) (sym n) in
            let c = headed-there new at 13 (times k (flat t)) (at + 6 + size * 6 * k) v o in
            rw (peek-repeated M k (flat t) s) (array-gives at (times k (flat t)) e fin (rw q.1 c));
        kept =
            ap (take at) p ∙ paste-kept new at (head_words 13 (count * k)) 6 (omega arith)
            ∙ kept-before at (at + 6) new mid (omega arith) (ap (take (at + 6)) q.2 ∙ paste-kept mid (at + 6) _ (size * 6 * k) (omega arith))
            ∙ kept-before at (at + 6) mid old (omega arith) y.kept;
      }

  pub spread-large : g ≡ Err unfit.TooLarge → Spreads k at end old (Err unbuilt.TooLarge) new
  spread-large i =
      let q = grew-large (leb (suc (k * size)) most_nodes) _ z i in
      record {
        gives = λ t good st M.
            let x = y.gives t good st in
            let s : leb (suc (k * nodes_in (flat t))) most_nodes ≡ false = rw x.sizes q.0 in
            rw (peek-too-large M k (flat t) s) (record { says = refl; stands = tt });
        kept = ap (take at) q.1 ∙ kept-before at (at + 6) mid old (omega arith) y.kept;
      }

  pub spread-fails : {u : Unfit} → g ≡ Err u → {r : Built} → r ≡ Err (unbuilt_of u) → Spreads k at end old r new
  spread-fails {u} i {r} q = rw q (go u i)
    where
      -- there is room
      inside : g ≡ Err unfit.Outside → ⊥
      inside i =
          let q = grew-not (leb (suc (k * size)) most_nodes) _ z i in
          let f = leb-true (suc (k * size)) most_nodes q.0 in
          let r : at + 6 + size * 6 * k ≤ length mid = omega (arith, product-comm size k) in
          let x = y.gives whole.tree whole.good whole.stands in
          let b : at + 6 + size * 6 ≤ length mid = x.stands.fits in
          let c : leb (at + 6 + size * 6) (length mid) && leb (at + 6 + size * 6 * k) (length mid) ≡ true = rw (le-leb (at + 6 + size * 6) (length mid) b, le-leb (at + 6 + size * 6 * k) (length mid) r) in
          let d = q.1 in
          let v : ◌≡◌ {A = Bool} true false = sym c ∙ d in
          let u : ◌≡◌ {A = ℕ} 0 1 = cc in omega arith

      go : (u : Unfit) → g ≡ Err u → Spreads k at end old (Err (unbuilt_of u)) new
      go unfit.TooLarge i = spread-large i
      go unfit.Outside i = absurd (inside i)

-- ---- `spread`
times-nothing : (k : ℕ) → times k tnil ≡ tnil
unfolding times join
times-nothing zero = refl
times-nothing (suc k) = times-nothing k

nothing-in : (ts : Trees) → nodes_in ts ≡ 0 → ts ≡ tnil
unfolding nodes
nothing-in tnil e = refl
nothing-in (tcons t ts) e = absurd (omega (arith, nodes-some t))

-- past 65,536 it does not matter how many there are
capped : (k : ℕ) (ts : Trees) → repeated_defaults (min k 65537) ts ≡ repeated_defaults k ts
unfolding repeated_defaults nodes
capped k ts = go (dec_le k 65537) (ℕ_discrete (nodes_in ts) 0)
  where
    go : Dec (k ≤ 65537) → Dec (nodes_in ts ≡ 0) → repeated_defaults (min k 65537) ts ≡ repeated_defaults k ts
    go (yes h) d = let e : min k 65537 ≡ k = omega arith in rw e
    go (no h) (yes e) = rw (nothing-in ts e, times-nothing, times-nothing, mul-zero, mul-zero)
    go (no h) (no e) =
        let m : min k 65537 ≡ 65537 = omega (arith, h) in
        let s : nodes_in ts ≡ suc (nodes_in ts - 1) = omega (arith, e) in
        let b : most_nodes < suc (k * nodes_in ts) = rw (s, mul-suc) (omega (arith, h)) in
        let c : most_nodes < suc (65537 * nodes_in ts) = omega (arith, e) in
        rw (m, lt-leb (suc (k * nodes_in ts)) most_nodes b, lt-leb (suc (65537 * nodes_in ts)) most_nodes c)

pub spread-all : {at end : ℕ} {old : List ℕ} {r : Built} {new : List ℕ} {times : ℕ} (k : ℕ) → times ≡ min k 65537 → Spreads times at end old r new → Spreads k at end old r new
spread-all {at} {end} {old} {r} {new} {times} k e x =
    record {
      gives = λ t good st M. rw (← capped k (flat t), ← e) (x.gives t good st M);
      kept = x.kept;
    }

pub ruleset laws = (rules, whole-runs, whole-head, whole-fits, whole-nodes, whole_words_lem, values_none, values_one, values-parts, spread-count, spread-ends, spread-fails, spread-all)
