-- An array's values over its defaults, and its head: a law for each return of the functions in copies.rt. Assumes nothing.
use mathlib.Core.Path.{◌≡◌, refl, ap, sym, ◌∙◌}
use mathlib.Core.Bool.{Bool, true, false}
use mathlib.Core.List.{List, [], ◌++◌}
use Prim.Native.Nat.{ℕ, suc, ◌+◌, ◌-◌, ◌*◌, ◌/◌, ◌^◌, ◌≤◌, ◌<◌, min}
use native.Mathlib.Omega.{arith}
use mir.Syntax.{w64}
use mir.Val.{Fits}
use borrow.Author.Rules.{rules}
use borrow.Author.Tests.{le-leb, lt-leb, leb-true, leb-false}
use lib.Dec.{leb}
use lib.ListN.{length, drop}
use Rattle.definition.specs.Base.{pick}
use Rattle.definition.specs.Tree.{Trees, tnil, tcons, many, nodes, nodes_in, flatten_all, headed, array_tree, rest, most_nodes}
use Rattle.definition.specs.Ask.{ok, large, ◌>>=◌, give, gathered}
use Rattle.definition.specs.Iec.{filled}
use Rattle.definition.specs.Resolve.{Memo}
use Rattle.definition.specs.Peek.{got, peek}
use Rattle.laws.specs.Gathers.{Gathered, good-array, array-nameless}
use Rattle.laws.specs.Steps.{peek-done, peek-give, peek-ok}
use Rattle.laws.specs.Whole.{flatten_all-length, flatten_all-join, goods-filled, nodes-some, nodes-headed}
use Rattle.tree.specs.declared.extent.Span.{Span}
use Rattle.tree.specs.Words.{Stand, WroteNode}
use Rattle.tree.specs.Node.{head_words}
use Rattle.tree.specs.Extent.{after_of}
use Rattle.tree_changes.specs.Grow.{in_order, tail, moved, replaced_of, Spliced, Replaced}
use Rattle.tree.proofs.Fields.{Rest, rest-there}
use Rattle.tree.proofs.Stands.{stand-rest, rest-stand}
use Rattle.tree.proofs.Standing.{wrote-so-is, headed-there}
use Rattle.tree_changes.proofs.Splicing.{spliced-size, spliced-words, many-filled}
use Rattle.build.specs.declared.built.Unbuilt.{Unbuilt}
use Rattle.build.specs.declared.built.Unbuilt.TheVariants as unbuilt
use Rattle.build.specs.Built.{Built}
use Rattle.build.specs.Unfit.{unbuilt_of}
use Rattle.build.proofs.leaves.Laws.{node_kept}
use Rattle.gather.specs.declared.answers.Listed.{Listed}
use Rattle.gather.specs.Answers.{Listing, listed}
use Rattle.gather.specs.Room.{whole}
use Rattle.gather.specs.Copies.{FillsOver, FillsRest, PutsHead, Heads}
use Rattle.gather.proofs.Onward.{peek-stops, lists-as, lists-same, builds-same}
use Rattle.std.specs.Prelude.{Err, None, Ok, Option, Some}
use Rattle.std.specs.Prelude as std
use Rattle.tree_changes.specs.declared.grow.Unfit.TheVariants as unfit
use Rattle.tree_changes.specs.declared.grow.Unfit.{Unfit}

-- ---- the test of what is gathered
module _ (M : Memo) (size : ℕ) (ts : Trees) where
  pub gathered-ok : suc (size + nodes_in ts) ≤ most_nodes → peek M (gathered size ts) ≡ got (ok ts)
  unfolding gathered
  gathered-ok h = rw (le-leb (suc (size + nodes_in ts)) most_nodes h) (peek-done M (ok ts))

  pub gathered-large : most_nodes < suc (size + nodes_in ts) → peek M (gathered size ts) ≡ got large
  unfolding gathered
  gathered-large h = rw (lt-leb (suc (size + nodes_in ts)) most_nodes h) (peek-done M large)

-- ---- what `replace` answers of spans in order
pub replaced-is : (len : ℕ) (tree part fresh : Span) → in_order tree part fresh ≡ true
    → (part.begin - tree.begin + moved tree part fresh ≤ 12288 → fresh.end + tail tree part ≤ len)
    → replaced_of len tree part fresh ≡ pick (leb (part.begin - tree.begin + moved tree part fresh) (most_nodes * 6)) (Ok (part.begin + moved tree part fresh)) (Err unfit.TooLarge)
replaced-is len tree part fresh o h = rw o (go (leb (part.begin - tree.begin + moved tree part fresh) (most_nodes * 6)) refl)
  where
    go : (b : Bool) → leb (part.begin - tree.begin + moved tree part fresh) (most_nodes * 6) ≡ b
        → pick b (pick (leb (fresh.end + tail tree part) len) (Ok (part.begin + moved tree part fresh)) (Err unfit.Outside)) (Err unfit.TooLarge)
        ≡ pick b (Ok (part.begin + moved tree part fresh)) (Err unfit.TooLarge)
    go true e = let k = leb-true (part.begin - tree.begin + moved tree part fresh) (most_nodes * 6) e in rw (le-leb (fresh.end + tail tree part) len (h (omega arith)))
    go false e = refl

pub in_order_lem : (tree part fresh : Span) → tree.begin ≤ part.begin → part.begin ≤ part.end → part.end ≤ tree.end → tree.end ≤ fresh.begin → fresh.begin ≤ fresh.end
    → in_order tree part fresh ≡ true
in_order_lem tree part fresh a b c d e =
    rw (le-leb tree.begin part.begin a, le-leb part.begin part.end b, le-leb part.end tree.end c, le-leb tree.end fresh.begin d, le-leb fresh.begin fresh.end e)

-- ---- `fill_over`
pub many-nodes : (ts : Trees) → many ts ≤ nodes_in ts
unfolding many nodes
many-nodes tnil = omega arith
many-nodes (tcons t ts) = omega (arith, many-nodes ts, nodes-some t)

stand-none : (s : List ℕ) → Stand s 0 [] 0
stand-none s = rest-stand s 0 [] s (omega arith) refl

module _ (end values made places : ℕ) (old : List ℕ) {x : Option ℕ} (q : x ≡ after_of old 0 made) where
  abbrev tree_of : Span
  tree_of = record { begin = 0; end = end }

  module _ (ds vs : Trees) (dm : many ds ≡ places) (dg : Gathered 0 ds) (dst : Stand old 0 (flatten_all ds) end) (vm : many vs ≡ made) (vf : made ≤ places) (vg : Gathered 0 vs)
      (vst : Stand old end (flatten_all vs) values) (room : end + 12288 ≤ length old) where
    left_there : Rest old 0 made (rest made ds) end
    left_there = rest-there old 0 ds end made dg.whole dst (omega arith)

    filled-words : flatten_all (filled ds vs) ≡ flatten_all vs ++ flatten_all (rest made ds)
    unfolding filled
    filled-words = flatten_all-join vs (rest (many vs) ds) ∙ ap (λ n. flatten_all vs ++ flatten_all (rest n ds)) vm

    filled-count : many (filled ds vs) ≡ places
    filled-count = many-filled ds vs (omega arith) ∙ dm

    module _ {part : ℕ} (i : x ≡ Some part) where
      abbrev gives : Span
      gives = record { begin = 0; end = part }

      abbrev fresh : Span
      fresh = record { begin = end; end = values }

      back-there : Stand old part (flatten_all (rest made ds)) end
      back-there = let j : left_there.begin ≡ part = cc left_there.is in rw j at left_there.stands

      size_is : 0 - 0 + moved tree_of gives fresh ≡ 6 * nodes_in (filled ds vs)
      size_is =
          let a = spliced-size {old = old} {tree = tree_of} {part = gives} {fresh = fresh} (stand-none old) vst back-there in
          omega (arith, a, ap length filled-words, flatten_all-length (filled ds vs))

      answer-is : replaced_of (length old) tree_of gives fresh ≡ pick (leb (0 - 0 + moved tree_of gives fresh) (most_nodes * 6)) (Ok (0 + moved tree_of gives fresh)) (Err unfit.TooLarge)
      answer-is =
          replaced-is (length old) tree_of gives fresh
          (in_order_lem tree_of gives fresh (omega arith) (omega arith) (omega (arith, back-there.long)) (omega arith) (omega (arith, vst.long)))
          (λ h. omega (arith, h, size_is))

      module _ {g : std.Result ℕ Unfit} {new : List ℕ} (w : Replaced old tree_of gives fresh g new) where
        by_size : (P : Type 0) → (nodes_in (filled ds vs) ≤ most_nodes → g ≡ Ok (6 * nodes_in (filled ds vs)) → P) → (most_nodes < nodes_in (filled ds vs) → g ≡ (Err unfit.TooLarge) → P) → P
        by_size P a b = go (leb (0 - 0 + moved tree_of gives fresh) (most_nodes * 6)) refl (w.says ∙ answer-is)
          where
            go : (c : Bool) → leb (0 - 0 + moved tree_of gives fresh) (most_nodes * 6) ≡ c → g ≡ pick c (Ok (0 + moved tree_of gives fresh)) (Err unfit.TooLarge) → P
            go true e z =
                let l = leb-true (0 - 0 + moved tree_of gives fresh) (most_nodes * 6) e in
                let k : 0 + moved tree_of gives fresh ≡ 6 * nodes_in (filled ds vs) = omega (arith, size_is) in
                a (omega (arith, size_is)) (z ∙ ap Ok k)
            go false e z = let l = leb-false (0 - 0 + moved tree_of gives fresh) (most_nodes * 6) e in b (omega (arith, size_is)) z

        filled-stands : (e : ℕ) → g ≡ Ok e → Stand new 0 (flatten_all (filled ds vs)) (0 + moved tree_of gives fresh)
        filled-stands e z =
            let u : Spliced old tree_of gives fresh new = rw z at w.wrote in
            rw filled-words (spliced-words {old = old} {tree = tree_of} {part = gives} {fresh = fresh} (stand-none old) vst back-there u)

  module _ {part : ℕ} (i : x ≡ Some part) {g : std.Result ℕ Unfit} {new : List ℕ}
      (w : Replaced old (record { begin = 0; end = end }) (record { begin = 0; end = part }) (record { begin = end; end = values }) g new) where
    module _ {to : ℕ} (j : g ≡ Ok to) {b : Bool} (t : b ≡ leb (suc (0 + to / 6)) most_nodes) where
      pub over-ends : b ≡ true → FillsOver end values made places old (listed to places (to / 6)) new
      over-ends v =
          record {
            says = λ M ds vs dm dg dst vm vf vg vst room. by_size ds vs dm dg dst vm vf vg vst room i w _
                (λ h z.
                let e : to ≡ 6 * nodes_in (filled ds vs) = cc in
                let s : to / 6 ≡ nodes_in (filled ds vs) = omega arith in
                let k = leb-true (suc (0 + to / 6)) most_nodes (sym t ∙ v) in
                let o : 0 + moved (record { begin = 0; end = end }) (record { begin = 0; end = part }) (record { begin = end; end = values }) ≡ to =
                omega (arith, size_is ds vs dm dg dst vm vf vg vst room i) in
                record {
                  trees = filled ds vs;
                  is = gathered-ok M 0 (filled ds vs) (omega arith);
                  ends = omega arith;
                  counts = omega (arith, filled-count ds vs dm dg dst vm vf vg vst room);
                  sizes = omega arith;
                  stands = rw o at (filled-stands ds vs dm dg dst vm vf vg vst room i w to j);
                  small = record { whole = goods-filled ds vs dg.whole vg.whole; room = omega arith };
                  few = omega (arith, many-nodes (filled ds vs), filled-count ds vs dm dg dst vm vf vg vst room);
                })
                (λ h z. let n : ◌≡◌ {A = ℕ} 0 1 = cc in absurd (omega arith));
          }

      pub over-head : b ≡ false → FillsOver end values made places old (Err unbuilt.TooLarge) new
      over-head v =
          record {
            says = λ M ds vs dm dg dst vm vf vg vst room. by_size ds vs dm dg dst vm vf vg vst room i w _
                (λ h z.
                let e : to ≡ 6 * nodes_in (filled ds vs) = cc in
                let s : to / 6 ≡ nodes_in (filled ds vs) = omega arith in
                let k = leb-false (suc (0 + to / 6)) most_nodes (sym t ∙ v) in
                gathered-large M 0 (filled ds vs) (omega arith))
                (λ h z. gathered-large M 0 (filled ds vs) (omega arith));
          }

    pub over-fails : {u : Unfit} → g ≡ Err u → {r : Listing} → r ≡ Err (unbuilt_of u) → FillsOver end values made places old r new
    over-fails {u} j {r} p = rw p (go u j)
      where
        go : (u : Unfit) → g ≡ Err u → FillsOver end values made places old (Err (unbuilt_of u)) new
        go unfit.TooLarge j =
            record {
              says = λ M ds vs dm dg dst vm vf vg vst room. by_size ds vs dm dg dst vm vf vg vst room i w _
                  (λ h z. let n : ◌≡◌ {A = ℕ} 0 1 = cc in absurd (omega arith))
                  (λ h z. gathered-large M 0 (filled ds vs) (omega arith));
            }
        go unfit.Outside j =
            record {
              says = λ M ds vs dm dg dst vm vf vg vst room. by_size ds vs dm dg dst vm vf vg vst room i w _
                  (λ h z. let n : ◌≡◌ {A = ℕ} 0 1 = cc in absurd (omega arith))
                  (λ h z. let n : ◌≡◌ {A = ℕ} 0 1 = cc in absurd (omega arith));
            }

  pub over-past : x ≡ None → {r : Listing} → FillsOver end values made places old r old
  over-past j =
      record {
        says = λ M ds vs dm dg dst vm vf vg vst room.
            let r = left_there ds vs dm dg dst vm vf vg vst room in let n : ◌≡◌ {A = ℕ} 0 1 = cc r.is in absurd (omega arith);
      }

-- ---- `fill_rest`
module _ {b : Listing} (end places : ℕ) where
  pub rest-ends : {v : Listed} → b ≡ Ok v → {old : List ℕ} {r : Listing} {new : List ℕ} → FillsOver end v.end v.made places old r new → FillsRest b end places old r new
  rest-ends {v} q {old} {r} {new} w =
      record {
        says = λ M m ds l lm ls lp dm dg dst y room.
            let t = lists-as M m l end old q y in
            lists-same M (gathered 0 (filled ds t.trees)) (m >>= λ vs. gathered 0 (filled ds vs)) whole 0 r new
            (peek-ok M m (λ vs. gathered 0 (filled ds vs)) t.trees t.is)
            (w.says M ds t.trees dm dg dst (omega (arith, t.counts)) (omega (arith, t.few)) (record { whole = t.small.whole; room = omega (arith, t.small.room) }) t.stands room);
      }

  pub rest-fails : {u : Unbuilt} → b ≡ Err u → {r : Listing} → r ≡ Err u → {old : List ℕ} → FillsRest b end places old r old
  rest-fails {u} q {r} p {old} = record { says = λ M m ds l lm ls lp dm dg dst y room. rw p (peek-stops M m (λ vs. gathered 0 (filled ds vs)) u (lists-as M m l end old q y)) }

-- ---- `put_head`
array-is : (ts : Trees) → array_tree ts ≡ headed 13 ts
unfolding array_tree
array-is ts = refl

pub head-fits : (len : ℕ) {b : Bool} (from end : ℕ) → b ≡ leb (from + end) len → b ≡ true → len < 2 ^ 64 → Fits w64 (from + end)
head-fits len from end q t h = let k = leb-true (from + end) len (sym q ∙ t) in record { fits = omega arith }

values-there : (end from : ℕ) (old : List ℕ) (ts : Trees) → from ≤ length old → Stand (drop from old) 0 (flatten_all ts) end → Stand old from (flatten_all ts) (from + end)
values-there end from old ts fl st =
    let y = rest-stand old from (flatten_all ts) (drop end (drop from old)) fl (stand-rest st) in
    let e : length (flatten_all ts) ≡ end = omega (arith, st.long) in
    rw e at y

pub head-short : (end made at from : ℕ) (old : List ℕ) {b : Bool} → b ≡ leb (from + end) (length old) → b ≡ false → PutsHead end made at from old (Err unbuilt.None) old
head-short end made at from old q i =
    record {
      kept = refl;
      says = λ M ts fr fl mm ee g st. let k = leb-false (from + end) (length old) (sym q ∙ i) in absurd (omega (arith, (values-there end from old ts fl st).fits));
    }

module _ (end made at from : ℕ) {count : ℕ} (least : count ≡ min made 2047) where
  count-is : (ts : Trees) → made ≡ many ts → Gathered 0 ts → count ≡ many ts
  count-is ts mm g = omega (arith, many-nodes ts, g.room)

  module _ {old : List ℕ} {y : Option ℕ} {new : List ℕ} (w : WroteNode old at (head_words 13 count) y new) where
    pub head-ends : {e : ℕ} → y ≡ Some e → PutsHead end made at from old (Ok (from + end)) new
    head-ends i =
        record {
          kept = node_kept w;
          says = λ M ts fr fl mm ee g st.
              let v = values-there end from old ts fl st in
              let v' : Stand old (at + 6) (flatten_all ts) (from + end) = rw (← fr) v in
              let n = nodes-headed 13 ts in
              let a = array-is ts in
              let p = (wrote-so-is (leb (at + 6) (length old)) w i).2 in
              let s : nodes (array_tree ts) ≡ suc (nodes_in ts) = rw a n in
              record {
                tree = array_tree ts;
                is = peek-give M (array_tree ts);
                ends = omega arith;
                stands = rw a (headed-there old at 13 ts (from + end) v' (rw (count-is ts mm g) at p));
                small = record { few = omega (arith, g.room); good = good-array ts g.whole; nameless = array-nameless ts };
              };
        }

    pub head-full : y ≡ None → {r : Built} → PutsHead end made at from old r new
    head-full i =
        record {
          kept = node_kept w;
          says = λ M ts fr fl mm ee g st.
              let h : at + 6 ≤ length old = omega arith in
              let v = rw (le-leb (at + 6) (length old) h) at w.says in let n : ◌≡◌ {A = ℕ} 0 1 = cc in absurd (omega arith);
        }

-- ---- `array_head`
module _ {b : Listing} (at from : ℕ) where
  pub heads-ends : {v : Listed} → b ≡ Ok v → {old : List ℕ} {r : Built} {new : List ℕ} → PutsHead v.end v.made at from old r new → Heads b at from old r new
  heads-ends {v} q {old} {r} {new} w =
      record {
        kept = w.kept;
        says = λ M m fr fl y.
            let t = lists-as M m whole 0 (drop from old) q y in
            builds-same M (give (array_tree t.trees)) (m >>= λ ts. give (array_tree ts)) at r new (peek-ok M m (λ ts. give (array_tree ts)) t.trees t.is)
            (w.says M t.trees fr fl (omega (arith, t.counts)) (omega (arith, t.ends)) t.small t.stands);
      }

  pub heads-fails : {u : Unbuilt} → b ≡ Err u → {r : Built} → r ≡ Err u → {old : List ℕ} → Heads b at from old r old
  heads-fails {u} q {r} p {old} = record { kept = refl; says = λ M m fr fl y. rw p (peek-stops M m (λ ts. give (array_tree ts)) u (lists-as M m whole 0 (drop from old) q y)) }

pub ruleset laws = (rules, over-ends, over-head, over-fails, over-past, rest-ends, rest-fails, head-fits, head-ends, head-full, head-short, heads-ends, heads-fails)
