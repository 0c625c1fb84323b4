-- Parts that are gathered one behind the other under a head: what is left comes to what the whole comes to. Assumes nothing.
use mathlib.Core.Path.{◌≡◌, refl, ap, sym, ◌∙◌}
use mathlib.Core.Bool.{Bool, true, false}
use mathlib.Core.List.{List}
use Prim.Native.Nat.{ℕ, suc, ◌+◌, ◌-◌, ◌*◌, ◌≤◌, ◌<◌}
use native.Mathlib.Omega.{arith}
use lib.ListN.{length, take}
use lib.Seq.{paste}
use Rattle.definition.specs.declared.records.Place.{Place}
use Rattle.definition.specs.Layout.{word}
use Rattle.definition.specs.Tree.{Tree, Trees, tnil, many, nodes_in, flatten, flatten_all, structure_tree, join, tree_words}
use Rattle.definition.specs.Ask.{Result, ok, none, large, Ask, and_more}
use Rattle.definition.specs.Resolve.{Memo}
use Rattle.definition.specs.Peek.{Peek, got, wants, peek}
use Rattle.definition.specs.Parts.{field, structured}
use Rattle.laws.specs.Steps.{peek-give}
use Rattle.laws.specs.Whole.{flatten_all-length, flatten_all-join, nodes_in-join, many-join}
use Rattle.tree.specs.Words.{Stand}
use Rattle.tree.specs.Node.{head_words}
use Rattle.tree.proofs.Stands.{stand-append, stand-kept}
use Rattle.tree.proofs.Standing.{headed-there}
use Rattle.std.specs.Prelude.{Err, Ok}
use Rattle.build.specs.declared.built.Unbuilt.{Unbuilt}
use Rattle.build.specs.Built.{Built, Gives, Memory, Builds}
use Rattle.build.specs.Fields.{HeadsStructure}
use Rattle.build.proofs.Peeks.{then_peek, peek-then, then-assoc, gives-err, gives-ends, kept-before}
use Rattle.build.proofs.leaves.Laws.{paste-kept}
use Rattle.build.proofs.Gathers.{join-nil, behind, behind-nothing, behind-both, peek-more, no-trees, peek-structured, one_field, many-nil, nodes-nil, structure-gives}
use Rattle.initial.specs.Stated.{part_start, is_part, part_ask, parts_from, BuildsPart}

-- ---- what is left of the parts
module _ (f : List ℕ) (place : Place) (section k upto : ℕ) (h : k < upto) (made size : ℕ) where
  spent : upto - k ≡ suc (upto - (k + 1))
  spent = omega arith

  one_more : suc k ≡ k + 1
  one_more = omega arith

  parts-skip : is_part f section k ≡ false → parts_from f place section k (upto - k) made size ≡ parts_from f place section (k + 1) (upto - (k + 1)) made size
  unfolding parts_from
  parts-skip e = ap (λ (n : ℕ). parts_from f place section k n made size) spent ∙ rw (e, one_more)

  parts_next : is_part f section k ≡ true → parts_from f place section k (upto - k) made size ≡ and_more made size (part_ask f place section k size) (parts_from f place section (k + 1) (upto - (k + 1)))
  unfolding parts_from
  parts_next e = ap (λ (n : ℕ). parts_from f place section k n made size) spent ∙ rw (e, one_more)

-- nothing is left
peek-left : (M : Memo) (f : List ℕ) (place : Place) (section k made size : ℕ) → peek M (parts_from f place section k 0 made size) ≡ got (ok tnil)
unfolding parts_from
peek-left M f place section k made size = peek-give M tnil

-- a part is one tree
part-one : (M : Memo) (f : List ℕ) (place : Place) (section k size : ℕ) (ss : Trees) → peek M (part_ask f place section k size) ≡ got (ok ss) → many ss ≡ 1
unfolding part_ask
part-one M f place section k size ss e = go (peek M (part_start f place section k)) (sym (peek-then M (part_start f place section k) (field size (word f section k 0))) ∙ e)
  where
    go : (p : Peek (Result Tree)) → then_peek p (λ t. peek M (field size (word f section k 0) t)) ≡ got (ok ss) → many ss ≡ 1
    go (got (ok t)) q = one_field M (word f section k 0) size ss t q
    go (got none) q = let z : ◌≡◌ {A = ℕ} 0 1 = cc in absurd (omega arith)
    go (got large) q = let z : ◌≡◌ {A = ℕ} 0 1 = cc in absurd (omega arith)
    go (wants d) q = let z : ◌≡◌ {A = ℕ} 0 1 = cc in absurd (omega arith)

-- ---- what a memo gives so far
pub record Gathering (f : List ℕ) (place : Place) (section first total : ℕ) (M : Memo) (at k made to : ℕ) (room : List ℕ) : Type 0 where
  pub trees : Trees
  pub counts : many trees ≡ made
  pub sizes : to ≡ at + 6 + 6 * nodes_in trees
  pub stands : Stand room (at + 6) (flatten_all trees) to
  pub comes : peek M (parts_from f place section first total 0 0) ≡ then_peek (peek M (parts_from f place section k (first + total - k) made (nodes_in trees))) (behind trees)

pub record SoFar (f index store : List ℕ) (place : Place) (section first total at : ℕ) (old : List ℕ) (k made to : ℕ) (room : List ℕ) : Type 0 where
  pub runs : k ≤ first + total
  pub starts : first ≤ k
  pub few : first + made ≤ k
  pub after : at + 6 ≤ to
  pub within : to ≤ at + tree_words
  pub fits : at + 6 ≤ length old
  pub long : length room ≡ length old
  pub kept : take at room ≡ take at old
  pub gives : (M : Memo) → Memory f index store M → Gathering f place section first total M at k made to room

module _ (f index store : List ℕ) (place : Place) (section first total at : ℕ) (old : List ℕ) where
  -- the whole
  abbrev all : Ask (Result Tree)
  all = structured (parts_from f place section first total)

  peek-all : (M : Memo) → peek M all ≡ then_peek (peek M (parts_from f place section first total 0 0)) (λ ts. got (ok (structure_tree ts)))
  peek-all M = peek-structured M (parts_from f place section first total)

  start : (M : Memo) → peek M (parts_from f place section first total 0 0) ≡ then_peek (peek M (parts_from f place section first total 0 (nodes_in tnil))) (behind tnil)
  start M = rw nodes-nil (sym (behind-nothing (peek M (parts_from f place section first total 0 0))))

  begins : (M : Memo) → peek M (parts_from f place section first total 0 0) ≡ then_peek (peek M (parts_from f place section first (first + total - first) 0 (nodes_in tnil))) (behind tnil)
  begins M =
      let e : first + total - first ≡ total = omega arith in
      rw e (start M)

  pub so-far-none : at + 6 ≤ length old → SoFar f index store place section first total at old first 0 (at + 6) old
  so-far-none h =
      record {
        runs = omega arith;
        starts = omega arith;
        few = omega arith;
        after = omega arith;
        within = omega arith;
        fits = h;
        long = refl;
        kept = refl;
        gives = λ M m. record { trees = tnil; counts = many-nil; sizes = omega (arith, nodes-nil); stands = no-trees old at h; comes = begins M };
      }

  module _ {k made to : ℕ} {room : List ℕ} (x : SoFar f index store place section first total at old k made to room) where
    pub so_far_skip : {b : Bool} → b ≡ is_part f section k → b ≡ false → k < first + total → SoFar f index store place section first total at old (k + 1) made to room
    so_far_skip i e h =
        record {
          runs = omega (arith, x.runs);
          starts = omega (arith, x.starts);
          few = omega (arith, x.few);
          after = x.after;
          within = x.within;
          fits = x.fits;
          long = x.long;
          kept = x.kept;
          gives = λ M m. let y = x.gives M m in
              record {
                trees = y.trees;
                counts = y.counts;
                sizes = y.sizes;
                stands = y.stands;
                comes = rw (parts-skip f place section k (first + total) h made (nodes_in y.trees) (sym i ∙ e)) at y.comes;
              };
        }

    pub so-far-all : k ≡ first + total → {r : Built} {new : List ℕ} → HeadsStructure at made to room r new → Builds f index store flatten all at old r new
    so-far-all h {r} {new} z = record { gives = go; kept = ap (take at) z.is ∙ paste-kept room at (head_words 14 made) 6 (omega (arith, x.fits, x.long)) ∙ x.kept }
      where
        none_left : first + total - k ≡ 0
        none_left = omega arith

        go : (M : Memo) → Memory f index store M → Gives flatten (peek M all) at r new
        go M m =
            let y = x.gives M m in
            let p : peek M (parts_from f place section k (first + total - k) made (nodes_in y.trees)) ≡ got (ok tnil) =
            ap (λ (n : ℕ). peek M (parts_from f place section k n made (nodes_in y.trees))) none_left ∙ peek-left M f place section k made (nodes_in y.trees) in
            let q : peek M (parts_from f place section first total 0 0) ≡ got (ok y.trees) = y.comes ∙ ap (λ w. then_peek w (behind y.trees)) p ∙ ap (λ (ts : Trees). got (ok ts)) (join-nil y.trees) in
            let s : peek M all ≡ got (ok (structure_tree y.trees)) = peek-all M ∙ ap (λ w. then_peek w (λ ts. got (ok (structure_tree ts)))) q in
            let o : new ≡ paste room at (head_words 14 (many y.trees)) 6 = z.is ∙ ap (λ (j : ℕ). paste room at (head_words 14 j) 6) (sym y.counts) in
            rw (s, z.says) (structure-gives at y.trees to new (headed-there room at 14 y.trees to y.stands o))

    module _ {b : Bool} (i : b ≡ is_part f section k) (e : b ≡ true) (h : k < first + total) where
      next : (M : Memo) (size : ℕ) → peek M (parts_from f place section k (first + total - k) made size)
          ≡ then_peek (peek M (part_ask f place section k size)) (λ ts. then_peek (peek M (parts_from f place section (k + 1) (first + total - (k + 1)) (made + many ts) (size + nodes_in ts))) (behind ts))
      next M size =
          ap (peek M) (parts_next f place section k (first + total) h made size (sym i ∙ e))
          ∙ peek-more M made size (part_ask f place section k size) (parts_from f place section (k + 1) (first + total - (k + 1)))

      module _ {r : Built} {new : List ℕ} where
        -- what `?` hands on
        pub so-far-fails : {u : Unbuilt} → BuildsPart f index store place section k at to room (Err u) new → r ≡ Err u → Builds f index store flatten all at old r new
        so-far-fails z q = record { gives = go; kept = kept-before at to new room (omega (arith, x.after)) z.kept ∙ x.kept }
          where
            go : (M : Memo) → Memory f index store M → Gives flatten (peek M all) at r new
            go M m =
                let y = x.gives M m in
                let p = peek-all M ∙ ap (λ w. then_peek w (λ ts. got (ok (structure_tree ts)))) (y.comes ∙ ap (λ w. then_peek w (behind y.trees)) (next M (nodes_in y.trees)))
                ∙ ap (λ w. then_peek w (λ ts. got (ok (structure_tree ts)))) (then-assoc (peek M (part_ask f place section k (nodes_in y.trees))) _ (behind y.trees))
                ∙ then-assoc (peek M (part_ask f place section k (nodes_in y.trees))) _ (λ ts. got (ok (structure_tree ts))) in
                rw p (gives-err flatten at new (peek M (part_ask f place section k (nodes_in y.trees))) (z.gives (nodes_in y.trees) y.sizes M m) _ q)

        pub so_far_more : BuildsPart f index store place section k at to room r new → {end : ℕ} → r ≡ Ok end → length new ≡ length room → SoFar f index store place section first total at old (k + 1) (made + 1) end new
        so_far_more z {end} q l =
            let d = z.ends end q in
            record {
              runs = omega (arith, x.runs);
              starts = omega (arith, x.starts);
              few = omega (arith, x.few);
              after = omega (arith, x.after, d.0);
              within = d.1;
              fits = x.fits;
              long = l ∙ x.long;
              kept = kept-before at to new room (omega (arith, x.after)) z.kept ∙ x.kept;
              gives = go;
            }
          where
            go : (M : Memo) → Memory f index store M → Gathering f place section first total M at (k + 1) (made + 1) end new
            go M m =
                let y = x.gives M m in
                let v = gives-ends (peek M (part_ask f place section k (nodes_in y.trees))) (z.gives (nodes_in y.trees) y.sizes M m) q in
                let c : many v.value ≡ 1 = part-one M f place section k (nodes_in y.trees) v.value v.is in
                let s = nodes_in-join y.trees v.value in
                let u : made + many v.value ≡ made + 1 = ap (λ (j : ℕ). made + j) c in
                let o : peek M (parts_from f place section k (first + total - k) made (nodes_in y.trees))
                ≡ then_peek (peek M (parts_from f place section (k + 1) (first + total - (k + 1)) (made + 1) (nodes_in (join y.trees v.value)))) (behind v.value) =
                next M (nodes_in y.trees) ∙ ap (λ w. then_peek w (λ ts. then_peek (peek M (parts_from f place section (k + 1) (first + total - (k + 1)) (made + many ts) (nodes_in y.trees + nodes_in ts))) (behind ts))) v.is
                ∙ rw (u, s) in
                record {
                  trees = join y.trees v.value;
                  counts = many-join y.trees v.value ∙ omega (arith, y.counts, c);
                  sizes = omega (arith, v.ends, y.sizes, s, flatten_all-length v.value);
                  stands = rw (flatten_all-join y.trees v.value) (stand-append (stand-kept y.stands new to l (omega arith) z.kept) v.stands);
                  comes = y.comes ∙ ap (λ w. then_peek w (behind y.trees)) o ∙ behind-both y.trees v.value (peek M (parts_from f place section (k + 1) (first + total - (k + 1)) (made + 1) (nodes_in (join y.trees v.value))));
                }
