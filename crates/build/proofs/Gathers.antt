-- Fields that are gathered one behind the other under a head: what is left comes to what the whole comes to. Assumes nothing.
use mathlib.Core.Path.{◌≡◌, refl, ap, sym, ◌∙◌, fun_ext}
use mathlib.Core.Bool.{Bool, true, false, not}
use mathlib.Core.List.{List, ◌∷◌}
use Prim.Native.Nat.{ℕ, suc, ◌+◌, ◌-◌, ◌*◌, ◌≤◌, ◌<◌}
use native.Mathlib.Omega.{arith}
use lib.ListN.{length, take}
use lib.Dec.{leb}
use lib.Seq.{paste, slice_empty}
use Rattle.definition.specs.declared.records.Place.{Place}
use Rattle.definition.specs.Base.{choose}
use Rattle.definition.specs.Layout.{word}
use Rattle.definition.specs.Tree.{Tree, Trees, tnil, tcons, many, nodes, nodes_in, flatten, flatten_all, headed, structure_tree, join, one, named, most_nodes, tree_words}
use Rattle.definition.specs.Ask.{Result, ok, none, large, Ask, done, ◌>>=◌, gathered, and_more}
use Rattle.definition.specs.Resolve.{Memo}
use Rattle.definition.specs.Peek.{Peek, got, wants, peek}
use Rattle.definition.specs.Places.{field_place}
use Rattle.definition.specs.Parts.{field, fields_by, structured}
use Rattle.definition.specs.Starting.{default_of}
use Rattle.laws.specs.Steps.{peek-give}
use Rattle.laws.specs.Whole.{flatten_all-length, flatten_all-join, nodes_in-join, many-join, many-one}
use Rattle.tree.specs.Words.{Stand}
use Rattle.tree.specs.Node.{head_words}
use Rattle.tree.proofs.Stands.{stand-append, stand-kept}
use Rattle.tree.proofs.Standing.{headed-there}
use Rattle.build.specs.declared.built.Unbuilt.{Unbuilt}
use Rattle.std.specs.Prelude.{Err, Ok}
use Rattle.build.specs.Built.{Built, Gives, Memory, Builds}
use Rattle.build.specs.Parts.{is_listed, listed_names, field_ask, BuildsField}
use Rattle.build.specs.Fields.{HeadsStructure}
use Rattle.build.proofs.Peeks.{then_peek, peek-then, then-assoc, gives-err, gives-ends, kept-before}
use Rattle.build.proofs.leaves.Laws.{paste-kept}

-- ---- tests
pub not-true : (b : Bool) → not b ≡ true → b ≡ false
not-true true e = sym e
not-true false e = refl

pub not-false : (b : Bool) → not b ≡ false → b ≡ true
not-false true e = refl
not-false false e = sym e

-- ---- lists of trees
pub join-nil : (ts : Trees) → join ts tnil ≡ ts
unfolding join
join-nil tnil = refl
join-nil (tcons t ts) = ap (tcons t) (join-nil ts)

pub join-assoc : (ts us vs : Trees) → join (join ts us) vs ≡ join ts (join us vs)
unfolding join
join-assoc tnil us vs = refl
join-assoc (tcons t ts) us vs = ap (tcons t) (join-assoc ts us vs)

-- behind what there is
abbrev pub behind : Trees → Trees → Peek (Result Trees)
behind ts us = got (ok (join ts us))

pub behind-nothing : (p : Peek (Result Trees)) → then_peek p (behind tnil) ≡ p
unfolding join
behind-nothing (got (ok ts)) = refl
behind-nothing (got none) = refl
behind-nothing (got large) = refl
behind-nothing (wants d) = refl

pub behind-both : (ts ss : Trees) (p : Peek (Result Trees)) → then_peek (then_peek p (behind ss)) (behind ts) ≡ then_peek p (behind (join ts ss))
behind-both ts ss (got (ok us)) = ap (λ (vs : Trees). got (ok vs)) (sym (join-assoc ts ss us))
behind-both ts ss (got none) = refl
behind-both ts ss (got large) = refl
behind-both ts ss (wants d) = refl

-- ---- one step of the definition
module _ (M : Memo) where
  pub peek-more : (made size : ℕ) (some : Ask (Result Trees)) (more : ℕ → ℕ → Ask (Result Trees))
      → peek M (and_more made size some more) ≡ then_peek (peek M some) (λ ts. then_peek (peek M (more (made + many ts) (size + nodes_in ts))) (behind ts))
  unfolding and_more
  peek-more made size some more =
      peek-then M some _
      ∙ ap (then_peek (peek M some)) (fun_ext (λ ts. peek-then M (more (made + many ts) (size + nodes_in ts)) _ ∙ ap (then_peek (peek M (more (made + many ts) (size + nodes_in ts)))) (fun_ext (λ us. peek-give M (join ts us)))))

module _ (f : List ℕ) (place : Place) where
  -- what is left of the fields
  abbrev pub left_of : List ℕ → ℕ → ℕ → Ask (Result Trees)
  left_of names made size = fields_by f (default_of f) place names made size

  next_field : (M : Memo) (name : ℕ) (names : List ℕ) (made size : ℕ)
      → peek M (left_of (name ∷ names) made size) ≡ then_peek (peek M (field_ask f place name size)) (λ ts. then_peek (peek M (left_of names (made + many ts) (size + nodes_in ts))) (behind ts))
  unfolding fields_by field_ask
  next_field M name names made size = peek-more M made size _ (fields_by f (default_of f) place names)

-- ---- the names that are left
module _ (f : List ℕ) (section k upto : ℕ) (h : k < upto) where
  spent : upto - k ≡ suc (upto - (k + 1))
  spent = omega arith

  one_more : suc k ≡ k + 1
  one_more = omega arith

  names-skip : is_listed f section k ≡ false → listed_names f section k (upto - k) ≡ listed_names f section (k + 1) (upto - (k + 1))
  unfolding listed_names
  names-skip e = ap (listed_names f section k) spent ∙ rw (e, one_more)

  names-next : is_listed f section k ≡ true → listed_names f section k (upto - k) ≡ word f section k 0 ∷ listed_names f section (k + 1) (upto - (k + 1))
  unfolding listed_names
  names-next e = ap (listed_names f section k) spent ∙ rw (e, one_more)

-- ---- what a memo gives so far: trees of so many nodes stand behind the head's place, and the whole is what is left, behind them
pub record Gathering (f : List ℕ) (place : Place) (whole : List ℕ) (M : Memo) (at : ℕ) (names : List ℕ) (made to : ℕ) (room : List ℕ) : Type 0 where
  pub trees : Trees
  pub counts : many trees ≡ made
  pub sizes : to ≡ at + 6 + 6 * nodes_in trees
  pub stands : Stand room (at + 6) (flatten_all trees) to
  pub comes : peek M (left_of f place whole 0 0) ≡ then_peek (peek M (left_of f place names made (nodes_in trees))) (behind trees)

pub record SoFar (f known store : List ℕ) (place : Place) (section first total at : ℕ) (old : List ℕ) (k made to : ℕ) (room : List ℕ) : Type 0 where
  pub runs : k ≤ first + total
  pub few : first + made ≤ k
  pub after : at + 6 ≤ to
  pub within : to ≤ at + tree_words
  pub fits : at + 6 ≤ length old
  pub long : length room ≡ length old
  pub kept : take at room ≡ take at old
  pub gives : (M : Memo) → Memory f known store M → Gathering f place (listed_names f section first total) M at (listed_names f section k (first + total - k)) made to room

pub no-trees : (room : List ℕ) (at : ℕ) → at + 6 ≤ length room → Stand room (at + 6) (flatten_all tnil) (at + 6)
unfolding flatten
no-trees room at h = record { long = omega arith; fits = h; is = slice_empty (at + 6) room }

-- the structure of all fields
pub peek-structured : (M : Memo) (fields : ℕ → ℕ → Ask (Result Trees)) → peek M (structured fields) ≡ then_peek (peek M (fields 0 0)) (λ ts. got (ok (structure_tree ts)))
unfolding structured
peek-structured M fields = peek-then M (fields 0 0) _ ∙ ap (then_peek (peek M (fields 0 0))) (fun_ext (λ ts. peek-give M (structure_tree ts)))

-- a field is one tree
one_end : (M : Memo) (name : ℕ) (ss : Trees) (b : Bool) (t : Tree) → peek M (choose b (λ u. done (ok (one (named name t)))) (λ u. done large)) ≡ got (ok ss) → many ss ≡ 1
unfolding peek
one_end M name ss true t q = let z : one (named name t) ≡ ss = cc in rw (← z) (many-one (named name t))
one_end M name ss false t q = let z : ◌≡◌ {A = ℕ} 0 1 = cc in absurd (omega arith)

pub one_field : (M : Memo) (name size : ℕ) (ss : Trees) (t : Tree) → peek M (field size name t) ≡ got (ok ss) → many ss ≡ 1
unfolding field gathered
one_field M name size ss t q = one_end M name ss (leb (suc (size + nodes_in (one (named name t)))) most_nodes) t q

field-one : (M : Memo) (f : List ℕ) (place : Place) (name size : ℕ) (ss : Trees) → peek M (field_ask f place name size) ≡ got (ok ss) → many ss ≡ 1
unfolding field_ask
field-one M f place name size ss e = go (peek M (done (field_place f place name) >>= default_of f)) (sym (peek-then M (done (field_place f place name) >>= default_of f) (field size name)) ∙ e)
  where
    go : (p : Peek (Result Tree)) → then_peek p (λ t. peek M (field size name t)) ≡ got (ok ss) → many ss ≡ 1
    go (got (ok t)) q = one_field M name size ss t q
    go (got none) q = let z : ◌≡◌ {A = ℕ} 0 1 = cc in absurd (omega arith)
    go (got large) q = let z : ◌≡◌ {A = ℕ} 0 1 = cc in absurd (omega arith)
    go (wants d) q = let z : ◌≡◌ {A = ℕ} 0 1 = cc in absurd (omega arith)

pub many-nil : many tnil ≡ 0
unfolding many
many-nil = refl

pub nodes-nil : nodes_in tnil ≡ 0
unfolding nodes
nodes-nil = refl

-- nothing is left
peek-left : (M : Memo) (f : List ℕ) (place : Place) (section k made size : ℕ) → peek M (left_of f place (listed_names f section k 0) made size) ≡ got (ok tnil)
unfolding listed_names fields_by
peek-left M f place section k made size = peek-give M tnil

-- a structure's words up to an end
pub structure-gives : (at : ℕ) (ts : Trees) (e : ℕ) (new : List ℕ) → Stand new at (flatten (headed 14 ts)) e → Gives flatten (got (ok (structure_tree ts))) at (Ok e) new
unfolding structure_tree
structure-gives at ts e new x = record { says = ap Ok (sym x.long); stands = rw x.long x }

module _ (f known store : List ℕ) (place : Place) (section first total at : ℕ) (old : List ℕ) where
  -- the whole
  abbrev all : Ask (Result Tree)
  all = structured (fields_by f (default_of f) place (listed_names f section first total))

  peek-all : (M : Memo) → peek M all ≡ then_peek (peek M (left_of f place (listed_names f section first total) 0 0)) (λ ts. got (ok (structure_tree ts)))
  peek-all M = peek-structured M (fields_by f (default_of f) place (listed_names f section first total))

  start : (M : Memo) → peek M (left_of f place (listed_names f section first total) 0 0) ≡ then_peek (peek M (left_of f place (listed_names f section first total) 0 (nodes_in tnil))) (behind tnil)
  start M = rw nodes-nil (sym (behind-nothing (peek M (left_of f place (listed_names f section first total) 0 0))))

  begins : (M : Memo) → peek M (left_of f place (listed_names f section first total) 0 0) ≡ then_peek (peek M (left_of f place (listed_names f section first (first + total - first)) 0 (nodes_in tnil))) (behind tnil)
  begins M =
      let e : first + total - first ≡ total = omega arith in
      rw e (start M)

  pub so-far-none : at + 6 ≤ length old → SoFar f known store place section first total at old first 0 (at + 6) old
  so-far-none h =
      record {
        runs = omega arith;
        few = omega arith;
        after = omega arith;
        within = omega arith;
        fits = h;
        long = refl;
        kept = refl;
        gives = λ M m. record { trees = tnil; counts = many-nil; sizes = omega (arith, nodes-nil); stands = no-trees old at h; comes = begins M };
      }

  module _ {k made to : ℕ} {room : List ℕ} (x : SoFar f known store place section first total at old k made to room) where
    pub so_far_skip : {b : Bool} → b ≡ is_listed f section k → b ≡ false → k < first + total → SoFar f known store place section first total at old (k + 1) made to room
    so_far_skip i e h =
        record {
          runs = omega (arith, x.runs);
          few = omega (arith, x.few);
          after = x.after;
          within = x.within;
          fits = x.fits;
          long = x.long;
          kept = x.kept;
          gives = λ M m. let y = x.gives M m in
              record {
                trees = y.trees;
                counts = y.counts;
                sizes = y.sizes;
                stands = y.stands;
                comes = rw (names-skip f section k (first + total) h (sym i ∙ e)) at y.comes;
              };
        }

    pub so-far-all : k ≡ first + total → {r : Built} {new : List ℕ} → HeadsStructure at made to room r new → Builds f known store flatten all at old r new
    so-far-all h {r} {new} z = record { gives = go; kept = ap (take at) z.is ∙ paste-kept room at (head_words 14 made) 6 (omega (arith, x.fits, x.long)) ∙ x.kept }
      where
        none_left : first + total - k ≡ 0
        none_left = omega arith

        go : (M : Memo) → Memory f known store M → Gives flatten (peek M all) at r new
        go M m =
            let y = x.gives M m in
            let p : peek M (left_of f place (listed_names f section k (first + total - k)) made (nodes_in y.trees)) ≡ got (ok tnil) =
            ap (λ (n : ℕ). peek M (left_of f place (listed_names f section k n) made (nodes_in y.trees))) none_left ∙ peek-left M f place section k made (nodes_in y.trees) in
            let q : peek M (left_of f place (listed_names f section first total) 0 0) ≡ got (ok y.trees) = y.comes ∙ ap (λ w. then_peek w (behind y.trees)) p ∙ ap (λ (ts : Trees). got (ok ts)) (join-nil y.trees) in
            let s : peek M all ≡ got (ok (structure_tree y.trees)) = peek-all M ∙ ap (λ w. then_peek w (λ ts. got (ok (structure_tree ts)))) q in
            let o : new ≡ paste room at (head_words 14 (many y.trees)) 6 = z.is ∙ ap (λ (j : ℕ). paste room at (head_words 14 j) 6) (sym y.counts) in
            rw (s, z.says) (structure-gives at y.trees to new (headed-there room at 14 y.trees to y.stands o))

    module _ {b : Bool} (i : b ≡ is_listed f section k) (e : b ≡ true) (h : k < first + total) {name : ℕ} (w : name ≡ word f section k 0) where
      next : (M : Memo) (size : ℕ) → peek M (left_of f place (listed_names f section k (first + total - k)) made size)
          ≡ then_peek (peek M (field_ask f place name size)) (λ ts. then_peek (peek M (left_of f place (listed_names f section (k + 1) (first + total - (k + 1))) (made + many ts) (size + nodes_in ts))) (behind ts))
      next M size =
          ap (λ (l : List ℕ). peek M (left_of f place l made size)) (names-next f section k (first + total) h (sym i ∙ e) ∙ ap (λ (n : ℕ). n ∷ listed_names f section (k + 1) (first + total - (k + 1))) (sym w))
          ∙ next_field f place M name (listed_names f section (k + 1) (first + total - (k + 1))) made size

      -- what `?` hands on
      pub so-far-fails : {u : Unbuilt} {new : List ℕ} → BuildsField f known store place name at to room (Err u) new → {r : Built} → r ≡ Err u → Builds f known store flatten all at old r new
      so-far-fails {u} {new} z {r} q = record { gives = go; kept = kept-before at to new room (omega (arith, x.after)) z.kept ∙ x.kept }
        where
          go : (M : Memo) → Memory f known store M → Gives flatten (peek M all) at r new
          go M m =
              let y = x.gives M m in
              let p = peek-all M ∙ ap (λ w. then_peek w (λ ts. got (ok (structure_tree ts)))) (y.comes ∙ ap (λ w. then_peek w (behind y.trees)) (next M (nodes_in y.trees)))
              ∙ ap (λ w. then_peek w (λ ts. got (ok (structure_tree ts)))) (then-assoc (peek M (field_ask f place name (nodes_in y.trees))) _ (behind y.trees))
              ∙ then-assoc (peek M (field_ask f place name (nodes_in y.trees))) _ (λ ts. got (ok (structure_tree ts))) in
              rw p (gives-err flatten at new (peek M (field_ask f place name (nodes_in y.trees))) (z.gives (nodes_in y.trees) y.sizes M m) _ q)

      pub so_far_more : {r : Built} {new : List ℕ} → BuildsField f known store place name at to room r new → {end : ℕ} → r ≡ Ok end → length new ≡ length room → SoFar f known store place section first total at old (k + 1) (made + 1) end new
      so_far_more {r} {new} z {end} q l =
          let d = z.ends end q in
          record {
            runs = omega (arith, x.runs);
            few = omega (arith, x.few);
            after = omega (arith, x.after, d.0);
            within = d.1;
            fits = x.fits;
            long = l ∙ x.long;
            kept = kept-before at to new room (omega (arith, x.after)) z.kept ∙ x.kept;
            gives = go;
          }
        where
          go : (M : Memo) → Memory f known store M → Gathering f place (listed_names f section first total) M at (listed_names f section (k + 1) (first + total - (k + 1))) (made + 1) end new
          go M m =
              let y = x.gives M m in
              let v = gives-ends (peek M (field_ask f place name (nodes_in y.trees))) (z.gives (nodes_in y.trees) y.sizes M m) q in
              let c : many v.value ≡ 1 = field-one M f place name (nodes_in y.trees) v.value v.is in
              let s = nodes_in-join y.trees v.value in
              let u : made + many v.value ≡ made + 1 = ap (λ (j : ℕ). made + j) c in
              let o : peek M (left_of f place (listed_names f section k (first + total - k)) made (nodes_in y.trees))
              ≡ then_peek (peek M (left_of f place (listed_names f section (k + 1) (first + total - (k + 1))) (made + 1) (nodes_in (join y.trees v.value)))) (behind v.value) =
              next M (nodes_in y.trees) ∙ ap (λ w. then_peek w (λ ts. then_peek (peek M (left_of f place (listed_names f section (k + 1) (first + total - (k + 1))) (made + many ts) (nodes_in y.trees + nodes_in ts))) (behind ts))) v.is
              ∙ rw (u, s) in
              record {
                trees = join y.trees v.value;
                counts = many-join y.trees v.value ∙ omega (arith, y.counts, c);
                sizes = omega (arith, v.ends, y.sizes, s, flatten_all-length v.value);
                stands = rw (flatten_all-join y.trees v.value) (stand-append (stand-kept y.stands new to l (omega arith) z.kept) v.stands);
                comes = y.comes ∙ ap (λ w. then_peek w (behind y.trees)) o ∙ behind-both y.trees v.value (peek M (left_of f place (listed_names f section (k + 1) (first + total - (k + 1))) (made + 1) (nodes_in (join y.trees v.value))));
              }
