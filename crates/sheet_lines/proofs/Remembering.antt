-- The outcomes that a sheet's type lines say, and that an index of their places and the sheet stand for a memo of them. Assumes nothing.
use mathlib.Core.Path.{◌≡◌, refl, ap, ap₂, sym, ◌∙◌, subst}
use mathlib.Core.Bool.{Bool, true, false, ◌&&◌}
use mathlib.Core.Logic.{inr}
use mathlib.Core.List.{List, [], ◌∷◌}
use Prim.Native.Nat.{ℕ, zero, suc, ◌+◌, ◌-◌, ◌*◌, ◌≤◌, ◌<◌}
use native.Mathlib.Omega.{arith}
use native.Mathlib.Nat.{add-zero, zero-add}
use native.Mathlib.Decide.{ℕ_discrete}
use lib.Dec.{eqb, leb}
use lib.ListN.{length, get_or, take, drop}
use lib.Seq.{length-take-le, get_or-take, get_or-drop}
use borrow.Author.Tests.{leb-true, le-leb, eqb-true, eqb-false, eq-eqb, ne_eqb}
use Rattle.definition.specs.Base.{pick, every}
use Rattle.definition.specs.Layout.{count, types}
use Rattle.definition.specs.Tree.{Tree, node, nodes, flatten, head, most_nodes}
use Rattle.definition.specs.Ask.{ok, none, large, Outcome}
use Rattle.definition.specs.Resolve.{known, Memo, at}
use Rattle.definition.specs.Lines.{outcome_words}
use Rattle.definition.specs.Sheet.{are_trees}
use Rattle.laws.specs.Asks.{OnOk}
use Rattle.laws.specs.Cases.{both, never}
use Rattle.laws.specs.Every.{every_true}
use Rattle.laws.specs.Values.{Small}
use Rattle.laws.specs.Whole.{Good, flatten-length, nodes-some}
use Rattle.laws.specs.Readable.{whole-tree}
use Rattle.lines.specs.Memory.{Holds, Remembers}
use Rattle.records.specs.Tables.{Filled}
use Rattle.tree.specs.Extent.{tree_of}
use Rattle.tree.specs.Words.{Stand}
use Rattle.tree.proofs.Stands.{take-drop, stand-append}
use Rattle.sheet_lines.specs.declared.ends.Form.TheVariants.{Types}
use Rattle.sheet_lines.specs.Ends.{head_words, state_at, empty_head, nodes_end, head_end, line_end, line_at}
use Rattle.sheet_lines.specs.Index.{most_places, place_of}
use Rattle.sheet_lines.specs.Said.{tree_by, read_tree, said_at, said_by}
use Rattle.sheet_lines.specs.Small.{small_line, small_at}
use Rattle.sheet_lines.proofs.Ending.{tree-within}
use Rattle.sheet_lines.proofs.Reading.{two-stand}
use Rattle.sheet_lines.proofs.Placed.{FoundAt, line-ends, line-inside, types-end, filled-wide, index-place}
use Rattle.std.specs.Prelude.{None, Some}

-- ---- what a type's line says
pub record LineSays (s : List ℕ) (p e : ℕ) (o : Outcome) : Type 0 where
  pub stands : Stand s (p + 1) (outcome_words o) e
  pub good : OnOk Good o
  pub small : small_line s p ≡ true → OnOk Small o
  pub sized : OnOk Small o → small_line s p ≡ true

-- a tree is read back from its words
record TreeRead (words : List ℕ) (o : Outcome) : Type 0 where
  tree : Tree
  good : Good tree
  is : o ≡ ok tree
  words_are : words ≡ flatten tree

tree-read : (words : List ℕ) → are_trees words 1 ≡ true → TreeRead words (read_tree words)
unfolding read_tree tree_by
tree-read words e = go (are_trees words 1) refl e
  where
    go : (b : Bool) (q : are_trees words 1 ≡ b) → b ≡ true → TreeRead words (tree_by words b q)
    go true q h = let r = whole-tree words q in record { tree = r.tree; good = r.good; is = refl; words_are = r.is }
    go false q h = never h

head-name : (t : Tree) (w : List ℕ) → w ≡ flatten t → (head t).name ≡ get_or w 0 0
unfolding head flatten
head-name (node x ts) w i = sym (ap (λ (l : List ℕ). get_or l 0 0) i)

module _ (s : List ℕ) (p : ℕ) (h : p + 3 ≤ length s) where
  abbrev state : ℕ
  state = get_or s (p + 1) 0

  abbrev many : ℕ
  many = get_or s (p + 2) 0

  head-stands : Stand s (p + 1) (state ∷ many ∷ []) (p + 3)
  head-stands =
      let a : p + 1 + 1 ≡ p + 2 = omega arith in
      let b : p + 1 + 2 ≡ p + 3 = omega arith in
      rw (a, b) at (two-stand s (p + 1) (omega arith))

  -- ---- a tree
  module _ (z : state ≡ 0) (q : tree_of s (p + 3) many ≡ true) where
    abbrev words : List ℕ
    words = take (6 * many) (drop (p + 3) s)

    is-tree : (leb (6 * many) (length (drop (p + 3) s)) ≡ true) × (are_trees words 1 ≡ true)
    is-tree = both (leb (6 * many) (length (drop (p + 3) s))) (are_trees words 1) q

    long : length words ≡ 6 * many
    long = length-take-le (6 * many) (drop (p + 3) s) (leb-true (6 * many) (length (drop (p + 3) s)) is-tree.0)

    there : TreeRead words (read_tree words)
    there = tree-read words is-tree.1

    as_many : nodes there.tree ≡ many
    as_many = omega (arith, flatten-length there.tree, ap length there.words_are, long)

    tree-stands : Stand s (p + 1) (0 ∷ nodes there.tree ∷ flatten there.tree) (p + 3 + many * 6)
    tree-stands =
        let m : 6 * many ≡ many * 6 = omega arith in
        let y : Stand s (p + 3) (flatten there.tree) (p + 3 + many * 6) = record {
          long = omega (arith, flatten-length there.tree, as_many);
          fits = tree-within s (p + 3) many q;
          is = sym (take-drop (p + 3) (many * 6) s) ∙ ap (λ (k : ℕ). take k (drop (p + 3) s)) (sym m) ∙ there.words_are;
        } in
        subst (λ (ws : List ℕ). Stand s (p + 1) ws (p + 3 + many * 6)) (ap₂ (λ (a b : ℕ). a ∷ b ∷ flatten there.tree) z (sym as_many)) (stand-append head-stands y)

    top-name : (head there.tree).name ≡ get_or s (p + 3) 0
    top-name =
        let c : 0 < 6 * many = omega (arith, nodes-some there.tree, as_many) in
        head-name there.tree words there.words_are ∙ get_or-take (6 * many) (drop (p + 3) s) 0 0 c ∙ get_or-drop (p + 3) s 0 0
        ∙ ap (λ (k : ℕ). get_or s k 0) (add-zero (p + 3))

    tree-small : (leb many most_nodes ≡ true) × (eqb (get_or s (p + 3) 0) 0 ≡ true) → Small there.tree
    tree-small b =
        record { few = omega (arith, as_many, leb-true many most_nodes b.0); good = there.good; nameless = top-name ∙ eqb-true (get_or s (p + 3) 0) 0 b.1 }

    small-tree : Small there.tree → leb many most_nodes && eqb (get_or s (p + 3) 0) 0 ≡ true
    small-tree x = rw (le-leb many most_nodes (omega (arith, as_many, x.few)), eq-eqb (get_or s (p + 3) 0) 0 (sym top-name ∙ x.nameless))

    with-tree : LineSays s p (p + 3 + many * 6) (ok there.tree)
    unfolding outcome_words small_line
    with-tree =
        record {
          stands = tree-stands;
          good = there.good;
          small = λ e. tree-small (both (leb many most_nodes) (eqb (get_or s (p + 3) 0) 0) (rw z at e));
          sized = λ x. rw (eq-eqb state 0 z) (small-tree x);
        }

    tree-says : LineSays s p (p + 3 + many * 6) (said_at s p)
    unfolding said_at
    tree-says = rw (eq-eqb state 0 z, there.is) with-tree

  -- ---- no tree
  module _ (z : state ≡ 0 → ⊥) (q : empty_head Types state state many ≡ true) where
    no-nodes : (state ≤ 2) × (many ≡ 0)
    unfolding empty_head
    no-nodes = let b = both (leb state 2) (eqb many 0) q in (leb-true state 2 b.0, eqb-true many 0 b.1)

    state-stands : (k : ℕ) → state ≡ k → Stand s (p + 1) (k ∷ 0 ∷ []) (p + 3)
    state-stands k e = subst (λ (ws : List ℕ). Stand s (p + 1) ws (p + 3)) (ap₂ (λ (a b : ℕ). a ∷ b ∷ []) e no-nodes.1) head-stands

    state-says : LineSays s p (p + 3) (said_at s p)
    unfolding said_at outcome_words small_line
    state-says = rw (ne_eqb state 0 z) (go (ℕ_discrete state 1))
      where
        go : Dec (state ≡ 1) → LineSays s p (p + 3) (pick (eqb state 1) none large)
        go (yes e) = rw (eq-eqb state 1 e) (record { stands = state-stands 1 e; good = tt; small = λ i. tt; sized = λ i. rw (ne_eqb state 0 z) })
        go (no e) = rw (ne_eqb state 1 e) (record { stands = state-stands 2 (omega (arith, no-nodes.0, z, e)); good = tt; small = λ i. tt; sized = λ i. rw (ne_eqb state 0 z) })

  -- ---- either
  either-says : (e : ℕ) → nodes_end s (p + 3) state many (empty_head Types state state many) ≡ Some e → LineSays s p e (said_at s p)
  unfolding nodes_end
  either-says e i₀ = go (eqb state 0) refl i₀
    where
      tree : (b : Bool) → state ≡ 0 → tree_of s (p + 3) many ≡ b → pick b (Some (p + 3 + many * 6)) None ≡ Some e → LineSays s p e (said_at s p)
      tree true z q i = let n : p + 3 + many * 6 ≡ e = cc in subst (λ (d : ℕ). LineSays s p d (said_at s p)) n (tree-says z q)
      tree false z q i = let y : ◌≡◌ {A = ℕ} 0 1 = cc in absurd (omega arith)

      bare : (b : Bool) → (state ≡ 0 → ⊥) → empty_head Types state state many ≡ b → pick b (Some (p + 3)) None ≡ Some e → LineSays s p e (said_at s p)
      bare true z q i = let n : p + 3 ≡ e = cc in subst (λ (d : ℕ). LineSays s p d (said_at s p)) n (state-says z q)
      bare false z q i = let y : ◌≡◌ {A = ℕ} 0 1 = cc in absurd (omega arith)

      go : (b : Bool) → eqb state 0 ≡ b → pick b (pick (tree_of s (p + 3) many) (Some (p + 3 + many * 6)) None) (pick (empty_head Types state state many) (Some (p + 3)) None) ≡ Some e
          → LineSays s p e (said_at s p)
      go true q i = tree (tree_of s (p + 3) many) (eqb-true state 0 q) refl i
      go false q i = bare (empty_head Types state state many) (eqb-false state 0 q) refl i

pub line-says : (s : List ℕ) (p e : ℕ) → line_end Types s p ≡ Some e → LineSays s p e (said_at s p)
unfolding line_end head_end head_words state_at
line-says s p e i₀ = go (leb (p + 3) (length s)) refl i₀
  where
    go : (b : Bool) → leb (p + 3) (length s) ≡ b → pick b (head_end Types s p) None ≡ Some e → LineSays s p e (said_at s p)
    go true q i = let n : p + 3 - 1 ≡ p + 2 = omega arith in either-says s p (leb-true (p + 3) (length s) q) e (rw n at i)
    go false q i = let z : ◌≡◌ {A = ℕ} 0 1 = cc in absurd (omega arith)

-- ---- the memo of a sheet's types
memo_from : (ℕ → Outcome) → ℕ → ℕ → Memo
memo_from g i zero = []
memo_from g i (suc n) = known (g i) ∷ memo_from g (suc i) n

memo-long : (g : ℕ → Outcome) (i n : ℕ) → length (memo_from g i n) ≡ n
unfolding memo_from
memo-long g i zero = refl
memo-long g i (suc n) = ap suc (memo-long g (suc i) n)

memo-at : (g : ℕ → Outcome) (i n t : ℕ) → t < n → at (memo_from g i n) t ≡ known (g (i + t))
unfolding memo_from at
memo-at g i zero t l = absurd (omega arith)
memo-at g i (suc n) zero l = ap (λ (k : ℕ). known (g k)) (sym (add-zero i))
memo-at g i (suc n) (suc t) l = let e : suc i + t ≡ i + suc t = omega arith in memo-at g (suc i) n t (omega arith) ∙ ap (λ (k : ℕ). known (g k)) e

pub sheet_memo : List ℕ → ℕ → Memo
sheet_memo s n = memo_from (said_by s) 0 n

pub sheet-long : (s : List ℕ) (n : ℕ) → length (sheet_memo s n) ≡ n
unfolding sheet_memo
sheet-long s n = memo-long (said_by s) 0 n

pub sheet-knows : (s : List ℕ) (n t : ℕ) → t < n → at (sheet_memo s n) t ≡ known (said_by s t)
unfolding sheet_memo
sheet-knows s n t l = memo-at (said_by s) 0 n t l ∙ ap (λ (k : ℕ). known (said_by s k)) (zero-add t)

-- ---- the index and the sheet stand for it
module _ {f s : List ℕ} {v c : ℕ} (x : FoundAt f s v c) where
  pub said-line : (t : ℕ) → t < count f types → LineSays s (line_at Types s 1 t) (line_at Types s 1 (suc t)) (said_by s t)
  unfolding said_by
  said-line t l = line-says s (line_at Types s 1 t) (line_at Types s 1 (suc t)) (line-ends Types s 1 (types-end x) t l)

  pub said-sized : (t : ℕ) → t < count f types → OnOk Small (said_by s t) → small_at s t ≡ true
  unfolding small_at
  said-sized t l k = (said-line t l).sized k

  pub said-small : every (small_at s) (count f types) ≡ true → (t : ℕ) → t < count f types → OnOk Small (said_by s t)
  unfolding small_at
  said-small e t l = (said-line t l).small (every_true (small_at s) (count f types) e t l)

  pub sheet-remembers : {lent index : List ℕ} → Filled (place_of s) (count f types) lent index → length s ≤ most_places
      → every (small_at s) (count f types) ≡ true → Remembers index s (length s) (sheet_memo s (count f types))
  sheet-remembers {lent} {index} g h e =
      record {
        wide = rw (sheet-long s (count f types)) (filled-wide g);
        within = omega arith;
        holds = λ t l. holds t (rw (sheet-long s (count f types)) at l);
      }
    where
      holds : (t : ℕ) → t < count f types → Holds (get_or index t 0) s (length s) (at (sheet_memo s (count f types)) t)
      holds t l =
          rw (sheet-knows s (count f types) t l)
          (inr (record {
            place = line_at Types s 1 t;
            is = index-place x g h t l;
            line = record { stop = line_at Types s 1 (suc t); stands = (said-line t l).stands; inside = (line-inside Types s 1 (types-end x) t l).1 };
            small = said-small e t l;
          }))
