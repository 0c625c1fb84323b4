-- The walk and the definition's trees, both ways: it ends where the words up to there are whole trees, and only there. Assumes nothing.
use mathlib.Core.Path.{◌≡◌, refl, ap, sym, ◌∙◌}
use mathlib.Core.Bool.{Bool, true, false, ◌&&◌}
use mathlib.Core.List.{List, [], ◌∷◌, ◌++◌, append-nil}
use Prim.Native.Nat.{ℕ, zero, suc, ◌+◌, ◌-◌, ◌*◌, ◌≤◌}
use native.Mathlib.Omega.{arith}
use native.Mathlib.Nat.{add-zero}
use lib.Dec.{leb, eqb}
use lib.ListN.{length, take, drop, length-drop}
use lib.Seq.{take_all, length-take-le}
use borrow.Author.Tests.{eqb-true, eq-eqb, ne_eqb}
use Rattle.std.specs.Prelude.{Some, None}
use Rattle.definition.specs.Base.{pick}
use Rattle.definition.specs.Tree.{Node, Tree, Trees, many, nodes, flatten, flatten_all}
use Rattle.definition.specs.Sheet.{on_more, parts_of, are_trees}
use Rattle.laws.specs.Cases.{never, both}
use Rattle.laws.specs.Whole.{Good, Goods, flatten-length, trees-over_all, tree-whole, nodes-some}
use Rattle.laws.specs.Readable.{holding, whole-tree}
use Rattle.tree.specs.Extent.{on_count, walk, after_of, whole_of}
use Rattle.tree.specs.Words.{Stand}
use Rattle.tree.proofs.Walks.{walk_none}
use Rattle.tree.proofs.Stands.{stand-rest, take-drop}

-- ---- words that are trees are walked over, whatever follows them
module _ (h : Node) (l m : List ℕ) (ih : (k at : ℕ) → are_trees l k ≡ true → walk (l ++ m) k at ≡ Some (at + length l)) where
  over-node : (k at : ℕ) → on_more k false (λ j. leb h.kind 14 && are_trees l (parts_of h.kind h.low + j)) ≡ true
      → on_count k (Some at) (λ j. pick (leb h.kind 14) (walk (l ++ m) (parts_of h.kind h.low + j) (at + 6)) None) ≡ Some (at + suc (suc (suc (suc (suc (suc (length l)))))))
  over-node zero at e = never e
  over-node (suc k) at e =
      let r = both (leb h.kind 14) (are_trees l (parts_of h.kind h.low + k)) e in
      let n : at + 6 + length l ≡ at + suc (suc (suc (suc (suc (suc (length l)))))) = omega arith in
      rw r.0 (ih (parts_of h.kind h.low + k) (at + 6) r.1 ∙ ap Some n)

pub trees-walk : (l m : List ℕ) (k at : ℕ) → are_trees l k ≡ true → walk (l ++ m) k at ≡ Some (at + length l)
unfolding walk are_trees
trees-walk [] m k at e = rw (eqb-true k 0 e, add-zero) (walk_none m at)
trees-walk (a ∷ []) m k at e = never e
trees-walk (a ∷ b ∷ []) m k at e = never e
trees-walk (a ∷ b ∷ c ∷ []) m k at e = never e
trees-walk (a ∷ b ∷ c ∷ d ∷ []) m k at e = never e
trees-walk (a ∷ b ∷ c ∷ d ∷ f ∷ []) m k at e = never e
trees-walk (a ∷ b ∷ c ∷ d ∷ f ∷ g ∷ l) m k at e =
    over-node (record { name = a; kind = b; sign = c; low = d; high = f; width = g }) l m (λ j p q. trees-walk l m j p q) k at e

-- ---- where the walk ends, the words up to there are trees
pub record Walked (l : List ℕ) (k at e : ℕ) : Type 0 where
  pub starts : at ≤ e
  pub inside : e ≤ at + length l
  pub are : are_trees (take (e - at) l) k ≡ true

not-ends : {X : Type 0} (e : ℕ) → None ≡ Some e → X
not-ends e q = cc

walked_none : (l : List ℕ) (at e : ℕ) → Some at ≡ Some e → Walked l 0 at e
unfolding are_trees
walked_none l at e q =
    let r : at ≡ e = cc in
    let n : e - at ≡ 0 = omega arith in
    record { starts = omega arith; inside = omega arith; are = rw n refl }

-- too few words for a node
walked-short : (l : List ℕ) (k at e : ℕ) → on_count k (Some at) (λ j. None) ≡ Some e → Walked l k at e
walked-short l zero at e q = walked_none l at e q
walked-short l (suc k) at e q = not-ends e q

module _ (h : Node) (l : List ℕ) (e : ℕ) (ih : (k at : ℕ) → walk l k at ≡ Some e → Walked l k at e) where
  abbrev words : List ℕ
  words = h.name ∷ h.kind ∷ h.sign ∷ h.low ∷ h.high ∷ h.width ∷ l

  walked-kind : (t : Bool) (k at : ℕ) → leb h.kind 14 ≡ t → pick t (walk l (parts_of h.kind h.low + k) (at + 6)) None ≡ Some e → Walked words (suc k) at e
  unfolding are_trees
  walked-kind true k at b q =
      let w = ih (parts_of h.kind h.low + k) (at + 6) q in
      let n : e - at ≡ suc (suc (suc (suc (suc (suc (e - (at + 6))))))) = omega (arith, w.starts) in
      record { starts = omega (arith, w.starts); inside = omega (arith, w.inside); are = rw (n, b) w.are }
  walked-kind false k at b q = not-ends e q

  walked-long : (k at : ℕ) → on_count k (Some at) (λ j. pick (leb h.kind 14) (walk l (parts_of h.kind h.low + j) (at + 6)) None) ≡ Some e → Walked words k at e
  walked-long zero at q = walked_none words at e q
  walked-long (suc k) at q = walked-kind (leb h.kind 14) k at refl q

pub walked : (l : List ℕ) (k at e : ℕ) → walk l k at ≡ Some e → Walked l k at e
unfolding walk
walked [] k at e q = walked-short _ k at e q
walked (a ∷ []) k at e q = walked-short _ k at e q
walked (a ∷ b ∷ []) k at e q = walked-short _ k at e q
walked (a ∷ b ∷ c ∷ []) k at e q = walked-short _ k at e q
walked (a ∷ b ∷ c ∷ d ∷ []) k at e q = walked-short _ k at e q
walked (a ∷ b ∷ c ∷ d ∷ f ∷ []) k at e q = walked-short _ k at e q
walked (a ∷ b ∷ c ∷ d ∷ f ∷ g ∷ l) k at e q =
    walked-long (record { name = a; kind = b; sign = c; low = d; high = f; width = g }) l e (λ j p. walked l j p e) k at q

-- ---- so it is said of slices: whole trees stand there, up to the answer
pub after-there : (s : List ℕ) (at : ℕ) (ts : Trees) (e : ℕ) → Goods ts → Stand s at (flatten_all ts) e → after_of s at (many ts) ≡ Some e
unfolding after_of are_trees
after-there s at ts e g x =
    let a : are_trees (flatten_all ts) (many ts) ≡ true = rw (← append-nil (flatten_all ts), ← add-zero (many ts)) (trees-over_all ts g [] 0) in
    rw (stand-rest x) (trees-walk (flatten_all ts) (drop e s) (many ts) at a ∙ ap Some x.long)

pub whole-there : (s : List ℕ) (at : ℕ) (t : Tree) (e : ℕ) → Good t → Stand s at (flatten t) e → whole_of s at ≡ Some e
unfolding after_of
whole-there s at t e g x = rw (stand-rest x) (trees-walk (flatten t) (drop e s) 1 at (tree-whole t g) ∙ ap Some x.long)

-- the words up to an end
module _ (s : List ℕ) (at k e : ℕ) (q : after_of s at k ≡ Some e) where
  abbrev up_to : List ℕ
  up_to = take (e - at) (drop at s)

  are-up_to : Walked (drop at s) k at e
  unfolding after_of
  are-up_to = walked (drop at s) k at e q

  up-long : length up_to ≡ e - at
  up-long = length-take-le (e - at) (drop at s) (omega (arith, are-up_to.inside))

  up-stands : at ≤ length s → Stand s at up_to e
  up-stands h =
      let w = are-up_to in
      let n : at + (e - at) ≡ e = omega (arith, w.starts) in
      record { long = rw up-long n; fits = omega (arith, simp length-drop at w.inside); is = sym (take-drop at (e - at) s ∙ rw n) }

-- the trees that end there
pub record TreesAt (s : List ℕ) (at k e : ℕ) : Type 0 where
  pub trees : Trees
  pub good : Goods trees
  pub is_many : many trees ≡ k
  pub stands : Stand s at (flatten_all trees) e

pub after-trees : (s : List ℕ) (at k e : ℕ) → at ≤ length s → after_of s at k ≡ Some e → TreesAt s at k e
after-trees s at k e h q =
    let r = holding (up_to s at k e q) k (are-up_to s at k e q).are in
    record { trees = r.trees; good = r.good; is_many = r.is_many; stands = rw r.is at (up-stands s at k e q h) }

-- the tree that ends there
pub record TreeAt (s : List ℕ) (at e : ℕ) : Type 0 where
  pub tree : Tree
  pub good : Good tree
  pub stands : Stand s at (flatten tree) e

pub ends-tree : (s : List ℕ) (at e : ℕ) → whole_of s at ≡ Some e → TreeAt s at e
ends-tree s at e q =
    let r = whole-tree (up_to s at 1 e q) (are-up_to s at 1 e q).are in
    let n : 6 * nodes r.tree ≡ e - at = sym (flatten-length r.tree) ∙ sym (ap length r.is) ∙ up-long s at 1 e q in
    let h : at ≤ length s = omega (arith, n, nodes-some r.tree, (are-up_to s at 1 e q).inside, length-drop at s) in
    record { tree = r.tree; good = r.good; stands = rw r.is at (up-stands s at 1 e q h) }

-- no tree is where the answer is none
pub not-tree : (s : List ℕ) (at : ℕ) (t : Tree) (e : ℕ) → whole_of s at ≡ None → Good t → Stand s at (flatten t) e → ⊥
not-tree s at t e q g x = not-ends e (sym q ∙ whole-there s at t e g x)

-- a tree has a node, and lies within the words
pub ends-in : (s : List ℕ) (at e : ℕ) → whole_of s at ≡ Some e → (at + 6 ≤ e) × (e ≤ length s)
ends-in s at e q =
    let r = ends-tree s at e q in
    (omega (arith, nodes-some r.tree, flatten-length r.tree, r.stands.long), r.stands.fits)

-- ---- all of some words are one whole tree
pub ends-all : (l : List ℕ) (e : ℕ) → whole_of l 0 ≡ Some e → eqb e (length l) ≡ are_trees l 1
unfolding after_of
ends-all l e q = go (are_trees l 1) refl
  where
    go : (b : Bool) → are_trees l 1 ≡ b → eqb e (length l) ≡ b
    go true a =
        let w : Some e ≡ Some (0 + length l) = sym q ∙ ap (λ (x : List ℕ). walk x 1 0) (sym (append-nil l)) ∙ trees-walk l [] 1 0 a in
        let n : e ≡ 0 + length l = cc in
        eq-eqb e (length l) (omega arith)
    go false a = ne_eqb e (length l) (λ n.
        let w = walked l 1 0 e q in
        let m : take (e - 0) l ≡ l = take_all (e - 0) l (omega arith) in
        never (sym a ∙ ap (λ (x : List ℕ). are_trees x 1) (sym m) ∙ w.are))

pub not-all : (l : List ℕ) → whole_of l 0 ≡ None → are_trees l 1 ≡ false
unfolding after_of
not-all l q = go (are_trees l 1) refl
  where
    go : (b : Bool) → are_trees l 1 ≡ b → b ≡ false
    go true a =
        let w : None ≡ Some (0 + length l) = sym q ∙ ap (λ (x : List ℕ). walk x 1 0) (sym (append-nil l)) ∙ trees-walk l [] 1 0 a in
        not-ends (0 + length l) w
    go false a = refl
