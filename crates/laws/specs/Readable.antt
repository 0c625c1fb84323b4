-- Words that are one whole tree are the words of one whole tree only, so a tree can be read back from its words. Assumes nothing.
use Rattle.std.specs.Prelude.{◌≡◌, refl, true, false, ◌&&◌, List, [], ◌∷◌, ◌++◌, ℕ, zero, suc, ◌+◌, leb, get_or, drop}
use Rattle.std.proofs.Common.{ap, ap₂, sym, ◌∙◌, append_assoc, append-nil, arith, zero-add, leb-true, eqb-true}
use Rattle.definition.specs.Tree.{Node, Tree, Trees, node, tnil, tcons, many, flatten, flatten_all, join}
use Rattle.definition.specs.Sheet.{on_more, parts_of, are_trees}
use Rattle.laws.specs.Cases.{never, both}
use Rattle.laws.specs.Whole.{Good, Goods, flatten_all-join}

-- ---- the first so many of some trees, and the others
record Parted (p j : ℕ) (ts : Trees) : Type 0 where
  first : Trees
  other : Trees
  is : ts ≡ join first other
  first_good : Goods first
  other_good : Goods other
  first_many : many first ≡ p
  other_many : many other ≡ j

parted : (p j : ℕ) (ts : Trees) → Goods ts → many ts ≡ p + j → Parted p j ts
unfolding join many Good
parted zero j ts g n = record { first = tnil; other = ts; is = refl; first_good = tt; other_good = g; first_many = refl; other_many = rw zero-add at n }
parted (suc p) j tnil g n = absurd (omega arith)
parted (suc p) j (tcons t ts) g n =
    let r = parted p j ts g.1 (omega arith) in
    record {
      first = tcons t r.first;
      other = r.other;
      is = ap (tcons t) r.is;
      first_good = (g.0, r.first_good);
      other_good = r.other_good;
      first_many = ap suc r.first_many;
      other_many = r.other_many;
    }

-- ---- words that pass the test are those of trees
pub record Holding (l : List ℕ) (k : ℕ) : Type 0 where
  pub trees : Trees
  pub good : Goods trees
  pub is_many : many trees ≡ k
  pub is : l ≡ flatten_all trees

holding-node : (h : Node) (l : List ℕ) (k : ℕ) → leb h.kind 14 ≡ true → Holding l (parts_of h.kind h.low + k)
    → Holding (h.name ∷ h.kind ∷ h.sign ∷ h.low ∷ h.high ∷ h.width ∷ l) (suc k)
unfolding Good flatten many
holding-node h l k b r =
    let p = parted (parts_of h.kind h.low) k r.trees r.good r.is_many in
    let i : l ≡ flatten_all p.first ++ flatten_all p.other = r.is ∙ ap flatten_all p.is ∙ flatten_all-join p.first p.other in
    record {
      trees = tcons (node h p.first) p.other;
      good = ((leb-true h.kind 14 b, p.first_many, p.first_good), p.other_good);
      is_many = ap suc p.other_many;
      is = rw i;
    }

holding-long : (h : Node) (l : List ℕ) (k : ℕ) → ((j : ℕ) → are_trees l j ≡ true → Holding l j)
    → on_more k false (λ j. leb h.kind 14 && are_trees l (parts_of h.kind h.low + j)) ≡ true
    → Holding (h.name ∷ h.kind ∷ h.sign ∷ h.low ∷ h.high ∷ h.width ∷ l) k
holding-long h l zero ih e = never e
holding-long h l (suc k) ih e =
    let r = both (leb h.kind 14) (are_trees l (parts_of h.kind h.low + k)) e in
    holding-node h l k r.0 (ih (parts_of h.kind h.low + k) r.1)

pub holding : (l : List ℕ) (k : ℕ) → are_trees l k ≡ true → Holding l k
unfolding are_trees flatten Good many
holding [] k e = record { trees = tnil; good = tt; is_many = sym (eqb-true k 0 e); is = refl }
holding (a ∷ []) k e = never e
holding (a ∷ b ∷ []) k e = never e
holding (a ∷ b ∷ c ∷ []) k e = never e
holding (a ∷ b ∷ c ∷ d ∷ []) k e = never e
holding (a ∷ b ∷ c ∷ d ∷ g ∷ []) k e = never e
holding (a ∷ b ∷ c ∷ d ∷ g ∷ h ∷ l) k e =
    holding-long (record { name = a; kind = b; sign = c; low = d; high = g; width = h }) l k (λ j q. holding l j q) e

pub record HoldsTree (l : List ℕ) : Type 0 where
  pub tree : Tree
  pub good : Good tree
  pub is : l ≡ flatten tree

pub whole-tree : (l : List ℕ) → are_trees l 1 ≡ true → HoldsTree l
unfolding Good flatten many
whole-tree l e = let r = holding l 1 e in one r.trees r.good r.is_many r.is
  where
    one : (ts : Trees) → Goods ts → many ts ≡ 1 → l ≡ flatten_all ts → HoldsTree l
    one tnil g n i = absurd (omega arith)
    one (tcons t tnil) g n i = record { tree = t; good = g.0; is = i ∙ append-nil (flatten t) }
    one (tcons t (tcons u ts)) g n i = absurd (omega arith)

-- ---- trees whose words begin alike are the same
abbrev words_of : Node → List ℕ → List ℕ
words_of h l = h.name ∷ h.kind ∷ h.sign ∷ h.low ∷ h.high ∷ h.width ∷ l

node-same : (h j : Node) (l m : List ℕ) → words_of h l ≡ words_of j m → h ≡ j
node-same h j l m e =
    let at : (k : ℕ) → get_or (words_of h l) k 0 ≡ get_or (words_of j m) k 0 = λ k. ap (λ (x : List ℕ). get_or x k 0) e in
    λ i. record { name = at 0 i; kind = at 1 i; sign = at 2 i; low = at 3 i; high = at 4 i; width = at 5 i }

mutual
  unfolding flatten Good many

  pub flatten-same : (t u : Tree) (l m : List ℕ) → Good t → Good u → flatten t ++ l ≡ flatten u ++ m → (t ≡ u) × (l ≡ m)
  flatten-same (node h ts) (node j us) l m g k e =
      let s : h ≡ j = node-same h j (flatten_all ts ++ l) (flatten_all us ++ m) e in
      let n : many ts ≡ many us = g.1 ∙ ap (λ (x : Node). parts_of x.kind x.low) s ∙ sym k.1 in
      let r = flatten_all-same ts us l m g.2 k.2 n (ap (drop 6) e) in
      (ap₂ node s r.0, r.1)

  pub flatten_all-same : (ts us : Trees) (l m : List ℕ) → Goods ts → Goods us → many ts ≡ many us → flatten_all ts ++ l ≡ flatten_all us ++ m → (ts ≡ us) × (l ≡ m)
  flatten_all-same tnil tnil l m g k n e = (refl, e)
  flatten_all-same tnil (tcons u us) l m g k n e = absurd (omega arith)
  flatten_all-same (tcons t ts) tnil l m g k n e = absurd (omega arith)
  flatten_all-same (tcons t ts) (tcons u us) l m g k n e =
      let q : flatten t ++ (flatten_all ts ++ l) ≡ flatten u ++ (flatten_all us ++ m) =
      sym (append_assoc (flatten t) (flatten_all ts) l) ∙ e ∙ append_assoc (flatten u) (flatten_all us) m in
      let r = flatten-same t u (flatten_all ts ++ l) (flatten_all us ++ m) g.0 k.0 q in
      let s = flatten_all-same ts us l m g.1 k.1 (omega arith) r.1 in
      (ap₂ tcons r.0 s.0, s.1)

pub flatten-only : (t u : Tree) → Good t → Good u → flatten t ≡ flatten u → t ≡ u
flatten-only t u g k e = (flatten-same t u [] [] g k (append-nil (flatten t) ∙ e ∙ sym (append-nil (flatten u)))).0
