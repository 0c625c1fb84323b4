-- Whole trees: kinds up to 14, and as many parts as each node says; and what the functions on trees do to them. Assumes nothing.
use Rattle.std.specs.Prelude.{◌≡◌, refl, true, List, [], ◌++◌, eqb, length}
use Rattle.std.proofs.Common.{ap, sym, ◌∙◌, append_assoc, append-nil, arith, add-zero, zero-add, suc-add, suc-mul, zero-mul, le-leb, length-append}
use Prim.Native.Nat.{ℕ, zero, suc, ◌+◌, ◌-◌, ◌*◌, ◌≤◌}
use Rattle.definition.specs.Tree.{Tree, Trees, node, tnil, tcons, head, parts, many, nodes, nodes_in, flatten, flatten_all, named, headed, join, one, times, rest, replaced}
use Rattle.definition.specs.Iec.{filled, assigned}
use Rattle.definition.specs.Sheet.{parts_of, are_trees}
use Rattle.laws.specs.Cases.{on-pick}

unfoldable mutual
  pub Good : Tree → Type 0
  Good (node h ts) = (h.kind ≤ 14) × (many ts ≡ parts_of h.kind h.low) × Goods ts

  pub Goods : Trees → Type 0
  Goods tnil = Unit {0}
  Goods (tcons t ts) = Good t × Goods ts

-- ---- words
mutual
  unfolding flatten nodes

  pub flatten-length : (t : Tree) → length (flatten t) ≡ 6 * nodes t
  flatten-length (node h ts) = omega (arith, flatten_all-length ts)

  pub flatten_all-length : (ts : Trees) → length (flatten_all ts) ≡ 6 * nodes_in ts
  flatten_all-length tnil = refl
  flatten_all-length (tcons t ts) = simp length-append (omega (arith, flatten-length t, flatten_all-length ts))

-- the test goes over a tree
mutual
  unfolding are_trees flatten Good many

  pub trees-over : (t : Tree) → Good t → (l : List ℕ) (k : ℕ) → are_trees (flatten t ++ l) (suc k) ≡ are_trees l k
  trees-over (node h ts) g l k = rw (le-leb h.kind 14 g.0, ← g.1) (trees-over_all ts g.2 l k)

  pub trees-over_all : (ts : Trees) → Goods ts → (l : List ℕ) (k : ℕ) → are_trees (flatten_all ts ++ l) (many ts + k) ≡ are_trees l k
  trees-over_all tnil g l k = rw zero-add
  trees-over_all (tcons t ts) g l k = rw (suc-add, append_assoc) (trees-over t g.0 (flatten_all ts ++ l) (many ts + k) ∙ trees-over_all ts g.1 l k)

pub tree-whole : (t : Tree) → Good t → are_trees (flatten t) 1 ≡ true
unfolding are_trees
tree-whole t g = rw (← append-nil (flatten t)) (trees-over t g [] 0)

-- ---- how many nodes
pub nodes-some : (t : Tree) → 1 ≤ nodes t
unfolding nodes
nodes-some (node h ts) = omega arith

pub nodes-parts : (t : Tree) → nodes t ≡ suc (nodes_in (parts t))
unfolding nodes parts
nodes-parts (node h ts) = refl

pub nodes-named : (name : ℕ) (t : Tree) → nodes (named name t) ≡ nodes t
unfolding nodes named
nodes-named name (node h ts) = refl

pub nodes-headed : (kind : ℕ) (ts : Trees) → nodes (headed kind ts) ≡ suc (nodes_in ts)
unfolding nodes headed
nodes-headed kind ts = refl

pub nodes_in-one : (t : Tree) → nodes_in (one t) ≡ nodes t
unfolding nodes one
nodes_in-one t = add-zero (nodes t)

pub nodes_in-join : (ts us : Trees) → nodes_in (join ts us) ≡ nodes_in ts + nodes_in us
unfolding nodes join
nodes_in-join tnil us = sym (zero-add (nodes_in us))
nodes_in-join (tcons t ts) us = omega (arith, nodes_in-join ts us)

pub nodes_in-times : (k : ℕ) (ts : Trees) → nodes_in (times k ts) ≡ k * nodes_in ts
unfolding nodes times
nodes_in-times zero ts = sym (zero-mul (nodes_in ts))
nodes_in-times (suc k) ts = rw (nodes_in-join, nodes_in-times k ts, suc-mul) (omega arith)

pub nodes_in-rest : (k : ℕ) (ts : Trees) → nodes_in (rest k ts) ≤ nodes_in ts
unfolding nodes rest
nodes_in-rest zero ts = omega arith
nodes_in-rest (suc k) tnil = omega arith
nodes_in-rest (suc k) (tcons t ts) = omega (arith, nodes_in-rest k ts)

-- ---- how many
pub many-one : (t : Tree) → many (one t) ≡ 1
unfolding many one
many-one t = refl

pub many-join : (ts us : Trees) → many (join ts us) ≡ many ts + many us
unfolding many join
many-join tnil us = sym (zero-add (many us))
many-join (tcons t ts) us = omega (arith, many-join ts us)

pub many-times : (k : ℕ) (ts : Trees) → many (times k ts) ≡ k * many ts
unfolding many times
many-times zero ts = sym (zero-mul (many ts))
many-times (suc k) ts = rw (many-join, many-times k ts, suc-mul) (omega arith)

pub many-rest : (k : ℕ) (ts : Trees) → many (rest k ts) ≡ many ts - k
unfolding many rest
many-rest zero ts = omega arith
many-rest (suc k) tnil = omega arith
many-rest (suc k) (tcons t ts) = omega (arith, many-rest k ts)

pub many-replaced : (name : ℕ) (u : Tree) (ts : Trees) → many (replaced name u ts) ≡ many ts
unfolding many replaced
many-replaced name u tnil = refl
many-replaced name u (tcons t ts) =
    on-pick (λ us. many us ≡ suc (many ts)) (eqb (head t).name name) (tcons u ts) (tcons t (replaced name u ts)) (λ e. refl)
    (λ e. ap suc (many-replaced name u ts))

pub many-assigned : (name : ℕ) (t : Tree) (ts : Trees) → many (assigned name t ts) ≡ many ts
unfolding assigned
many-assigned name t ts = many-replaced name (named name t) ts

pub flatten_all-one : (t : Tree) → flatten_all (one t) ≡ flatten t
unfolding flatten one
flatten_all-one t = append-nil (flatten t)

pub flatten_all-join : (ts us : Trees) → flatten_all (join ts us) ≡ flatten_all ts ++ flatten_all us
unfolding flatten join
flatten_all-join tnil us = refl
flatten_all-join (tcons t ts) us = rw (flatten_all-join ts us, append_assoc)

-- ---- what keeps trees whole
pub good-parts : (t : Tree) → Good t → Goods (parts t)
unfolding Good parts
good-parts (node h ts) g = g.2

pub good-named : (name : ℕ) (t : Tree) → Good t → Good (named name t)
unfolding Good named
good-named name (node h ts) g = g

-- ---- lists of trees whose every tree is an R
pub record Lists (R : Tree → Type 0) (L : Trees → Type 0) : Type 0 where
  pub none : L tnil
  pub both : (t : Tree) (ts : Trees) → R t → L ts → L (tcons t ts)
  pub first : (t : Tree) (ts : Trees) → L (tcons t ts) → R t
  pub others : (t : Tree) (ts : Trees) → L (tcons t ts) → L ts

module _ {R : Tree → Type 0} {L : Trees → Type 0} (l : Lists R L) where
  pub lists-one : (t : Tree) → R t → L (one t)
  unfolding one
  lists-one t h = l.both t tnil h l.none

  pub lists-join : (ts us : Trees) → L ts → L us → L (join ts us)
  unfolding join
  lists-join tnil us g h = h
  lists-join (tcons t ts) us g h = l.both t (join ts us) (l.first t ts g) (lists-join ts us (l.others t ts g) h)

  pub lists-times : (k : ℕ) (ts : Trees) → L ts → L (times k ts)
  unfolding times
  lists-times zero ts g = l.none
  lists-times (suc k) ts g = lists-join ts (times k ts) g (lists-times k ts g)

  pub lists-rest : (k : ℕ) (ts : Trees) → L ts → L (rest k ts)
  unfolding rest
  lists-rest zero ts g = g
  lists-rest (suc k) tnil g = g
  lists-rest (suc k) (tcons t ts) g = lists-rest k ts (l.others t ts g)

  pub lists_filled : (ts us : Trees) → L ts → L us → L (filled ts us)
  unfolding filled
  lists_filled ts us g h = lists-join us (rest (many us) ts) h (lists-rest (many us) ts g)

  pub lists-replaced : (name : ℕ) (u : Tree) (ts : Trees) → R u → L ts → L (replaced name u ts)
  unfolding replaced
  lists-replaced name u tnil h g = g
  lists-replaced name u (tcons t ts) h g =
      on-pick L (eqb (head t).name name) (tcons u ts) (tcons t (replaced name u ts)) (λ e. l.both u ts h (l.others t ts g))
      (λ e. l.both t (replaced name u ts) (l.first t ts g) (lists-replaced name u ts h (l.others t ts g)))

pub goods-lists : Lists Good Goods
unfolding Good
goods-lists = record { none = tt; both = λ t ts g h. (g, h); first = λ t ts g. g.0; others = λ t ts g. g.1 }

pub goods-one : (t : Tree) → Good t → Goods (one t)
goods-one = lists-one goods-lists

pub goods-join : (ts us : Trees) → Goods ts → Goods us → Goods (join ts us)
goods-join = lists-join goods-lists

pub goods-times : (k : ℕ) (ts : Trees) → Goods ts → Goods (times k ts)
goods-times = lists-times goods-lists

pub goods-rest : (k : ℕ) (ts : Trees) → Goods ts → Goods (rest k ts)
goods-rest = lists-rest goods-lists

pub goods-filled : (ts us : Trees) → Goods ts → Goods us → Goods (filled ts us)
goods-filled = lists_filled goods-lists

pub goods-replaced : (name : ℕ) (u : Tree) (ts : Trees) → Good u → Goods ts → Goods (replaced name u ts)
goods-replaced = lists-replaced goods-lists

pub goods-assigned : (name : ℕ) (t : Tree) (ts : Trees) → Good t → Goods ts → Goods (assigned name t ts)
unfolding assigned
goods-assigned name t ts h g = goods-replaced name (named name t) ts (good-named name t h) g
