-- Completing an initializer keeps its tree's size: the tree in the slot has as many nodes, is whole and has no name. Assumes nothing.
use Rattle.std.specs.Prelude.{◌≡◌, Bool, true, false, ◌&&◌, ◌||◌, List}
use Rattle.std.proofs.Math.Path.{refl, sym}
use Rattle.std.proofs.Common.{◌∙◌, arith, lit≤}
use Prim.Native.Nat.{ℕ, ◌≤◌}
use Rattle.std.proofs.Math.Dec.{eqb}
use borrow.Author.Tests.{eqb-true}
use Rattle.definition.specs.Base.{pick}
use Rattle.definition.specs.Layout.{word, variables, initializers, expressions}
use Rattle.definition.specs.Records.{initializer_kind}
use Rattle.definition.specs.Tree.{Node, Tree, Trees, node, tnil, tcons, head, many, nodes, nodes_in}
use Rattle.definition.specs.Ask.{ok}
use Rattle.definition.specs.Complete.{Completed, completed, left, written_node, written, written_all, written_parts, as_signed, slot_takes, complete, retyped, or_retyped, completion}
use Rattle.definition.specs.Sheet.{parts_of}
use Rattle.laws.specs.Cases.{both, either, on-pick, on-link}
use Rattle.laws.specs.Whole.{Good, Goods}
use Rattle.laws.specs.Values.{Small, parts_none}

-- a tree in the place of another
pub record InPlaceOf (t u : Tree) : Type 0 where
  pub same_nodes : nodes u ≡ nodes t
  pub good : Good u
  pub nameless : (head u).name ≡ 0

-- where an initializer is completed, its tree is a P
abbrev pub OnCompleted : (Tree → Type 0) → Completed → Type 0
OnCompleted P (completed i u) = P u
OnCompleted P left = Unit {0}

-- ---- written trees
-- a node's kind stays below 15, and it says as many parts as before
written-kind : (h : Node) (null expression : Bool) → h.kind ≤ 14 → pick null 10 (pick expression 12 h.kind) ≤ 14
written-kind h true expression k = lit≤ tt
written-kind h false true k = lit≤ tt
written-kind h false false k = k

written-parts : (h : Node) (null expression : Bool) → (null ≡ true → h.kind ≤ 12) → (expression ≡ true → h.kind ≤ 12)
    → parts_of h.kind h.low ≡ parts_of (pick null 10 (pick expression 12 h.kind)) (pick null 0 h.low)
written-parts h true expression p q = parts_none h.kind h.low (p refl) ∙ sym (parts_none 10 0 (lit≤ tt))
written-parts h false true p q = parts_none h.kind h.low (q refl) ∙ sym (parts_none 12 h.low (lit≤ tt))
written-parts h false false p q = refl

expression-kind : (h : Node) → eqb h.kind 11 || eqb h.kind 12 ≡ true → h.kind ≤ 12
expression-kind h e =
    either (eqb h.kind 11) (eqb h.kind 12) e (λ q. omega (arith, eqb-true h.kind 11 q)) (λ q. omega (arith, eqb-true h.kind 12 q))

null-kind : (h : Node) (b : Bool) → eqb h.kind 12 && b ≡ true → h.kind ≤ 12
null-kind h b e = omega (arith, eqb-true h.kind 12 (both (eqb h.kind 12) b e).0)

module _ (f : List ℕ) where
  pub many-written : (ts : Trees) → many (written_all f ts) ≡ many ts
  unfolding many written
  many-written tnil = refl
  many-written (tcons t ts) = rw (many-written ts)

  mutual
    unfolding nodes written

    pub nodes-written : (t : Tree) → nodes (written f t) ≡ nodes t
    nodes-written (node h ts) = rw (nodes_in-written ts)

    pub nodes_in-written : (ts : Trees) → nodes_in (written_all f ts) ≡ nodes_in ts
    nodes_in-written tnil = refl
    nodes_in-written (tcons t ts) = rw (nodes-written t, nodes_in-written ts)

  mutual
    unfolding Good written written_node

    pub good-written : (t : Tree) → Good t → Good (written f t)
    good-written (node h ts) g =
        let null : Bool = eqb h.kind 12 && eqb (word f expressions h.low 0) 4 in
        let expression : Bool = eqb h.kind 11 || eqb h.kind 12 in (
          written-kind h null expression g.0,
          many-written ts ∙ g.1 ∙ written-parts h null expression (null-kind h _) (expression-kind h),
          goods-written ts g.2,
        )

    pub goods-written : (ts : Trees) → Goods ts → Goods (written_all f ts)
    goods-written tnil g = tt
    goods-written (tcons t ts) g = (good-written t g.0, goods-written ts g.1)

  -- ---- slots
  in_parts : (t : Tree) → Small t → InPlaceOf t (written_parts f t)
  unfolding Good nodes head written_parts
  in_parts (node h ts) s =
      record { same_nodes = rw (nodes_in-written ts); good = (s.good.0, many-written ts ∙ s.good.1, goods-written ts s.good.2); nameless = s.nameless }

  -- an integer or a bit string has no parts
  in-signed : (t : Tree) → slot_takes 2 (head t).kind ≡ true → Small t → InPlaceOf t (as_signed t)
  unfolding Good nodes head as_signed slot_takes
  in-signed (node h ts) e s =
      let k : h.kind ≤ 12 = either (eqb h.kind 1) (eqb h.kind 2) e (λ q. omega (arith, eqb-true h.kind 1 q)) (λ q. omega (arith, eqb-true h.kind 2 q)) in
      record {
        same_nodes = refl;
        good = (lit≤ tt, s.good.1 ∙ parts_none h.kind h.low k ∙ sym (parts_none 1 h.low (lit≤ tt)), s.good.2);
        nameless = s.nameless;
      }

-- what holds of both trees that a slot may take holds of the one that it takes
module _ (f : List ℕ) (Q : Tree → Type 0) (t : Tree) (signed : slot_takes 2 (head t).kind ≡ true → Q (as_signed t)) (whole : Q (written_parts f t)) where
  on-complete : (i : ℕ) → OnCompleted Q (complete f i t)
  unfolding complete
  on-complete i =
      on-pick (OnCompleted Q) (slot_takes i (head t).kind) _ left
      (λ e. on-pick Q (eqb i 2) (as_signed t) (written_parts f t) (λ q. signed (rw (eqb-true i 2 q) at e)) (λ q. whole)) (λ e. tt)

  on-retyped : (v i : ℕ) → OnCompleted Q (retyped f v i t)
  unfolding retyped
  on-retyped v i =
      on-pick (OnCompleted Q) ((eqb (initializer_kind f i) 3 || eqb (initializer_kind f i) 11) && eqb (word f initializers i 3) 0) _ left
      (λ e. on-link (OnCompleted Q) (word f variables v 2) left _ tt (λ d q. on-complete _)) (λ e. tt)

  pub on-completion : (v : ℕ) → OnCompleted Q (completion f v (ok t))
  unfolding completion
  on-completion v =
      let i : ℕ = word f variables v 3 in
      first (complete f (initializer_kind f i) t) (retyped f v i t) (on-complete (initializer_kind f i)) (on-retyped v i)
    where
      first : (c d : Completed) → OnCompleted Q c → OnCompleted Q d → OnCompleted Q (or_retyped c d)
      first (completed i u) d g h = g
      first left d g h = h

module _ (f : List ℕ) where
  pub in-completion : (v : ℕ) (t : Tree) → Small t → OnCompleted (InPlaceOf t) (completion f v (ok t))
  in-completion v t s = on-completion f (InPlaceOf t) t (λ e. in-signed f t e s) (in_parts f t s) v

  pub completion-in : (v i : ℕ) (t u : Tree) → Small t → completion f v (ok t) ≡ completed i u → InPlaceOf t u
  completion-in v i t u s e = rw e at (in-completion v t s)
