-- Trees with the characters cut taken out of their strings' last words, and that all functions on trees keep to it. Assumes nothing.
use Rattle.std.specs.Prelude.{◌≡◌, Bool, true, false, ◌&&◌, ◌||◌, List}
use Rattle.std.proofs.Math.Path.{refl, ap}
use Rattle.std.proofs.Common.{sym, eqb-true}
use Prim.Native.Nat.{ℕ, zero, suc, ◌%◌}
use Rattle.std.proofs.Math.Dec.{eqb}
use Rattle.definition.specs.Base.{pick, on_link}
use Rattle.definition.specs.Layout.{word, variables, initializers}
use Rattle.definition.specs.Records.{initializer_kind}
use Rattle.definition.specs.Tree.{Node, Tree, Trees, node, tnil, tcons, head, parts, many, nodes, nodes_in, leaf, named, headed, join, one, times, rest, replaced}
use Rattle.definition.specs.Ask.{Result, ok, none, large, Outcome}
use Rattle.definition.specs.Iec.{filled, assigned}
use Rattle.definition.specs.Scalar.{uncut_word}
use Rattle.definition.specs.Parts.{flat}
use Rattle.definition.specs.Complete.{Completed, completed, left, written_node, written, written_all, written_parts, as_signed, slot_takes, complete, retyped, or_retyped, completion}
use Rattle.laws.specs.Cases.{both, either, on-pick}

-- only the last word changes
unfoldable pub uncut : Node → Node
uncut h = record { name = h.name; kind = h.kind; sign = h.sign; low = h.low; high = h.high; width = uncut_word h.kind h.width }

unfoldable mutual
  pub uncut_tree : Tree → Tree
  uncut_tree (node h ts) = node (uncut h) (uncut_all ts)

  pub uncut_all : Trees → Trees
  uncut_all tnil = tnil
  uncut_all (tcons t ts) = tcons (uncut_tree t) (uncut_all ts)

-- a value changed, if there is one
abbrev pub over : {A : Type 0} → (A → A) → Result A → Result A
over u (ok a) = ok (u a)
over u none = none
over u large = large

abbrev pub uncut_outcome : Outcome → Outcome
uncut_outcome o = over uncut_tree o

abbrev pub uncut_completed : Completed → Completed
uncut_completed (completed i t) = completed i (uncut_tree t)
uncut_completed left = left

-- a choice, changed in both cases
change-pick : {A B : Type 0} (g : A → B) (b : Bool) (x y : A) (x' y' : B) → (b ≡ true → g x ≡ x') → (b ≡ false → g y ≡ y')
    → g (pick b x y) ≡ pick b x' y'
change-pick g true x y x' y' p q = p refl
change-pick g false x y x' y' p q = q refl

-- ---- names, kinds and sizes stay
pub name-uncut : (t : Tree) → (head (uncut_tree t)).name ≡ (head t).name
unfolding head uncut_tree uncut
name-uncut (node h ts) = refl

pub kind-uncut : (t : Tree) → (head (uncut_tree t)).kind ≡ (head t).kind
unfolding head uncut_tree uncut
kind-uncut (node h ts) = refl

pub many-uncut : (ts : Trees) → many (uncut_all ts) ≡ many ts
unfolding many uncut_tree
many-uncut tnil = refl
many-uncut (tcons t ts) = rw (many-uncut ts)

mutual
  unfolding nodes uncut_tree

  pub nodes-uncut : (t : Tree) → nodes (uncut_tree t) ≡ nodes t
  nodes-uncut (node h ts) = rw (nodes_in-uncut ts)

  pub nodes_in-uncut : (ts : Trees) → nodes_in (uncut_all ts) ≡ nodes_in ts
  nodes_in-uncut tnil = refl
  nodes_in-uncut (tcons t ts) = rw (nodes-uncut t, nodes_in-uncut ts)

-- ---- functions on trees
-- of a kind that is no string's
pub leaf-uncut : (kind sign low high width : ℕ) → eqb kind 8 ≡ false → uncut_tree (leaf kind sign low high width) ≡ leaf kind sign low high width
unfolding uncut_tree uncut uncut_word leaf
leaf-uncut kind sign low high width e = rw e

no_cut : (kind : ℕ) → uncut_word kind 0 ≡ 0
unfolding uncut_word
no_cut kind = on-pick (λ w. w ≡ 0) (eqb kind 8) (0 % 2) 0 (λ e. refl) (λ e. refl)

pub headed-uncut : (kind : ℕ) (ts : Trees) → uncut_tree (headed kind ts) ≡ headed kind (uncut_all ts)
unfolding uncut_tree uncut headed
headed-uncut kind ts = rw (many-uncut ts, no_cut kind)

pub parts-uncut : (t : Tree) → parts (uncut_tree t) ≡ uncut_all (parts t)
unfolding parts uncut_tree
parts-uncut (node h ts) = refl

pub named-uncut : (name : ℕ) (t : Tree) → uncut_tree (named name t) ≡ named name (uncut_tree t)
unfolding named uncut_tree uncut
named-uncut name (node h ts) = refl

pub one-uncut : (t : Tree) → uncut_all (one t) ≡ one (uncut_tree t)
unfolding one uncut_tree
one-uncut t = refl

pub join-uncut : (ts us : Trees) → uncut_all (join ts us) ≡ join (uncut_all ts) (uncut_all us)
unfolding join uncut_tree
join-uncut tnil us = refl
join-uncut (tcons t ts) us = rw (join-uncut ts us)

pub times-uncut : (k : ℕ) (ts : Trees) → uncut_all (times k ts) ≡ times k (uncut_all ts)
unfolding times uncut_tree
times-uncut zero ts = refl
times-uncut (suc k) ts = rw (join-uncut, times-uncut k ts)

pub rest-uncut : (k : ℕ) (ts : Trees) → uncut_all (rest k ts) ≡ rest k (uncut_all ts)
unfolding rest uncut_tree
rest-uncut zero ts = refl
rest-uncut (suc k) tnil = refl
rest-uncut (suc k) (tcons t ts) = rest-uncut k ts

pub filled-uncut : (ts us : Trees) → uncut_all (filled ts us) ≡ filled (uncut_all ts) (uncut_all us)
unfolding filled
filled-uncut ts us = rw (join-uncut, rest-uncut, many-uncut us)

pub flat-uncut : (t : Tree) → uncut_all (flat t) ≡ flat (uncut_tree t)
unfolding flat
flat-uncut t = rw (kind-uncut t) (change-pick uncut_all (eqb (head t).kind 13) _ _ _ _ (λ e. sym (parts-uncut t)) (λ e. one-uncut t))

replaced-uncut : (name : ℕ) (u : Tree) (ts : Trees) → uncut_all (replaced name u ts) ≡ replaced name (uncut_tree u) (uncut_all ts)
unfolding replaced uncut_tree
replaced-uncut name u tnil = refl
replaced-uncut name u (tcons t ts) =
    rw (name-uncut t) (change-pick uncut_all (eqb (head t).name name) _ _ _ _ (λ e. refl) (λ e. rw (replaced-uncut name u ts)))

pub assigned-uncut : (name : ℕ) (t : Tree) (ts : Trees) → uncut_all (assigned name t ts) ≡ assigned name (uncut_tree t) (uncut_all ts)
unfolding assigned
assigned-uncut name t ts = rw (replaced-uncut, named-uncut)

-- ---- completed initializers: kinds change among those that are no string's
word-uncut : (kind last : ℕ) (b : Bool) → uncut_word (pick (eqb kind 12 && b) 10 (pick (eqb kind 11 || eqb kind 12) 12 kind)) last ≡ uncut_word kind last
unfolding uncut_word
word-uncut kind last b =
    let P : ℕ → Type 0 = λ k. uncut_word k last ≡ uncut_word kind last in
    on-pick P (eqb kind 12 && b) _ _ (λ e. rw (eqb-true kind 12 (both (eqb kind 12) b e).0))
    (λ e. on-pick P (eqb kind 11 || eqb kind 12) 12 kind
    (λ q. either (eqb kind 11) (eqb kind 12) q (λ r. rw (eqb-true kind 11 r)) (λ r. rw (eqb-true kind 12 r))) (λ q. refl))

module _ (f : List ℕ) where
  written_node-uncut : (h : Node) → uncut (written_node f h) ≡ written_node f (uncut h)
  unfolding uncut written_node
  written_node-uncut h = rw (word-uncut h.kind h.width)

  mutual
    unfolding written uncut_tree

    written-uncut : (t : Tree) → uncut_tree (written f t) ≡ written f (uncut_tree t)
    written-uncut (node h ts) = rw (written_node-uncut h, written_all-uncut ts)

    written_all-uncut : (ts : Trees) → uncut_all (written_all f ts) ≡ written_all f (uncut_all ts)
    written_all-uncut tnil = refl
    written_all-uncut (tcons t ts) = rw (written-uncut t, written_all-uncut ts)

  slot-uncut : (t : Tree) → uncut_tree (written_parts f t) ≡ written_parts f (uncut_tree t)
  unfolding written_parts uncut_tree
  slot-uncut (node h ts) = rw (written_all-uncut ts)

  signed-uncut : (t : Tree) → slot_takes 2 (head t).kind ≡ true → uncut_tree (as_signed t) ≡ as_signed (uncut_tree t)
  unfolding as_signed uncut_tree uncut uncut_word slot_takes head
  signed-uncut (node h ts) e =
      either (eqb h.kind 1) (eqb h.kind 2) e (λ q. rw (eqb-true h.kind 1 q)) (λ q. rw (eqb-true h.kind 2 q))

  complete-uncut : (i : ℕ) (t : Tree) → uncut_completed (complete f i t) ≡ complete f i (uncut_tree t)
  unfolding complete
  complete-uncut i t =
      rw (kind-uncut t) (change-pick uncut_completed (slot_takes i (head t).kind) _ _ _ _
      (λ e. ap (completed i) (change-pick uncut_tree (eqb i 2) _ _ _ _ (λ q. signed-uncut t (rw (eqb-true i 2 q) at e)) (λ q. slot-uncut t))) (λ e. refl))

  link-uncut : (l : ℕ) (g g' : ℕ → Completed) → ((d : ℕ) → uncut_completed (g d) ≡ g' d) → uncut_completed (on_link l left g) ≡ on_link l left g'
  link-uncut zero g g' h = refl
  link-uncut (suc d) g g' h = h d

  retyped-uncut : (v i : ℕ) (t : Tree) → uncut_completed (retyped f v i t) ≡ retyped f v i (uncut_tree t)
  unfolding retyped
  retyped-uncut v i t =
      change-pick uncut_completed ((eqb (initializer_kind f i) 3 || eqb (initializer_kind f i) 11) && eqb (word f initializers i 3) 0) _ _ _ _
      (λ e. link-uncut (word f variables v 2) _ _ (λ d. complete-uncut _ t)) (λ e. refl)

  pub completion-uncut : (v : ℕ) (o : Outcome) → uncut_completed (completion f v o) ≡ completion f v (uncut_outcome o)
  unfolding completion
  completion-uncut v (ok t) =
      let i : ℕ = word f variables v 3 in
      rw (← complete-uncut (initializer_kind f i) t, ← retyped-uncut v i t) (go (complete f (initializer_kind f i) t) (retyped f v i t))
    where
      go : (c d : Completed) → uncut_completed (or_retyped c d) ≡ or_retyped (uncut_completed c) (uncut_completed d)
      go (completed i u) d = refl
      go left d = refl
  completion-uncut v none = refl
  completion-uncut v large = refl
