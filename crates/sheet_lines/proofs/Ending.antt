-- What the functions of `ends` answer at each return. Assumes nothing.
use mathlib.Core.Path.{◌≡◌, refl, ap, sym, ◌∙◌}
use mathlib.Core.Bool.{Bool, true, false, ◌&&◌, and-true}
use mathlib.Core.List.{List, []}
use Prim.Native.Nat.{ℕ, zero, suc, ◌+◌, ◌-◌, ◌*◌, ◌^◌, ◌≤◌, ◌<◌}
use native.Mathlib.Omega.{arith}
use native.Mathlib.Nat.{add-zero}
use native.Mathlib.Numerals.{add-one}
use lib.Dec.{eqb, leb}
use lib.ListN.{length, get_or, take, drop, length-drop, drop_of_length-le}
use lib.Seq.{take-nil}
use borrow.Author.Rules.{rules}
use borrow.Author.Tests.{leb-true, leb-false, lt-ltb, le-ltb, eqb-true, eq-eqb, ne_eqb}
use mir.Syntax.{w64}
use mir.Val.{Fits}
use Rattle.definition.specs.Sheet.{are_trees}
use Rattle.laws.specs.Cases.{both, never}
use Rattle.tree.specs.Extent.{tree_of}
use Rattle.tree.proofs.Writes.{test-le, test_fits}
use Rattle.sheet_lines.specs.declared.ends.Form.{Form}
use Rattle.sheet_lines.specs.declared.ends.Form.TheVariants.{Types, Variables, Completed}
use Rattle.sheet_lines.specs.Ends.{head_words, state_at, empty_head, nodes_end, head_end, line_end, lines_end, section_end}
use Rattle.sheet_lines.specs.There.{HeadThere}
use Rattle.std.specs.Prelude.{None, Option, Some}

-- ---- heads by their form
-- the state and the second word stand in the head
pub record HeadShape (form : Form) : Type 0 where
  pub two : 2 ≤ head_words form
  pub three : head_words form ≤ 3
  pub state : state_at form ≤ 1

pub head-shape : (form : Form) → HeadShape form
unfolding head_words state_at
head-shape Types = record { two = omega arith; three = omega arith; state = omega arith }
head-shape Variables = record { two = omega arith; three = omega arith; state = omega arith }
head-shape Completed = record { two = omega arith; three = omega arith; state = omega arith }

-- ---- heads without nodes
pub empty-zero : (form : Form) (state kind many : ℕ) → empty_head form state kind many ≡ true → many ≡ 0
unfolding empty_head
empty-zero Types state kind many q = eqb-true many 0 (both (leb state 2) (eqb many 0) q).1
empty-zero Variables state kind many q = eqb-true many 0 (both (leb state 2) (eqb many 0) q).1
empty-zero Completed state kind many q = eqb-true many 0 (both (eqb state 1 && eqb kind 0) (eqb many 0) q).1

module _ (form : Form) (state kind count : ℕ) where
  pub empty-counted : (count ≡ 0 → ⊥) → false ≡ empty_head form state kind count
  empty-counted n = go (empty_head form state kind count) refl
    where
      go : (b : Bool) → empty_head form state kind count ≡ b → false ≡ b
      go true q = absurd (n (empty-zero form state kind count q))
      go false q = refl

  module _ (z : count ≡ 0) where
    pub empty-type : form ≡ Types → leb state 2 ≡ empty_head form state kind count
    unfolding empty_head
    empty-type e = rw (e, z) (sym (and-true (leb state 2)))

    pub empty-variable : form ≡ Variables → leb state 2 ≡ empty_head form state kind count
    unfolding empty_head
    empty-variable e = rw (e, z) (sym (and-true (leb state 2)))

    pub empty_left : form ≡ Completed → state ≡ 1 → eqb kind 0 ≡ empty_head form state kind count
    unfolding empty_head
    empty_left e h = rw (e, z, h) (sym (and-true (eqb kind 0)))

    pub empty-other : form ≡ Completed → (state ≡ 1 → ⊥) → false ≡ empty_head form state kind count
    unfolding empty_head
    empty-other e h = rw (e, z, ne_eqb state 1 h)

pub ruleset forms = (rules, empty-counted, empty-type, empty-variable, empty_left, empty-other)

-- ---- a tree lies within the words
none-there : (n : ℕ) → are_trees (take (6 * n) []) 1 ≡ false
unfolding are_trees
none-there n = rw (take-nil (6 * n)) refl

pub tree-within : (s : List ℕ) (at n : ℕ) → tree_of s at n ≡ true → at + n * 6 ≤ length s
tree-within s at n e = go (leb at (length s)) refl
  where
    b : (leb (6 * n) (length (drop at s)) ≡ true) × (are_trees (take (6 * n) (drop at s)) 1 ≡ true)
    b = both (leb (6 * n) (length (drop at s))) (are_trees (take (6 * n) (drop at s)) 1) e

    go : (t : Bool) → leb at (length s) ≡ t → at + n * 6 ≤ length s
    go true q = let h = leb-true at (length s) q in omega (arith, leb-true (6 * n) (length (drop at s)) b.0, length-drop at s)
    go false q =
        let h = leb-false at (length s) q in
        let d : drop at s ≡ [] = drop_of_length-le s {i = at} (omega arith) in
        never (sym (none-there n) ∙ rw d at b.1)

-- ---- nodes
module _ (s : List ℕ) (at state count : ℕ) (empty : Bool) where
  pub nodes-tree : state ≡ 0 → {b : Bool} → b ≡ tree_of s at count → b ≡ true → Some (at + count * 6) ≡ nodes_end s at state count empty
  unfolding nodes_end
  nodes-tree p e t = let k : tree_of s at count ≡ true = sym e ∙ t in rw (eq-eqb state 0 p, k)

  pub nodes-no-tree : state ≡ 0 → {b : Bool} → b ≡ tree_of s at count → b ≡ false → None ≡ nodes_end s at state count empty
  unfolding nodes_end
  nodes-no-tree p e t = let k : tree_of s at count ≡ false = sym e ∙ t in rw (eq-eqb state 0 p, k)

  pub nodes-none : (state ≡ 0 → ⊥) → empty ≡ true → Some at ≡ nodes_end s at state count empty
  unfolding nodes_end
  nodes-none p e = rw (ne_eqb state 0 p, e)

  pub nodes-not : (state ≡ 0 → ⊥) → empty ≡ false → None ≡ nodes_end s at state count empty
  unfolding nodes_end
  nodes-not p e = rw (ne_eqb state 0 p, e)

pub nodes-fit : (s : List ℕ) (at count : ℕ) {b : Bool} → b ≡ tree_of s at count → b ≡ true → length s < 2 ^ 64 → Fits w64 (count * 6)
nodes-fit s at count e t h = let k = tree-within s at count (sym e ∙ t) in record { fits = omega arith }

pub end_fits : (s : List ℕ) (at count : ℕ) {b : Bool} → b ≡ tree_of s at count → b ≡ true → length s < 2 ^ 64 → Fits w64 (at + count * 6)
end_fits s at count e t h = let k = tree-within s at count (sym e ∙ t) in record { fits = omega arith }

pub ruleset nodes = (rules, nodes-tree, nodes-no-tree, nodes-none, nodes-not, nodes-fit, end_fits)

-- ---- a line
module _ (form : Form) (s : List ℕ) (at : ℕ) where
  module _ {from : ℕ} (x : HeadThere form s at from) where
    pub head-state : {k : ℕ} → k ≡ state_at form → at + k < length s
    head-state e = omega (arith, x.is, x.within, (head-shape form).two, (head-shape form).state)

    pub head-state-fits : {k : ℕ} → k ≡ state_at form → length s < 2 ^ 64 → Fits w64 (at + k)
    head-state-fits e h = record { fits = omega (arith, head-state e) }

    pub head-kind : at + 1 < length s
    head-kind = omega (arith, x.is, x.within, (head-shape form).two)

    pub head-kind-fits : length s < 2 ^ 64 → Fits w64 (at + 1)
    head-kind-fits h = record { fits = omega (arith, head-kind) }

    pub head-some : 1 ≤ from
    head-some = omega (arith, x.is, (head-shape form).two)

    pub head-count : from - 1 < length s
    head-count = omega (arith, x.is, x.within, (head-shape form).two)

    pub head-is : {k : ℕ} → k ≡ state_at form → {e : Bool} → e ≡ empty_head form (get_or s (at + k) 0) (get_or s (at + 1) 0) (get_or s (from - 1) 0) → {r : Option ℕ}
        → r ≡ nodes_end s from (get_or s (at + k) 0) (get_or s (from - 1) 0) e → r ≡ head_end form s at
    unfolding head_end
    head-is p q h = rw (← x.is, ← p, ← q) h

  module _ {k : ℕ} (p : k ≡ head_words form) {b : Bool} (e : b ≡ leb (at + k) (length s)) where
    pub head-there : b ≡ true → HeadThere form s at (at + k)
    head-there t = record { is = rw p; within = test-le e t }

    pub line-so : b ≡ true → {r : Option ℕ} → r ≡ head_end form s at → r ≡ line_end form s at
    unfolding line_end
    line-so t i = let l : leb (at + head_words form) (length s) ≡ true = rw (← p) (sym e ∙ t) in rw l i

    pub line-past : b ≡ false → None ≡ line_end form s at
    unfolding line_end
    line-past t = let l : leb (at + head_words form) (length s) ≡ false = rw (← p) (sym e ∙ t) in rw l

pub ruleset heads = (rules, head-state, head-state-fits, head-kind, head-kind-fits, head-some, head-count, head-is)

pub ruleset ending = (rules, test-le, test_fits, head-there, line-so, line-past)

-- ---- lines
-- j lines end at a place
pub record EndsAt (form : Form) (s : List ℕ) (at j place : ℕ) : Type 0 where
  pub ends : lines_end form s j at ≡ Some place

pub no_lines : (form : Form) (s : List ℕ) (at : ℕ) → EndsAt form s at 0 at
unfolding lines_end
no_lines form s at = record { ends = refl }

module _ {form : Form} {s : List ℕ} {at j place : ℕ} (i : EndsAt form s at j place) where
  pub next-line : {r : Option ℕ} {e : ℕ} → r ≡ line_end form s place → r ≡ Some e → EndsAt form s at (j + 1) e
  unfolding lines_end
  next-line h q = record { ends = rw (add-one j, i.ends) (sym h ∙ q) }

  pub all_lines : (many : ℕ) → many ≤ j → j ≤ many → Some place ≡ lines_end form s many at
  all_lines many h l = let e : many ≡ j = omega arith in rw e (sym i.ends)

  -- lines that go on behind one that is none are none
  broken-more : line_end form s place ≡ None → (k : ℕ) → lines_end form s (suc j + k) at ≡ None
  unfolding lines_end
  broken-more h zero = rw (add-zero, i.ends) h
  broken-more h (suc k) =
      let e : suc j + suc k ≡ suc (suc j + k) = omega arith in
      ap (λ (m : ℕ). lines_end form s m at) e ∙ rw (broken-more h k)

  pub broken-line : {r : Option ℕ} → r ≡ line_end form s place → r ≡ None → (many : ℕ) → j < many → None ≡ lines_end form s many at
  broken-line h q many l =
      let e : suc j + (many - suc j) ≡ many = omega arith in
      sym (broken-more (sym h ∙ q) (many - suc j)) ∙ ap (λ (m : ℕ). lines_end form s m at) e

-- ---- a section
module _ (form : Form) (s : List ℕ) (n at : ℕ) where
  pub section-lines : at < length s → get_or s at 0 ≡ n → {r : Option ℕ} → r ≡ lines_end form s n (at + 1) → r ≡ section_end form s n at
  unfolding section_end
  section-lines h k i = rw (lt-ltb at (length s) h, eq-eqb (get_or s at 0) n k) i

  pub section-other : at < length s → (get_or s at 0 ≡ n → ⊥) → None ≡ section_end form s n at
  unfolding section_end
  section-other h k = rw (lt-ltb at (length s) h, ne_eqb (get_or s at 0) n k)

  pub section-past : length s ≤ at → None ≡ section_end form s n at
  unfolding section_end
  section-past h = rw (le-ltb at (length s) h)

pub ruleset sections = (rules, no_lines, next-line, all_lines, broken-line, section-lines, section-other, section-past)
