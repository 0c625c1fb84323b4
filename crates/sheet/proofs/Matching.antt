-- What an answer at the front of the room says of its outcome; a law for each call and each return of same.rt. Assumes nothing.
use mathlib.Core.Path.{◌≡◌, refl, ap, sym, subst, ◌∙◌}
use mathlib.Core.Bool.{Bool}
use mathlib.Core.List.{List, [], ◌∷◌, ◌++◌}
use Prim.Native.Nat.{ℕ, ◌+◌, ◌-◌, ◌*◌, ◌/◌, ◌≤◌}
use native.Mathlib.Omega.{arith}
use lib.ListN.{length, take, drop}
use lib.Seq.{slice}
use borrow.Author.Rules.{rules}
use mir.Syntax.{w32}
use mir.Val.{Fits}
use Rattle.std.specs.Prelude.{Option, Some, None}
use Rattle.definition.specs.Tree.{Tree, nodes, flatten}
use Rattle.definition.specs.Ask.{ok, none, large, Outcome}
use Rattle.definition.specs.Complete.{completed, left, completion}
use Rattle.definition.specs.Lines.{outcome_words, completed_words}
use Rattle.definition.specs.Sheet.{same_words}
use Rattle.laws.specs.Asks.{OnOk}
use Rattle.laws.specs.Values.{Small}
use Rattle.laws.specs.Whole.{flatten-length}
use Rattle.tree.specs.Words.{Stand}
use Rattle.build.specs.Built.{Built}
use Rattle.build.specs.declared.built.Unbuilt.{Unbuilt}
use Rattle.build.specs.declared.built.Unbuilt.TheVariants as unbuilt
use Rattle.build.proofs.Peeks.{NoEnd}
use Rattle.complete.specs.Completion.{Completing}
use Rattle.complete.proofs.Answering.{answer-takes, answer-leaves}
use Rattle.driver.specs.Told.{Tells}
use Rattle.driver.proofs.Telling.{tells-ends, tells_none, tells-large, tells-wanted}
use Rattle.tree.proofs.Stands.{take-drop}
use Rattle.sheet_lines.specs.Compare.{Within}
use Rattle.sheet.specs.Same.{Shown, SameOutcome, SameCompleted}
use Rattle.std.specs.Prelude.{Ok, Err}

-- ---- what was built, of an outcome that is told
-- a tree, by its count
pub record TreeBuilt (o : Outcome) (n : ℕ) (room : List ℕ) : Type 0 where
  pub tree : Tree
  pub is : o ≡ ok tree
  pub count : nodes tree ≡ n / 6
  pub words : n ≡ n / 6 * 6
  pub stands : Stand room 0 (flatten tree) n

module _ {b : Built} {room : List ℕ} where
  pub tree_of : {n : ℕ} → b ≡ Ok n → (o : Outcome) → Tells o b room → TreeBuilt o n room
  tree_of q o g =
      let y = tells-ends o (subst (λ (a : Built). Tells o a room) q g) in
      record {
        tree = y.tree;
        is = y.is;
        count = omega (arith, y.stands.long, flatten-length y.tree);
        words = omega (arith, y.stands.long, flatten-length y.tree);
        stands = y.stands;
      }

  pub none_of : b ≡ Err unbuilt.None → (o : Outcome) → Tells o b room → o ≡ none
  none_of q o g = tells_none o (subst (λ (a : Built). Tells o a room) q g)

  pub large-of : b ≡ Err unbuilt.TooLarge → (o : Outcome) → Tells o b room → o ≡ large
  large-of q o g = tells-large o (subst (λ (a : Built). Tells o a room) q g)

-- ---- what can be compared
module _ {b : Built} {room : List ℕ} (x : Shown b room) {n : ℕ} (q : b ≡ Ok n) where
  pub shown-tree : TreeBuilt x.outcome n room
  shown-tree = tree_of q x.outcome x.tells

  pub shown-small : Small shown-tree.tree
  shown-small = subst (OnOk Small) shown-tree.is x.small

  pub shown-counts : Fits w32 (n / 6)
  shown-counts = record { fits = omega (arith, shown-tree.count, shown-small.few) }

  pub shown-there : (new : List ℕ) → length new ≡ length room → n ≤ length new
  shown-there new l = omega (arith, shown-tree.stands.fits)

  pub shown_here : n ≤ length room
  shown_here = shown-there room refl

-- a line's words, as a slice of the sheet
module _ {long at head end : ℕ} (w : Within long at head end) where
  pub line-order : at ≤ end
  line-order = omega (arith, w.starts)

  pub line-inside : end ≤ long
  line-inside = w.inside

line-cut : (s : List ℕ) {long at head end : ℕ} → Within long at head end → take (end - at) (drop at s) ≡ slice at end s
line-cut s {at = at} {end = end} w =
    let k : at + (end - at) ≡ end = omega (arith, w.starts) in
    take-drop at (end - at) s ∙ ap (λ (n : ℕ). slice at n s) k

-- what is said of the slice is said of the line
said-of : (s : List ℕ) {long at head end : ℕ} → Within long at head end → {r : Bool} {ws vs : List ℕ} → r ≡ same_words (take (end - at) (drop at s)) ws → ws ≡ vs → r ≡ same_words (slice at end s) vs
said-of s {at = at} {end = end} w {r} {ws} {vs} h e = h ∙ ap (λ (l : List ℕ). same_words l ws) (line-cut s w) ∙ ap (same_words (slice at end s)) e

-- ---- `built_same`
tree-words : (room : List ℕ) (t : Tree) {n : ℕ} → nodes t ≡ n / 6 → Stand room 0 (flatten t) n → 0 ∷ n / 6 ∷ take n room ≡ outcome_words (ok t)
unfolding outcome_words
tree-words room t {n} k x = let q : take n room ≡ flatten t = x.is in rw (q, k)

none-words : 1 ∷ 0 ∷ [] ≡ outcome_words none
unfolding outcome_words
none-words = refl

large-words : 2 ∷ 0 ∷ [] ≡ outcome_words large
unfolding outcome_words
large-words = refl

module _ {s : List ℕ} {long at head end : ℕ} (w : Within long at head end) {b : Built} {room : List ℕ} {r : Bool} where
  pub same-tree : {n : ℕ} → b ≡ Ok n → r ≡ same_words (take (end - at) (drop at s)) ((0 ∷ n / 6 ∷ []) ++ take n room) → SameOutcome s at end b room r
  same-tree {n} q h = record { says = λ o g. let y = tree_of q o g in said-of s w h (tree-words room y.tree y.count y.stands ∙ ap outcome_words (sym y.is)) }

  module _ {u : Unbuilt} (q : b ≡ Err u) where
    pub same_none : u ≡ unbuilt.None → r ≡ same_words (take (end - at) (drop at s)) ((1 ∷ 0 ∷ []) ++ []) → SameOutcome s at end b room r
    same_none i h = let k : b ≡ Err unbuilt.None = cc in record { says = λ o g. said-of s w h (none-words ∙ ap outcome_words (sym (none_of k o g))) }

    pub same-large : u ≡ unbuilt.TooLarge → r ≡ same_words (take (end - at) (drop at s)) ((2 ∷ 0 ∷ []) ++ []) → SameOutcome s at end b room r
    same-large i h = let k : b ≡ Err unbuilt.TooLarge = cc in record { says = λ o g. said-of s w h (large-words ∙ ap outcome_words (sym (large-of k o g))) }

pub same-wanted : {s : List ℕ} {at end : ℕ} {b : Built} {room : List ℕ} {r : Bool} {u : Unbuilt} → b ≡ Err u → {d : ℕ} → u ≡ unbuilt.Wanted d → SameOutcome s at end b room r
same-wanted {b = b} {room = room} q {d} i = let k : b ≡ Err (unbuilt.Wanted d) = cc in record { says = λ o g. tells-wanted o (subst (λ (a : Built). Tells o a room) k g) }

pub ruleset matching = (rules, shown-counts, shown_here, line-order, line-inside, same-tree, same_none, same-large, same-wanted)

-- ---- `completion_same`
left-other : (f : List ℕ) (v : ℕ) (o : Outcome) {b : Built} {room : List ℕ} → NoEnd b → Tells o b room → left ≡ completion f v o
unfolding completion
left-other f v (ok t) n g = absurd (n (0 + length (flatten t)) g.gives.says)
left-other f v none n g = refl
left-other f v large n g = refl

kind-words : (room : List ℕ) (t : Tree) (kind : ℕ) {n : ℕ} → nodes t ≡ n / 6 → Stand room 0 (flatten t) n → 0 ∷ kind ∷ n / 6 ∷ take n room ≡ completed_words (completed kind t)
unfolding completed_words
kind-words room t kind {n} k x = let q : take n room ≡ flatten t = x.is in rw (q, k)

left-words : 1 ∷ 0 ∷ 0 ∷ [] ≡ completed_words left
unfolding completed_words
left-words = refl

module _ {f : List ℕ} {v : ℕ} {s : List ℕ} {long at head end : ℕ} (w : Within long at head end) {b : Built} {room : List ℕ} {r : Bool} where
  module _ {n : ℕ} (q : b ≡ Ok n) {x : Option ℕ} {new : List ℕ} (m : Completing f v room 0 n x new) where
    pub same_kind : {kind : ℕ} → x ≡ Some kind → r ≡ same_words (take (end - at) (drop at s)) ((0 ∷ kind ∷ n / 6 ∷ []) ++ take n new) → SameCompleted f v s at end b room r
    same_kind {kind} p h =
        record {
          says = λ o g.
              let y = tree_of q o g in
              let z = answer-takes m y.tree y.stands p in
              said-of s w h (kind-words new z.tree kind (z.same_nodes ∙ y.count) z.stands ∙ ap completed_words (sym (ap (completion f v) y.is ∙ z.is)));
        }

    pub same_left : x ≡ None → r ≡ same_words (take (end - at) (drop at s)) ((1 ∷ 0 ∷ 0 ∷ []) ++ []) → SameCompleted f v s at end b room r
    same_left p h =
        record {
          says = λ o g.
              let y = tree_of q o g in
              let z = answer-leaves m y.tree y.stands p in
              said-of s w h (left-words ∙ ap completed_words (sym (ap (completion f v) y.is ∙ z.is)));
        }

  pub left-of-none : NoEnd b → r ≡ same_words (take (end - at) (drop at s)) ((1 ∷ 0 ∷ 0 ∷ []) ++ []) → SameCompleted f v s at end b room r
  left-of-none n h = record { says = λ o g. said-of s w h (left-words ∙ ap completed_words (left-other f v o n g)) }

pub ruleset completing = (rules, shown-counts, shown-there, line-order, line-inside, same_kind, same_left, left-of-none)
