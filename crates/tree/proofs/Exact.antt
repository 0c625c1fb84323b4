-- What `is_tree` answers at each return. Assumes nothing.
use mathlib.Core.Path.{◌≡◌, refl, sym, ◌∙◌}
use mathlib.Core.Bool.{Bool, true, false, ◌&&◌}
use mathlib.Core.List.{List, []}
use Prim.Native.Nat.{ℕ, ◌+◌, ◌-◌, ◌*◌, ◌≤◌, ◌<◌}
use native.Mathlib.Omega.{arith}
use lib.Dec.{leb, eqb}
use lib.ListN.{length, take, drop, length-drop, drop_of_length-le}
use lib.Seq.{length-take-le, take-nil}
use borrow.Author.Tests.{leb-true, leb-false, le-leb, lt-leb}
use Rattle.std.specs.Prelude.{Option, Some, None}
use Rattle.definition.specs.Sheet.{are_trees}
use Rattle.tree.specs.Extent.{whole_of, tree_of}
use Rattle.tree.proofs.Trees.{ends-all, not-all}
use Rattle.tree.proofs.Writes.{writes}

-- no tree is in no words
exact_past : (s : List ℕ) (at n : ℕ) → length s < at → false ≡ tree_of s at n
unfolding are_trees
exact_past s at n h = let e : drop at s ≡ [] = drop_of_length-le s {i = at} (omega arith) in rw (e, take-nil (6 * n)) (none (leb (6 * n) 0))
  where
    none : (b : Bool) → false ≡ b && false
    none true = refl
    none false = refl

exact-few : (s : List ℕ) (at n : ℕ) → at ≤ length s → length s < at + n * 6 → false ≡ tree_of s at n
exact-few s at n h k = rw (lt-leb (6 * n) (length (drop at s)) (simp length-drop (omega arith)))

module _ (s : List ℕ) (at n : ℕ) {b : Bool} (e : b ≡ leb (at + n * 6) (length s)) where
  pub exact-short : b ≡ false → false ≡ tree_of s at n
  exact-short t = go (leb at (length s)) refl
    where
      k : length s < at + n * 6
      k = leb-false (at + n * 6) (length s) (sym e ∙ t)

      go : (c : Bool) → leb at (length s) ≡ c → false ≡ tree_of s at n
      go true i = exact-few s at n (leb-true at (length s) i) k
      go false i = exact_past s at n (leb-false at (length s) i)

  module _ (t : b ≡ true) {w : Option ℕ} (q : w ≡ whole_of (take (at + n * 6 - at) (drop at s)) 0) where
    abbrev words : List ℕ
    words = take (6 * n) (drop at s)

    inside : at + n * 6 ≤ length s
    inside = leb-true (at + n * 6) (length s) (sym e ∙ t)

    same : w ≡ whole_of words 0
    same = let i : at + n * 6 - at ≡ 6 * n = omega arith in rw i at q

    fits : leb (6 * n) (length (drop at s)) ≡ true
    fits = let h = inside in le-leb (6 * n) (length (drop at s)) (simp length-drop (omega arith))

    pub exact-ends : {x : ℕ} → w ≡ Some x → eqb x (n * 6) ≡ tree_of s at n
    exact-ends {x} r =
        let h = inside in
        let l : length words ≡ n * 6 = length-take-le (6 * n) (drop at s) (simp length-drop (omega arith)) ∙ omega arith in
        rw (fits, ← ends-all words x (sym same ∙ r), l)

    pub exact-not : w ≡ None → false ≡ tree_of s at n
    exact-not r = rw (fits, not-all words (sym same ∙ r))

pub ruleset exacts = (writes, exact-short, exact-ends, exact-not)
