-- Words compared one after the other. Assumes nothing.
use mathlib.Core.Path.{◌≡◌, refl, ap, sym, ◌∙◌}
use mathlib.Core.Bool.{Bool, true, false, ◌&&◌}
use mathlib.Core.List.{List, [], ◌∷◌, ◌++◌}
use Prim.Native.Nat.{ℕ}
use native.Mathlib.Omega.{arith}
use lib.Dec.{eqb}
use lib.Pointwise.{pointwise}
use lib.ListN.{length, take, drop}
use borrow.Author.Rules.{rules}
use Rattle.std.specs.List.{list_all, zip}
use Rattle.definition.specs.Sheet.{same_words}

-- ---- `==` of slices
same-pairs : (v w : List ℕ) → pointwise eqb v w ≡ same_words v w
unfolding same_words
same-pairs [] [] = refl
same-pairs [] (y ∷ w) = refl
same-pairs (x ∷ v) [] = refl
same-pairs (x ∷ v) (y ∷ w) = ap (λ (b : Bool). eqb x y && b) (same-pairs v w)

-- ---- `all` over the pairs of two slices, where one is as long as the other
same-zipped : (v w : List ℕ) → length v ≡ length w → list_all (λ (p : ℕ × ℕ). eqb p.0 p.1) (zip v w) ≡ pointwise eqb v w
same-zipped [] [] l = refl
same-zipped [] (y ∷ w) l = absurd (omega (arith, l))
same-zipped (x ∷ v) [] l = absurd (omega (arith, l))
same-zipped (x ∷ v) (y ∷ w) l = ap (λ (b : Bool). eqb x y && b) (same-zipped v w (omega (arith, l)))

-- ---- a head, and what stands behind it
and-three : (a b c : Bool) → a && (b && c) ≡ (a && b) && c
and-three true b c = refl
and-three false b c = refl

head-rest : (line head nodes : List ℕ) → same_words line (head ++ nodes) ≡ same_words (take (length head) line) head && same_words (drop (length head) line) nodes
unfolding same_words
head-rest line [] nodes = refl
head-rest [] (h ∷ head) nodes = refl
head-rest (x ∷ line) (h ∷ head) nodes =
    ap (λ (b : Bool). eqb x h && b) (head-rest line head nodes) ∙ and-three (eqb x h) (same_words (take (length head) line) head) (same_words (drop (length head) line) nodes)

module _ (line head nodes : List ℕ) where
  pub head-other : pointwise eqb (take (length head) line) head ≡ false → false ≡ same_words line (head ++ nodes)
  head-other e = rw (head-rest line head nodes, sym (same-pairs (take (length head) line) head) ∙ e)

  pub head-same : pointwise eqb (take (length head) line) head ≡ true → {behind : List ℕ} → behind ≡ drop (length head) line → {r : Bool} → r ≡ pointwise eqb behind nodes
      → r ≡ same_words line (head ++ nodes)
  head-same e {behind} k q = rw (head-rest line head nodes, sym (same-pairs (take (length head) line) head) ∙ e, ← k) (q ∙ same-pairs behind nodes)

  pub head-pairs : pointwise eqb (take (length head) line) head ≡ true → {behind : List ℕ} → behind ≡ drop (length head) line → length behind ≡ length nodes
      → {r : Bool} → r ≡ list_all (λ (p : ℕ × ℕ). eqb p.0 p.1) (zip behind nodes) → r ≡ same_words line (head ++ nodes)
  head-pairs e {behind} k l q = head-same e k (q ∙ same-zipped behind nodes l)

pub ruleset lines = (rules, head-other, head-same)
