-- Comparing shapes as the Rust's `==` does, in an accepted file: how deep does not matter, and it is an equivalence. A shape is a list of items, each a word or
-- a shape inside, and two shapes are the same where their items are. Assumes nothing.
use Rattle.std.specs.Prelude.{◌≡◌, Bool, ◌&&◌, List, [], ◌∷◌, ◌++◌, length, get_or}
use Rattle.std.proofs.Math.Path.{refl, sym, ap}
use Rattle.std.proofs.Common.{◌∙◌, arith}
use Rattle.std.proofs.Math.Bool.{true, false, and-true, and_assoc, and_comm}
use Prim.Native.Nat.{ℕ, zero, suc, ◌+◌, ◌≤◌, ◌<◌}
use Rattle.std.proofs.Math.Dec.{eqb}
use borrow.Author.Tests.{eqb-true, eq-eqb, ne_eqb}
use Rattle.definition.specs.Base.{choose, every}
use Rattle.definition.specs.Layout.{count, word, shapes, shape_fields, dimensions, constants}
use Rattle.definition.specs.Records.{shape_of, shape_at}
use Rattle.definition.specs.Accept.{listed, same_field, same_dimension, same_integer, same_link, like_by, shapes_like, same_up_to, same_shape}
use Rattle.laws.specs.Cases.{never, both, by_kind}
use Rattle.laws.specs.Links.{Link}
use Rattle.laws.specs.Accepted.{Accepted}
use Rattle.laws.specs.Pointed.{run_at, ShapePointed, shape-pointed}

-- ---- items
data Item : Type 0 where
  plain : ℕ → Item
  inner : ℕ → Item

abbrev same_item : (ℕ → ℕ → Bool) → Item → Item → Bool
same_item same (plain x) (plain y) = eqb x y
same_item same (plain x) (inner j) = false
same_item same (inner i) (plain y) = false
same_item same (inner i) (inner j) = same i j

abbrev same_items : (ℕ → ℕ → Bool) → List Item → List Item → Bool
same_items same [] [] = true
same_items same [] (y ∷ r) = false
same_items same (x ∷ l) [] = false
same_items same (x ∷ l) (y ∷ r) = same_item same x y && same_items same l r

-- each shape inside is a P
abbrev Inside : (ℕ → Type 0) → List Item → Type 0
Inside P [] = Unit {0}
Inside P (plain x ∷ l) = Inside P l
Inside P (inner i ∷ l) = P i × Inside P l

inside-join : (P : ℕ → Type 0) (l r : List Item) → Inside P l → Inside P r → Inside P (l ++ r)
inside-join P [] r h k = k
inside-join P (plain x ∷ l) r h k = inside-join P l r h k
inside-join P (inner i ∷ l) r h k = (h.0, inside-join P l r h.1 k)

-- two comparisons that agree on the shapes inside agree
items-agree : (same other : ℕ → ℕ → Bool) (P Q : ℕ → Type 0) → ((i j : ℕ) → P i → Q j → same i j ≡ other i j) → (l r : List Item) → Inside P l → Inside Q r
    → same_items same l r ≡ same_items other l r
items-agree same other P Q h [] [] p q = refl
items-agree same other P Q h [] (y ∷ r) p q = refl
items-agree same other P Q h (x ∷ l) [] p q = refl
items-agree same other P Q h (plain x ∷ l) (plain y ∷ r) p q = ap (λ b. eqb x y && b) (items-agree same other P Q h l r p q)
items-agree same other P Q h (plain x ∷ l) (inner j ∷ r) p q = refl
items-agree same other P Q h (inner i ∷ l) (plain y ∷ r) p q = refl
items-agree same other P Q h (inner i ∷ l) (inner j ∷ r) p q =
    rw (h i j p.0 q.0) (ap (λ b. other i j && b) (items-agree same other P Q h l r p.1 q.1))

module _ (same : ℕ → ℕ → Bool) where
  items-self : (P : ℕ → Type 0) → ((i : ℕ) → P i → same i i ≡ true) → (l : List Item) → Inside P l → same_items same l l ≡ true
  items-self P h [] p = refl
  items-self P h (plain x ∷ l) p = rw (eq-eqb x x refl) (items-self P h l p)
  items-self P h (inner i ∷ l) p = rw (h i p.0) (items-self P h l p.1)

  -- where both are the same as a third, they are
  items-third : (P Q R : ℕ → Type 0) → ((i j k : ℕ) → P i → Q j → R k → same i k ≡ true → same j k ≡ true → same i j ≡ true)
      → (l r t : List Item) → Inside P l → Inside Q r → Inside R t → same_items same l t ≡ true → same_items same r t ≡ true → same_items same l r ≡ true
  items-third P Q R h [] [] t p q s a b = refl
  items-third P Q R h [] (y ∷ r) [] p q s a b = never b
  items-third P Q R h [] (y ∷ r) (z ∷ t) p q s a b = never a
  items-third P Q R h (x ∷ l) [] [] p q s a b = never a
  items-third P Q R h (x ∷ l) [] (z ∷ t) p q s a b = never b
  items-third P Q R h (x ∷ l) (y ∷ r) [] p q s a b = never a
  items-third P Q R h (plain x ∷ l) (plain y ∷ r) (plain z ∷ t) p q s a b =
      let c = both (eqb x z) (same_items same l t) a in
      let d = both (eqb y z) (same_items same r t) b in
      let e : x ≡ y = omega (arith, eqb-true x z c.0, eqb-true y z d.0) in
      rw (eq-eqb x y e) (items-third P Q R h l r t p q s c.1 d.1)
  items-third P Q R h (inner i ∷ l) (inner j ∷ r) (inner k ∷ t) p q s a b =
      let c = both (same i k) (same_items same l t) a in
      let d = both (same j k) (same_items same r t) b in
      rw (h i j k p.0 q.0 s.0 c.0 d.0) (items-third P Q R h l r t p.1 q.1 s.1 c.1 d.1)
  items-third P Q R h (plain x ∷ l) (plain y ∷ r) (inner k ∷ t) p q s a b = never a
  items-third P Q R h (plain x ∷ l) (inner j ∷ r) (plain z ∷ t) p q s a b = never b
  items-third P Q R h (plain x ∷ l) (inner j ∷ r) (inner k ∷ t) p q s a b = never a
  items-third P Q R h (inner i ∷ l) (plain y ∷ r) (plain z ∷ t) p q s a b = never a
  items-third P Q R h (inner i ∷ l) (plain y ∷ r) (inner k ∷ t) p q s a b = never b
  items-third P Q R h (inner i ∷ l) (inner j ∷ r) (plain z ∷ t) p q s a b = never a

  items-join : (l r m n : List Item) → length l ≡ length r → same_items same (l ++ m) (r ++ n) ≡ same_items same l r && same_items same m n
  items-join [] [] m n e = refl
  items-join [] (y ∷ r) m n e = absurd (omega arith)
  items-join (x ∷ l) [] m n e = absurd (omega arith)
  items-join (x ∷ l) (y ∷ r) m n e =
      ap (λ b. same_item same x y && b) (items-join l r m n (omega arith)) ∙ sym (and_assoc (same_item same x y) (same_items same l r) (same_items same m n))

-- ---- a run's items: how many records, and the items of each
abbrev run_items : (ℕ → List Item) → ℕ → ℕ → List Item
run_items of first zero = []
run_items of first (suc k) = of (first + k) ++ run_items of first k

module _ (same compare : ℕ → ℕ → Bool) (of : ℕ → List Item) (long : (i j : ℕ) → length (of i) ≡ length (of j))
    (is : (i j : ℕ) → compare i j ≡ same_items same (of i) (of j)) where
  every_items : (a b m : ℕ) → every (λ j. compare (a + j) (b + j)) m ≡ same_items same (run_items of a m) (run_items of b m)
  unfolding every
  every_items a b zero = refl
  every_items a b (suc m) =
      rw (every_items a b m, is (a + m) (b + m), items-join same (of (a + m)) (of (b + m)) (run_items of a m) (run_items of b m) (long (a + m) (b + m)))
      (and_comm (same_items same (run_items of a m) (run_items of b m)) (same_items same (of (a + m)) (of (b + m))))

  run-items : (a m b n : ℕ) → listed compare a m b n ≡ same_items same (plain m ∷ run_items of a m) (plain n ∷ run_items of b n)
  unfolding listed
  run-items a m b n = go (eqb m n) refl
    where
      go : (t : Bool) → eqb m n ≡ t → choose t (λ u. every (λ j. compare (a + j) (b + j)) m) (λ u. false) ≡ t && same_items same (run_items of a m) (run_items of b n)
      go true q = let e : n ≡ m = sym (eqb-true m n q) in rw e (every_items a b m)
      go false q = refl

inside-run : (P : ℕ → Type 0) (of : ℕ → List Item) (first many : ℕ) → ((k : ℕ) → first ≤ k → k < first + many → Inside P (of k)) → Inside P (run_items of first many)
inside-run P of first zero h = tt
inside-run P of first (suc many) h =
    inside-join P (of (first + many)) (run_items of first many) (h (first + many) (omega arith) (omega arith))
    (inside-run P of first many (λ k a b. h k a (omega arith)))

-- ---- the items of a shape
abbrev link_item : ℕ → Item
link_item zero = plain 0
link_item (suc i) = inner i

abbrev field_items : List ℕ → ℕ → List Item
field_items f k = plain (word f shape_fields k 0) ∷ inner (word f shape_fields k 1) ∷ plain (word f shape_fields k 2) ∷ []

abbrev dimension_items : List ℕ → ℕ → List Item
dimension_items f k = plain (word f dimensions k 0) ∷ plain (word f dimensions k 1) ∷ []

abbrev integer_items : List ℕ → ℕ → List Item
integer_items f c = plain (word f constants c 1) ∷ plain (word f constants c 2) ∷ plain (word f constants c 3) ∷ []

unfoldable items_of : List ℕ → ℕ → ℕ → ℕ → ℕ → ℕ → List Item
items_of f kind a b c d =
    let one : List Item = plain a ∷ [] in
    get_or (
    [] ∷
    one ∷ one ∷ one ∷ one ∷ one ∷ one ∷ one ∷ one ∷
    (plain a ∷ plain b ∷ []) ∷
    (link_item d ∷ []) ∷
    (plain b ∷ run_items (field_items f) a b) ∷
    (inner a ∷ plain c ∷ run_items (dimension_items f) b c) ∷
    (inner a ∷ integer_items f b ++ integer_items f c) ∷
    one ∷ one ∷
    (inner a ∷ []) ∷
    []) kind []

module _ (f : List ℕ) (same : ℕ → ℕ → Bool) where
  link-items : (l m : ℕ) → same_link same l m ≡ same_item same (link_item l) (link_item m) && true
  unfolding same_link
  link-items zero zero = refl
  link-items zero (suc j) = ne_eqb (suc j) 0 (λ e. omega arith)
  link-items (suc i) zero = refl
  link-items (suc i) (suc j) = sym (and-true (same i j))

  field-items : (i j : ℕ) → same_field f same i j ≡ same_items same (field_items f i) (field_items f j)
  unfolding same_field
  field-items i j = simp (and-true, and_assoc)

  dimension-items : (i j : ℕ) → same_dimension f i j ≡ same_items same (dimension_items f i) (dimension_items f j)
  unfolding same_dimension
  dimension-items i j = simp and-true

  integer-items : (i j : ℕ) → same_integer f i j ≡ same_items same (integer_items f i) (integer_items f j)
  unfolding same_integer
  integer-items i j = simp (and-true, and_assoc)

  like-items : (a b c d t u v w kind : ℕ) → kind < 17
      → like_by f same false (shape_of kind a b c d) t u v w ≡ same_items same (items_of f kind a b c d) (items_of f kind t u v w)
  unfolding like_by shape_of items_of
  like-items a b c d t u v w =
      by_kind 17 (λ k. k < 17 → like_by f same false (shape_of k a b c d) t u v w ≡ same_items same (items_of f k a b c d) (items_of f k t u v w))
      (λ h. refl)
      one one one one one one one one
      (λ h. simp and-true)
      (λ h. link-items d w)
      (λ h. run-items same (same_field f same) (field_items f) (λ i j. refl) field-items a b t u)
      (λ h. ap (λ x. same a t && x) (run-items same (same_dimension f) (dimension_items f) (λ i j. refl) dimension-items b c u v))
      (λ h. simp (integer-items, and-true, and_assoc))
      one one
      (λ h. sym (and-true (same a t)))
      (λ k h. absurd (omega arith))
    where
      one : {n : ℕ} → n < 17 → eqb a t ≡ eqb a t && true
      one h = sym (and-true (eqb a t))

-- ---- shapes inside have lower numbers
inside-shape : (f : List ℕ) (n a b c d kind : ℕ) → ShapePointed f n (shape_of kind a b c d) → (kind < 17) × Inside (λ i. i < n) (items_of f kind a b c d)
unfolding shape_of items_of
inside-shape f n a b c d =
    by_kind 17 (λ k. ShapePointed f n (shape_of k a b c d) → (k < 17) × Inside (λ i. i < n) (items_of f k a b c d))
    (λ p. (omega arith, tt))
    (λ p. (omega arith, tt))
    (λ p. (omega arith, tt))
    (λ p. (omega arith, tt))
    (λ p. (omega arith, tt))
    (λ p. (omega arith, tt))
    (λ p. (omega arith, tt))
    (λ p. (omega arith, tt))
    (λ p. (omega arith, tt))
    (λ p. (omega arith, tt))
    (λ p. (omega arith, underlying d p.1))
    (λ p. (omega arith, inside-run (λ i. i < n) (field_items f) a b (λ k l h. (run_at (λ k. word f shape_fields k 1 < n) a b p.1 k l h, tt))))
    (λ p. (omega arith, (p.0, inside-run (λ i. i < n) (dimension_items f) b c (λ k l h. tt))))
    (λ p. (omega arith, (p.0, tt)))
    (λ p. (omega arith, tt))
    (λ p. (omega arith, tt))
    (λ p. (omega arith, (p, tt)))
    (λ k p. absurd p)
  where
    underlying : (d : ℕ) → Link (λ s. s < n) d → Inside (λ i. i < n) (link_item d ∷ [])
    underlying zero l = tt
    underlying (suc i) l = (l, tt)

abbrev shape_items : List ℕ → ℕ → List Item
shape_items f n = plain (word f shapes n 0) ∷ items_of f (word f shapes n 0) (word f shapes n 1) (word f shapes n 2) (word f shapes n 3) (word f shapes n 4)

-- ---- an accepted file
module _ (f : List ℕ) (a : Accepted f) where
  lower : (n : ℕ) → n < count f shapes → (word f shapes n 0 < 17) × Inside (λ i. i < n) (shape_items f n)
  unfolding shape_at
  lower n h = inside-shape f n (word f shapes n 1) (word f shapes n 2) (word f shapes n 3) (word f shapes n 4) (word f shapes n 0) (shape-pointed f a n h)

  like_is : (same : ℕ → ℕ → Bool) (m n : ℕ) → m < count f shapes → shapes_like f same false m n ≡ same_items same (shape_items f m) (shape_items f n)
  unfolding shapes_like shape_at
  like_is same m n h = go (eqb (word f shapes m 0) (word f shapes n 0)) refl
    where
      go : (t : Bool) → eqb (word f shapes m 0) (word f shapes n 0) ≡ t
          → choose t
          (λ u. like_by f same false (shape_of (word f shapes m 0) (word f shapes m 1) (word f shapes m 2) (word f shapes m 3) (word f shapes m 4))
          (word f shapes n 1) (word f shapes n 2) (word f shapes n 3) (word f shapes n 4)) (λ u. false)
          ≡ t && same_items same (items_of f (word f shapes m 0) (word f shapes m 1) (word f shapes m 2) (word f shapes m 3) (word f shapes m 4))
          (items_of f (word f shapes n 0) (word f shapes n 1) (word f shapes n 2) (word f shapes n 3) (word f shapes n 4))
      go true q =
          let e : word f shapes n 0 ≡ word f shapes m 0 = sym (eqb-true (word f shapes m 0) (word f shapes n 0) q) in
          rw e (like-items f same _ _ _ _ _ _ _ _ (word f shapes m 0) (lower m h).0)
      go false q = refl

  -- two comparisons that agree below two shapes agree on them
  pub like-agree : (same other : ℕ → ℕ → Bool) (m n : ℕ) → m < count f shapes → n < count f shapes → ((i j : ℕ) → i < m → j < n → same i j ≡ other i j)
      → shapes_like f same false m n ≡ shapes_like f other false m n
  like-agree same other m n h l q =
      like_is same m n h ∙ items-agree same other (λ i. i < m) (λ j. j < n) q (shape_items f m) (shape_items f n) (lower m h).1 (lower n l).1 ∙ sym (like_is other m n h)

  -- as soon as it suffices, fuel does not matter
  pub same-up_to : (k t m n : ℕ) → m < k → n < k → m < t → n < t → m < count f shapes → n < count f shapes → same_up_to f k m n ≡ same_up_to f t m n
  unfolding same_up_to
  same-up_to zero t m n p q u v h l = absurd (omega arith)
  same-up_to (suc k) zero m n p q u v h l = absurd (omega arith)
  same-up_to (suc k) (suc t) m n p q u v h l =
      like-agree (same_up_to f k) (same_up_to f t) m n h l
      (λ i j b c. same-up_to k t i j (omega arith) (omega arith) (omega arith) (omega arith) (omega arith) (omega arith))

  -- shapes are the same where the shapes inside are
  pub same-is : (m n : ℕ) → m < count f shapes → n < count f shapes → same_shape f m n ≡ shapes_like f (same_shape f) false m n
  unfolding same_shape same_up_to
  same-is m n h l = same-up_to (count f shapes) (suc (count f shapes)) m n h l (omega arith) (omega arith) h l

  same-items : (m n : ℕ) → m < count f shapes → n < count f shapes → same_shape f m n ≡ same_items (same_shape f) (shape_items f m) (shape_items f n)
  same-items m n h l = same-is m n h l ∙ like_is (same_shape f) m n h

  -- ---- an equivalence
  pub same_self : (n : ℕ) → n < count f shapes → same_shape f n n ≡ true
  same_self n h = go (suc n) n (omega arith) h
    where
      go : (k n : ℕ) → n < k → n < count f shapes → same_shape f n n ≡ true
      go zero n b h = absurd (omega arith)
      go (suc k) n b h =
          same-items n n h h
          ∙ items-self (same_shape f) (λ i. i < n) (λ i c. go k i (omega arith) (omega arith)) (shape_items f n) (lower n h).1

  -- where two are the same as a third, they are the same
  pub same-third : (l m n : ℕ) → l < count f shapes → m < count f shapes → n < count f shapes → same_shape f l n ≡ true → same_shape f m n ≡ true → same_shape f l m ≡ true
  same-third l m n p q r x y = go (count f shapes) l m n p q r p q r x y
    where
      go : (k l m n : ℕ) → l < k → m < k → n < k → l < count f shapes → m < count f shapes → n < count f shapes
          → same_shape f l n ≡ true → same_shape f m n ≡ true → same_shape f l m ≡ true
      go zero l m n b c d p q r x y = absurd (omega arith)
      go (suc k) l m n b c d p q r x y =
          same-items l m p q
          ∙ items-third (same_shape f) (λ i. i < l) (λ i. i < m) (λ i. i < n)
          (λ i j g s t u. go k i j g (omega arith) (omega arith) (omega arith) (omega arith) (omega arith) (omega arith))
          (shape_items f l) (shape_items f m) (shape_items f n) (lower l p).1 (lower m q).1 (lower n r).1
          (sym (same-items l n p r) ∙ x) (sym (same-items m n q r) ∙ y)

  pub same-swap : (m n : ℕ) → m < count f shapes → n < count f shapes → same_shape f m n ≡ true → same_shape f n m ≡ true
  same-swap m n h l e = same-third n m n l h l (same_self n l) e

  pub same_then : (l m n : ℕ) → l < count f shapes → m < count f shapes → n < count f shapes → same_shape f l m ≡ true → same_shape f m n ≡ true → same_shape f l n ≡ true
  same_then l m n p q r x y = same-third l n m p r q x (same-swap m n q r y)
