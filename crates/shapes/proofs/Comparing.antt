-- Comparing shapes: classes, links, runs, and the lowest shape that is like another. Assumes nothing.
use mathlib.Core.Path.{◌≡◌, refl, sym, ◌∙◌}
use mathlib.Core.Bool.{Bool, true, false, and-true, and-false}
use mathlib.Core.List.{List}
use Rattle.std.specs.Bool.{⊤}
use Prim.Native.Nat.{ℕ, zero, suc, ◌+◌, ◌-◌, ◌<◌, ◌≤◌}
use denote.Ref.{Bor}
use denote.Param.Members.{Mut}
use Rattle.std.specs.Prelude.{Option, Some, None, unwrap_or}
use Rattle.std.specs.Fn.{CalledAt}
use Rattle.std.specs.List.{FoldsTo}
use Rattle.std.specs.Option.{SomeIff, MatchOption}
use Rattle.std.specs.Iterator.{YieldsThen}
use Rattle.std.specs.declared.ops.Range.{Range}
use Rattle.std.proofs.iter.Yields.{nat_range_steps}
use Rattle.std.proofs.lemmas.Iterator.{first_from_Range}
use native.Mathlib.Omega.{arith}
use native.Mathlib.Decide.{ℕ_discrete}
use lib.Dec.{eqb, ltb}
use borrow.Author.Tests.{eq-eqb, ne_eqb, lt-ltb, le-ltb, ltb-true, ltb-false}
use Rattle.definition.specs.Base.{pick, every}
use Rattle.definition.specs.Layout.{shapes, word}
use Rattle.definition.specs.Records.{shape_of, shape_at}
use Rattle.definition.specs.Accept.{same_member, same_dimension, listed, same_link, like_by, shapes_like}
use Rattle.laws.specs.Cases.{never, by_kind}
use Rattle.shapes.specs.Alike.{ListedBy, same_in, like_at, told_by_first, words_like, members_like, array_like, lowest}
use Rattle.records.proofs.Listed.{more, agree_at, in-run, past}
use Rattle.records.proofs.Scanning.{scans}

-- ---- links
module _ (same : ℕ → ℕ → Bool) (m n : ℕ) {o : Option ℕ} (a : SomeIff o (1 ≤ m) (m - 1)) where
  pub link-none : o ≡ None → eqb n 0 ≡ same_link same m n
  unfolding same_link
  link-none e = let k : (1 ≤ m → ⊥) = (rw e at a) in let q : m ≡ 0 = omega (arith, k) in rw q

  first-there : {i : ℕ} → o ≡ Some i → m ≡ suc i
  first-there {i} e = let k : (1 ≤ m) × (i ≡ m - 1) = (rw e at a) in omega (arith, k.0, k.1)

  module _ {i : ℕ} (e : o ≡ Some i) {p : Option ℕ} (b : SomeIff p (1 ≤ n) (n - 1)) where
    pub link-one : p ≡ None → false ≡ same_link same m n
    unfolding same_link
    link-one h = let k : (1 ≤ n → ⊥) = (rw h at b) in let q : n ≡ 0 = omega (arith, k) in rw (first-there e, q)

    pub link-both : {j : ℕ} → p ≡ Some j → {r : Bool} → r ≡ same i j → r ≡ same_link same m n
    unfolding same_link
    link-both {j} h g = let k : (1 ≤ n) × (j ≡ n - 1) = (rw h at b) in let q : n ≡ suc j = omega (arith, k.0, k.1) in rw (first-there e, q) g

-- ---- runs
module _ (same : ℕ → ℕ → Bool) (a m b n : ℕ) where
  pub runs-differ : (m ≡ n → ⊥) → false ≡ listed same a m b n
  unfolding listed
  runs-differ p = rw (ne_eqb m n p)

  pub runs-are : m ≡ n → {r : Bool} → r ≡ every (λ j. same (a + j) (b + j)) m → r ≡ listed same a m b n
  unfolding listed
  runs-are e h = rw (eq-eqb m n e) h

pub listed-at : {answers : ℕ → ℕ → ℕ → Bool → Type 0} {a m b n c k d l : ℕ} {r : Bool} → c ≡ a → k ≡ m → d ≡ b → l ≡ n → ListedBy answers c k d l r → ListedBy answers a m b n r
listed-at p q s t x = rw (p, q, s, t) at x

-- ---- kinds whose first word tells
module _ {k : ℕ} where
  pub told-bool : k ≡ 0 → false ≡ told_by_first k
  unfolding told_by_first
  told-bool e = rw e

  pub told-sizes : (k ≡ 0 → ⊥) → k < 10 → true ≡ told_by_first k
  unfolding told_by_first
  told-sizes p h = in-run told_by_first 1 9 k (more (omega arith) p) h (refl, (refl, (refl, (refl, (refl, (refl, (refl, (refl, (refl, tt))))))))) refl

  pub told-inside : 10 ≤ k → k < 14 → false ≡ told_by_first k
  unfolding told_by_first
  told-inside l h = in-run told_by_first 10 4 k l h (refl, (refl, (refl, (refl, tt)))) refl

  pub told_names : 14 ≤ k → k < 16 → true ≡ told_by_first k
  unfolding told_by_first
  told_names l h = in-run told_by_first 14 2 k l h (refl, (refl, tt)) refl

  pub told-other : 16 ≤ k → false ≡ told_by_first k
  unfolding told_by_first
  told-other l = past told_by_first 16 k l (λ j. refl)

-- ---- shapes of one kind
pub first-is : {a b c d : ℕ} → a ≡ b → c ≡ d → eqb a c ≡ eqb b d
first-is e h = rw (e, h)

module _ (f classes : List ℕ) (enumerated : Bool) (m n : ℕ) where
  pub kinds-differ : {kind other : ℕ} → kind ≡ word f shapes m 0 → other ≡ word f shapes n 0 → (kind ≡ other → ⊥) → false ≡ shapes_like f (same_in classes) enumerated m n
  unfolding shapes_like
  kinds-differ e h p = rw (← e, ← h, ne_eqb _ _ p)

  pub kinds-are : {kind other : ℕ} → other ≡ word f shapes m 0 → kind ≡ word f shapes n 0 → other ≡ kind → {r : Bool} → r ≡ like_at f classes enumerated kind m n
      → r ≡ shapes_like f (same_in classes) enumerated m n
  unfolding shapes_like like_at shape_at
  kinds-are e h p q = rw (← e, ← h, p, eq-eqb _ _ refl) q

  -- kinds whose own words say all
  module _ {k : ℕ} {r : Bool} (e : r ≡ words_like f k m n) where
    pub by-sizes : k < 10 → r ≡ like_at f classes enumerated k m n
    unfolding like_at words_like shape_of like_by
    by-sizes l =
        e ∙ agree_at (λ k. like_at f classes enumerated k m n) (λ k. words_like f k m n) 0 10 k (omega arith) l
        (refl, (refl, (refl, (refl, (refl, (refl, (refl, (refl, (refl, (refl, tt))))))))))

    pub by_names : 14 ≤ k → k < 16 → r ≡ like_at f classes enumerated k m n
    unfolding like_at words_like shape_of like_by
    by_names l h = e ∙ agree_at (λ k. like_at f classes enumerated k m n) (λ k. words_like f k m n) 14 2 k l h (refl, (refl, tt))

  pub by-target : {k : ℕ} {r : Bool} → k ≡ 16 → r ≡ same_in classes (word f shapes m 1) (word f shapes n 1) → r ≡ like_at f classes enumerated k m n
  unfolding like_at shape_of like_by
  by-target e h = rw e h

  pub by-bounds : {k : ℕ} {r : Bool} → 10 ≤ k → k < 14 → (k ≡ 10 → ⊥) → (k ≡ 11 → ⊥) → (k ≡ 12 → ⊥) → r ≡ like_at f classes true 13 m n
      → r ≡ like_at f classes enumerated k m n
  unfolding like_at shape_of like_by
  by-bounds {k} l u a b c h = let e : k ≡ 13 = omega (arith, a, b, c) in rw e h

  pub no_kind : {k : ℕ} → (k ≡ 16 → ⊥) → 16 ≤ k → false ≡ like_at f classes enumerated k m n
  unfolding like_at shape_of like_by
  no_kind {k} p l = past (λ k. like_at f classes enumerated k m n) 17 k (more l p) (λ j. refl)

  -- own words: kinds 0 and 9 aside, the first
  pub first_word : {k : ℕ} {r : Bool} → (k ≡ 0 → ⊥) → (k ≡ 9 → ⊥) → r ≡ eqb (word f shapes m 1) (word f shapes n 1) → r ≡ words_like f k m n
  unfolding words_like
  first_word {k} {r} p o e = go (ltb k 10) refl
    where
      go : (b : Bool) → ltb k 10 ≡ b → r ≡ words_like f k m n
      go true q =
          let l = ltb-true k 10 q in
          in-run (λ k. words_like f k m n) 1 8 k (more (omega arith) p) (omega (arith, o)) (refl, (refl, (refl, (refl, (refl, (refl, (refl, (refl, tt)))))))) e
      go false q = past (λ k. words_like f k m n) 10 k (ltb-false k 10 q) (λ j. e)

  -- first words that differ, where they tell
  first-tells : (word f shapes m 1 ≡ word f shapes n 1 → ⊥) → (k : ℕ) → told_by_first k ≡ true → false ≡ like_at f classes enumerated k m n
  unfolding like_at shape_of like_by told_by_first
  first-tells p =
      by_kind 17 (λ k. told_by_first k ≡ true → false ≡ like_at f classes enumerated k m n) (λ z. never z) differ differ differ differ differ differ differ differ
      (λ z. rw (ne_eqb (word f shapes m 1) (word f shapes n 1) p))
      (λ z. never z) (λ z. never z) (λ z. never z) (λ z. never z) differ differ (λ z. never z) (λ k z. never z)
    where
      differ : true ≡ true → false ≡ eqb (word f shapes m 1) (word f shapes n 1)
      differ z = sym (ne_eqb (word f shapes m 1) (word f shapes n 1) p)

  pub told-apart : {k other own first : ℕ} → other ≡ word f shapes m 0 → k ≡ word f shapes n 0 → other ≡ k → {b : Bool} → b ≡ told_by_first k → b ≡ true
      → own ≡ word f shapes m 1 → first ≡ word f shapes n 1 → (own ≡ first → ⊥) → false ≡ shapes_like f (same_in classes) enumerated m n
  told-apart {k} e h q t b w v p = kinds-are e h q (first-tells (λ z. p (w ∙ z ∙ sym v)) k (sym t ∙ b))

  pub members-free : enumerated ≡ false → true ≡ members_like f classes enumerated m n
  unfolding members_like
  members-free e = rw e

  module _ {s : Bool} (q : s ≡ eqb (word f shapes m 3) (word f shapes n 3)) where
    pub members-stop : enumerated ≡ true → s ≡ false → false ≡ members_like f classes enumerated m n
    unfolding members_like
    members-stop e h = rw (e, ← q, h, and-false)

    pub members-go : enumerated ≡ true → s ≡ true → {r : Bool}
        → r ≡ listed (same_member f) (word f shapes m 1) (word f shapes m 2) (word f shapes n 1) (word f shapes n 2)
        → r ≡ members_like f classes enumerated m n
    unfolding members_like
    members-go e h l = rw (e, ← q, h, and-true) l

  module _ {s : Bool} (q : s ≡ same_in classes (word f shapes m 1) (word f shapes n 1)) where
    pub array-stop : s ≡ false → false ≡ array_like f classes m n
    unfolding array_like
    array-stop h = rw (← q, h)

    pub array-go : s ≡ true → {r : Bool}
        → r ≡ listed (same_dimension f) (word f shapes m 2) (word f shapes m 3) (word f shapes n 2) (word f shapes n 3) → r ≡ array_like f classes m n
    unfolding array_like
    array-go h l = rw (← q, h) l

-- ---- the lowest that meets a test
module _ (p : ℕ → Bool) where
  pub none-lower : (n : ℕ) → ((k : ℕ) → k < n → p k ≡ false) → lowest p n ≡ n
  unfolding lowest
  none-lower zero h = refl
  none-lower (suc n) h = rw (none-lower n (λ k l. h k (omega arith)), le-ltb n n (omega arith), h n (omega arith))

  pub first-lower : (n i : ℕ) → i < n → p i ≡ true → ((k : ℕ) → k < i → p k ≡ false) → lowest p n ≡ i
  unfolding lowest
  first-lower zero i l t h = absurd (omega arith)
  first-lower (suc n) i l t h = go (ℕ_discrete i n) (first-lower n i)
    where
      go : Dec (i ≡ n) → (i < n → p i ≡ true → ((k : ℕ) → k < i → p k ≡ false) → lowest p n ≡ i) → pick (ltb (lowest p n) n) (lowest p n) (pick (p n) n (suc n)) ≡ i
      go (yes q) ih = let t' : p n ≡ true = rw q at t in rw (q, none-lower n (rw q at h), le-ltb n n (omega arith), t')
      go (no q) ih = let z : i < n = omega (arith, q) in rw (ih z t h, lt-ltb i n z)

-- as the library's `find` over a range says it
module _ (p : ℕ → Bool) {F : Type 0} {g : Mut F (Bor ℕ × Unit {0}) Bool} (s u : Range ℕ) (f : F) where
  pub lowest-found : (n : ℕ) (r : Option ℕ) {m : ℕ}
      → (xs : List ℕ) × (j : F) × YieldsThen nat_range_steps s xs r u × FoldsTo (λ p x q. CalledAt g p x false q) f xs j × MatchOption r ⊤ (λ x. (h : F) × CalledAt g j x true h)
      → s ≡ record { start = 0; end = n } → ((x : ℕ) (b : Bool) (q : F) → CalledAt g f x b q → (q ≡ f) × (b ≡ p x)) → m ≡ unwrap_or r n → m ≡ lowest p n
  lowest-found n r {m} ran e k h =
      let d = first_from_Range s u f r (λ x. p x ≡ true) (λ x. p x ≡ false) ran (λ x q c. sym (k x true q c).1) (λ x q c. let w = k x false q c in (w.0, sym w.1)) in
      h ∙ go r (rw e at d)
    where
      go : (r : Option ℕ) → MatchOption r ((k : ℕ) → 0 ≤ k → k < n → p k ≡ false) (λ i. (0 ≤ i) × (i < n) × (p i ≡ true) × ((k : ℕ) → 0 ≤ k → k < i → p k ≡ false)) → unwrap_or r n ≡ lowest p n
      go None d = sym (none-lower p n (λ k l. d k (omega arith) l))
      go (Some i) d = sym (first-lower p n i d.1 d.2 (λ k l. d.3 k (omega arith) l))

pub ruleset comparing =
    (scans, link-none, link-one, link-both, runs-differ, runs-are, kinds-differ, kinds-are, told-apart, by-sizes, by_names, by-target, no_kind, members-free, members-stop, members-go, array-stop, array-go)

pub ruleset telling = (told-bool, told-sizes, told-inside, told_names, told-other)
