-- Alike shapes have one key. Assumes nothing.
use mathlib.Core.Path.{◌≡◌, refl, sym, ap, ◌∙◌}
use mathlib.Core.Bool.{Bool, true, false, not}
use mathlib.Core.List.{List}
use Prim.Native.Nat.{ℕ, zero, suc, ◌+◌, ◌*◌, ◌^◌, ◌≤◌, ◌<◌}
use native.Mathlib.Omega.{arith}
use native.Mathlib.Numerals.{add-one}
use lib.Dec.{eqb}
use lib.ListN.{length, get_or, drop, length-append, get_or-append}
use borrow.Author.Rules.{rules}
use borrow.Author.Tests.{eqb-true}
use Rattle.definition.specs.Base.{every, choose}
use Rattle.definition.specs.Layout.{shapes, members, shape_fields, dimensions, count, word}
use Rattle.definition.specs.Records.{shape_of, shape_at}
use Rattle.definition.specs.Accept.{listed, same_member, same_field, same_dimension, same_integer, same_link, like_by, shapes_like, alike, shapes_differ}
use Rattle.laws.specs.Cases.{never, both, by_kind}
use Rattle.records.specs.Tables.{Filled, table_of, table-length, table_at}
use Rattle.shapes.specs.Keys.{run_sum, key_by, key_of, Keyed}

module _ (f : List ℕ) where
  -- ---- runs that list the same
  module _ (same : ℕ → ℕ → Bool) (s place : ℕ) (one : (i j : ℕ) → same i j ≡ true → word f s i place ≡ word f s j place) where
    every-sum : (a b m : ℕ) → every (λ j. same (a + j) (b + j)) m ≡ true → run_sum f s place a m ≡ run_sum f s place b m
    unfolding every run_sum
    every-sum a b zero e = refl
    every-sum a b (suc m) e =
        let p = both (every (λ j. same (a + j) (b + j)) m) (same (a + m) (b + m)) e in
        rw (every-sum a b m p.0, one (a + m) (b + m) p.1)

    listed-sum : (a m b n : ℕ) → listed same a m b n ≡ true → run_sum f s place a m ≡ run_sum f s place b n
    unfolding listed
    listed-sum a m b n e = go (eqb m n) refl e
      where
        go : (t : Bool) → eqb m n ≡ t → choose t (λ u. every (λ j. same (a + j) (b + j)) m) (λ u. false) ≡ true → run_sum f s place a m ≡ run_sum f s place b n
        go true q h = let z : n ≡ m = sym (eqb-true m n q) in rw z (every-sum a b m h)
        go false q h = never h

  member-word : (i j : ℕ) → same_member f i j ≡ true → word f members i 0 ≡ word f members j 0
  unfolding same_member
  member-word i j e = eqb-true (word f members i 0) (word f members j 0) e

  field-word : (i j : ℕ) → same_field f eqb i j ≡ true → word f shape_fields i 0 ≡ word f shape_fields j 0
  unfolding same_field
  field-word i j e = eqb-true (word f shape_fields i 0) (word f shape_fields j 0) (both (eqb (word f shape_fields i 0) (word f shape_fields j 0)) (eqb (word f shape_fields i 1) (word f shape_fields j 1)) (both _ (eqb (word f shape_fields i 2) (word f shape_fields j 2)) e).0).0

  dimension-word : (i j : ℕ) → same_dimension f i j ≡ true → word f dimensions i 1 ≡ word f dimensions j 1
  unfolding same_dimension
  dimension-word i j e = eqb-true (word f dimensions i 1) (word f dimensions j 1) (both (eqb (word f dimensions i 0) (word f dimensions j 0)) (eqb (word f dimensions i 1) (word f dimensions j 1)) e).1

  -- ---- shapes of one kind
  key-like : (a b c d t u v w k : ℕ) → like_by f eqb true (shape_of k a b c d) t u v w ≡ true → key_by f k a b c ≡ key_by f k t u v
  unfolding like_by shape_of key_by
  key-like a b c d t u v w =
      by_kind 17 (λ k. like_by f eqb true (shape_of k a b c d) t u v w ≡ true → key_by f k a b c ≡ key_by f k t u v) (λ e. refl) first first first first first first first first
      (λ e. first (both (eqb a t) (eqb b u) e).0)
      (λ e. listed-sum (same_member f) members 0 member-word a b t u (both _ (eqb c v) (both _ (same_link eqb d w) e).0).0)
      (λ e. listed-sum (same_field f eqb) shape_fields 0 field-word a b t u e)
      (λ e. listed-sum (same_dimension f) dimensions 1 dimension-word b c u v (both (eqb a t) _ e).1)
      (λ e. first (both (eqb a t) (same_integer f b u) (both _ (same_integer f c v) e).0).0)
      first first first
      (λ k e. never e)
    where
      first : eqb a t ≡ true → a ≡ t
      first e = eqb-true a t e

  pub alike-key : (m n : ℕ) → alike f m n ≡ true → key_of f m ≡ key_of f n
  unfolding alike shapes_like shape_at key_of
  alike-key m n e = go (eqb (word f shapes m 0) (word f shapes n 0)) refl e
    where
      go : (t : Bool) → eqb (word f shapes m 0) (word f shapes n 0) ≡ t
          → choose t
          (λ u. like_by f eqb true (shape_of (word f shapes m 0) (word f shapes m 1) (word f shapes m 2) (word f shapes m 3) (word f shapes m 4))
          (word f shapes n 1) (word f shapes n 2) (word f shapes n 3) (word f shapes n 4)) (λ u. false) ≡ true
          → key_by f (word f shapes m 0) (word f shapes m 1) (word f shapes m 2) (word f shapes m 3) ≡ key_by f (word f shapes n 0) (word f shapes n 1) (word f shapes n 2) (word f shapes n 3)
      go true q h =
          let z : word f shapes n 0 ≡ word f shapes m 0 = sym (eqb-true (word f shapes m 0) (word f shapes n 0) q) in
          rw z (key-like _ _ _ _ _ _ _ _ (word f shapes m 0) h)
      go false q h = never h

  pub keys-differ : (m n : ℕ) {x y : ℕ} → x ≡ key_of f m → y ≡ key_of f n → (x ≡ y → ⊥) → false ≡ alike f m n
  keys-differ m n e h p = go (alike f m n) refl
    where
      go : (t : Bool) → alike f m n ≡ t → false ≡ t
      go true q = absurd (p (e ∙ alike-key m n q ∙ sym h))
      go false q = refl

  -- ---- a sum, word by word
  pub record Summed (s place first j sum : ℕ) : Type 0 where
    pub is : sum ≡ run_sum f s place first j
    pub most : sum ≤ j * 2 ^ 32

  module _ {s place first : ℕ} where
    pub none-summed : Summed s place first 0 0
    unfolding run_sum
    none-summed = record { is = refl; most = omega arith }

    pub one-summed : {j sum w : ℕ} → Summed s place first j sum → w ≡ word f s (first + j) place → w < 2 ^ 32 → Summed s place first (j + 1) (sum + w)
    unfolding run_sum
    one-summed {j} {sum} {w} i e l = record { is = rw (add-one, e, i.is); most = omega (arith, i.most) }

    pub all-summed : {j sum : ℕ} → Summed s place first j sum → (m : ℕ) → j ≤ m → m ≤ j → sum ≡ run_sum f s place first m
    all-summed {j} i m h l = let e : m ≡ j = omega arith in rw e i.is

  -- ---- keys by kind
  module _ (n : ℕ) {kind a b c : ℕ} (k : kind ≡ word f shapes n 0) (p : a ≡ word f shapes n 1) (q : b ≡ word f shapes n 2) (r : c ≡ word f shapes n 3) where
    pub key-bool : kind ≡ 0 → 0 ≡ key_of f n
    unfolding key_of key_by
    key-bool e = rw (← k, e)

    pub key-members : kind ≡ 10 → {x : ℕ} → x ≡ run_sum f members 0 a b → x ≡ key_of f n
    unfolding key_of key_by
    key-members e h = rw (← k, e, ← p, ← q) h

    pub key-fields : kind ≡ 11 → {x : ℕ} → x ≡ run_sum f shape_fields 0 a b → x ≡ key_of f n
    unfolding key_of key_by
    key-fields e h = rw (← k, e, ← p, ← q) h

    pub key-dimensions : kind ≡ 12 → {x : ℕ} → x ≡ run_sum f dimensions 1 b c → x ≡ key_of f n
    unfolding key_of key_by
    key-dimensions e h = rw (← k, e, ← q, ← r) h

    pub key-word : (kind ≡ 0 → ⊥) → (kind ≡ 10 → ⊥) → (kind ≡ 11 → ⊥) → (kind ≡ 12 → ⊥) → a ≡ key_of f n
    unfolding key_of key_by
    key-word z x y w = p ∙ rw (← k) (go kind z x y w)
      where
        go : (kind : ℕ) → (kind ≡ 0 → ⊥) → (kind ≡ 10 → ⊥) → (kind ≡ 11 → ⊥) → (kind ≡ 12 → ⊥)
            → word f shapes n 1 ≡ key_by f kind (word f shapes n 1) (word f shapes n 2) (word f shapes n 3)
        go =
            by_kind 13
            (λ k. (k ≡ 0 → ⊥) → (k ≡ 10 → ⊥) → (k ≡ 11 → ⊥) → (k ≡ 12 → ⊥) → word f shapes n 1 ≡ key_by f k (word f shapes n 1) (word f shapes n 2) (word f shapes n 3))
            (λ z x y w. absurd (z refl))
            (λ z x y w. refl)
            (λ z x y w. refl)
            (λ z x y w. refl)
            (λ z x y w. refl)
            (λ z x y w. refl)
            (λ z x y w. refl)
            (λ z x y w. refl)
            (λ z x y w. refl)
            (λ z x y w. refl)
            (λ z x y w. absurd (x refl))
            (λ z x y w. absurd (y refl))
            (λ z x y w. absurd (w refl))
            (λ k z x y w. refl)

-- ---- tables of keys
module _ (f : List ℕ) where
  pub keyed-less : {keys : List ℕ} {many : ℕ} → Keyed f keys many → (n : ℕ) → n < many → Keyed f keys (suc n)
  keyed-less k n h = record { room = omega (arith, k.room); at = λ i l. k.at i (omega arith) }

  pub keyed-filled : {many : ℕ} {lent keys : List ℕ} → Filled (key_of f) many lent keys → Keyed f keys many
  keyed-filled {many} {lent} {keys} i =
      record {
        room =
            let e : length keys ≡ length (table_of (key_of f) many) + length (drop many lent) = ap length i.is ∙ length-append (table_of (key_of f) many) (drop many lent) in
            omega (arith, table-length (key_of f) many);
        at = λ n h.
            let l : n < length (table_of (key_of f) many) = omega (arith, table-length (key_of f) many) in
            rw i.is (get_or-append (table_of (key_of f) many) (drop many lent) 0 n l ∙ table_at (key_of f) many n 0 h);
      }

  pub all_apart : {many : ℕ} {r : Bool} → many ≡ count f shapes → r ≡ every (λ n. every (λ m. not (alike f m n)) n) many → r ≡ shapes_differ f
  unfolding shapes_differ
  all_apart e h = rw (← e) h

  module _ (n : ℕ) where
    pub keyed-apart : {keys : List ℕ} → Keyed f keys (suc n) → (m : ℕ) → m < n → (get_or keys m 0 ≡ get_or keys n 0 → ⊥) → false ≡ alike f m n
    keyed-apart k m l p = keys-differ f m n (k.at m (omega arith)) (k.at n (omega arith)) p

pub ruleset summing = (rules, none-summed, one-summed, all-summed)

pub ruleset keying = (rules, key-bool, key-members, key-fields, key-dimensions, key-word)

pub ruleset apart = (rules, keyed-less, keyed-filled, all_apart, keyed-apart)
