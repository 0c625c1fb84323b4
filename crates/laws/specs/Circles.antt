-- There are no ranks exactly where a type comes back to itself along uses. Assumes nothing.
use Rattle.std.specs.Prelude.{◌≡◌, refl, Bool, true, false, ◌⊎◌, ℕ, zero, suc, max, ◌+◌, ◌<◌, ◌≤◌, eqb, leb}
use Rattle.std.proofs.Common.{ap, sym, inl, inr, ⊎_elim, arith, leb-false, eq-eqb, ne_eqb}
use mathlib.Core.List.{List, [], ◌∷◌, Memᴰ}
use Rattle.std.proofs.Math.Decide.{ℕ_discrete, dec_lt}
use Rattle.definition.specs.Base.{pick}
use Rattle.definition.specs.Uses.{raise, rank_at, rounds, rising, circle, ranking}
use Rattle.laws.specs.Every.{every-false, each_in}
use Rattle.laws.specs.Ranks.{Used, Inside, Rising, Round, true-rising, rounds-suc, rounds-still, ranking-means, is-ranking}

-- from s along uses, one at least, to a type
pub data Way (used : Used) (s : ℕ) : ℕ → Type 0 where
  step : (d : ℕ) → Memᴰ d (used s) → Way used s d
  on : (t d : ℕ) → Way used s t → Memᴰ d (used t) → Way used s d

-- a type that comes back to itself
pub record Circling (n : ℕ) (used : Used) : Type 0 where
  pub type : ℕ
  pub below : type < n
  pub way : Way used type type

-- ---- a circle leaves no ranks
module _ {n : ℕ} {used : Used} (i : Inside n used) where
  way-falls : {rank : ℕ → ℕ} → Rising n used rank → {s t : ℕ} → s < n → Way used s t → (t < n) × (rank t < rank s)
  way-falls {rank} r {s} l (step d w) = (each_in (λ e. e < n) (used s) d (i.inside s l) w, each_in (λ e. rank e < rank s) (used s) d (r.rises s l) w)
  way-falls {rank} r {s} l (on t d v w) =
      let p : (t < n) × (rank t < rank s) = way-falls r l v in
      let q : rank d < rank t = each_in (λ e. rank e < rank t) (used t) d (r.rises t p.0) w in
      (each_in (λ e. e < n) (used t) d (i.inside t p.0) w, omega arith)

  pub circling-round : Circling n used → Round n used
  circling-round c = record { no = λ rank r. omega (arith, (way-falls r c.below c.way).1) }

-- ---- and where there are none, there is one
-- one that raises so far
raise-top : (f : ℕ → ℕ) (r m : ℕ) (l : List ℕ) → r ≤ m → m < raise f r l → (d : ℕ) × (Memᴰ d l) × (m ≤ f d)
unfolding raise
raise-top f r m [] h k = absurd (omega arith)
raise-top f r m (x ∷ l) h k = go (dec_lt (f x) m) (λ a. raise-top f (max r (suc (f x))) m l a k)
  where
    go : Dec (f x < m) → (max r (suc (f x)) ≤ m → (d : ℕ) × (Memᴰ d l) × (m ≤ f d)) → (d : ℕ) × (Memᴰ d (x ∷ l)) × (m ≤ f d)
    go (yes a) ih = let p = ih (omega arith) in (p.0, Memᴰ.tail p.1, p.2)
    go (no a) ih = (x, Memᴰ.head refl, omega (arith, a))

-- marks, and how many types have none
free : (ℕ → Bool) → ℕ → ℕ
free M zero = 0
free M (suc n) = pick (M n) 0 1 + free M n

mark : (ℕ → Bool) → ℕ → ℕ → Bool
mark M t s = pick (eqb s t) true (M s)

one_less : (b c : Bool) → pick (pick b true c) 0 1 ≤ pick c 0 1
one_less true c = omega arith
one_less false c = omega arith

free-mark : (M : ℕ → Bool) (t n : ℕ) → free (mark M t) n ≤ free M n
unfolding free mark
free-mark M t zero = omega arith
free-mark M t (suc n) = omega (arith, free-mark M t n, one_less (eqb n t) (M n))

free-less : (M : ℕ → Bool) (t n : ℕ) → t < n → M t ≡ false → free (mark M t) n < free M n
unfolding free mark
free-less M t zero l e = absurd (omega arith)
free-less M t (suc n) l e = go (ℕ_discrete n t) (λ k. free-less M t n k e)
  where
    go : Dec (n ≡ t) → (t < n → free (mark M t) n < free M n) → free (mark M t) (suc n) < free M (suc n)
    go (yes q) ih = rw (eq-eqb n t q, ap M q, e) (omega (arith, free-mark M t n))
    go (no q) ih = omega (arith, ih (omega (arith, q)), one_less (eqb n t) (M n))

free-most : (n : ℕ) → free (λ s. false) n ≤ n
unfolding free
free-most zero = omega arith
free-most (suc n) = omega (arith, free-most n)

mark-split : (M : ℕ → Bool) (t s : ℕ) → mark M t s ≡ true → (s ≡ t) ⊎ (M s ≡ true)
unfolding mark
mark-split M t s h = go (ℕ_discrete s t)
  where
    go : Dec (s ≡ t) → (s ≡ t) ⊎ (M s ≡ true)
    go (yes e) = inl e
    go (no e) = inr (rw (ne_eqb s t e) at h)

module _ {n : ℕ} {used : Used} (i : Inside n used) where
  -- from a type of rank k at least after k rounds, with marks on the types that lead to it: each step goes on to one of rank k - 1 at least,
  -- and there are not more types without a mark than steps, so a step meets a mark
  walk : (k : ℕ) (M : ℕ → Bool) (t : ℕ) → t < n → free M n ≤ k → k ≤ rank_at (rounds n used k) t → ((s : ℕ) → M s ≡ true → Way used s t) → Circling n used
  walk zero M t l h g w = go (M t) refl
    where
      go : (b : Bool) → M t ≡ b → Circling n used
      go true q = record { type = t; below = l; way = w t q }
      go false q = absurd (omega (arith, free-less M t n l q))
  walk (suc k) M t l h g w = go (M t) refl (walk k)
    where
      go : (b : Bool) → M t ≡ b
          → ((M : ℕ → Bool) (t : ℕ) → t < n → free M n ≤ k → k ≤ rank_at (rounds n used k) t → ((s : ℕ) → M s ≡ true → Way used s t) → Circling n used)
          → Circling n used
      go true q ih = record { type = t; below = l; way = w t q }
      go false q ih =
          let p = raise-top (rank_at (rounds n used k)) 0 k (used t) (omega arith) (omega (arith, rounds-suc n used k t l)) in
          ih (mark M t) p.0 (each_in (λ e. e < n) (used t) p.0 (i.inside t l) p.1) (omega (arith, free-less M t n l q)) p.2
          (λ s e. ⊎_elim (λ z. rw z (step p.0 p.1)) (λ z. on t p.0 (w s z) p.1) (mark-split M t s e))

-- a type that the test refuses
fails : (n : ℕ) (used : Used) (rank : ℕ → ℕ) → rising n used rank ≡ false → (t : ℕ) × (t < n) × (rank t < raise rank 0 (used t))
unfolding rising
fails n used rank h =
    let p = every-false (λ t. leb (raise rank 0 (used t)) (rank t)) n h in
    (p.0, p.1, leb-false (raise rank 0 (used p.0)) (rank p.0) p.2)

module _ {n : ℕ} {used : Used} (i : Inside n used) where
  -- what still rises in round k + 1 is above k
  rises-high : (k t : ℕ) → t < n → rank_at (rounds n used k) t < raise (rank_at (rounds n used k)) 0 (used t) → suc k ≤ rank_at (rounds n used (suc k)) t
  rises-high k t l h = go (dec_lt k (rank_at (rounds n used (suc k)) t))
    where
      go : Dec (k < rank_at (rounds n used (suc k)) t) → suc k ≤ rank_at (rounds n used (suc k)) t
      go (yes a) = a
      go (no a) = absurd (omega (arith, rounds-suc n used k t l, rounds-still n used i k t l (omega (arith, a))))

  pub round-circling : Round n used → Circling n used
  round-circling r = go (rising n used (rank_at (rounds n used n))) refl
    where
      go : (b : Bool) → rising n used (rank_at (rounds n used n)) ≡ b → Circling n used
      go true q = absurd (r.no (rank_at (rounds n used n)) (true-rising n used (rank_at (rounds n used n)) q))
      go false q =
          let p = fails n used (rank_at (rounds n used n)) q in
          walk i (suc n) (λ s. false) p.0 p.1 (omega (arith, free-most n)) (rises-high n p.0 p.1 p.2) (λ s e. let z : ◌≡◌ {A = ℕ} 0 1 = cc in absurd (omega arith))

  -- ---- so `ranking` finds a circle exactly where there is one
  pub circle-circling : ranking n used ≡ circle → Circling n used
  circle-circling e = round-circling (rw e at (ranking-means i))

  pub circling-circle : Circling n used → ranking n used ≡ circle
  circling-circle c = sym (is-ranking n used i circle (circling-round i c))
