-- `ranking` is the lowest ranks that rise along every use, or there are none. Assumes nothing.
use Rattle.std.proofs.Math.Path.{◌≡◌, refl, ap, sym}
use Rattle.std.proofs.Common.{◌∙◌, add-zero, zero-add, arith, ext_get_or}
use Rattle.std.specs.Prelude.{Bool, List, [], ◌∷◌, ◌++◌, ltb, length}
use Rattle.std.proofs.Math.Bool.{true, false}
use Prim.Native.Nat.{ℕ, zero, suc, max, ◌+◌, ◌<◌, ◌≤◌}
use Rattle.std.proofs.Math.Decide.{ℕ_discrete}
use Rattle.std.proofs.Math.Dec.{leb}
use Rattle.std.proofs.Math.ListN.{length-replicate, get_or-replicate}
use borrow.Author.Tests.{leb-true, le-leb, ltb-true, ltb-false, lt-ltb, le-ltb}
use Rattle.definition.specs.Base.{pick}
use Rattle.definition.specs.Uses.{raise, table, rank_at, rounds, rising, Ranking, ranked, circle, ranking}
use Rattle.laws.specs.Every.{every_true, true-every, Each, each_two}

-- ---- what ranks are
-- the types that each type uses
abbrev pub Used : Type 0
Used = ℕ → List ℕ

-- only types are used
pub record Inside (n : ℕ) (used : Used) : Type 0 where
  pub inside : (t : ℕ) → t < n → Each (λ d. d < n) (used t)

-- a rank for each type, that rises along every use
pub record Rising (n : ℕ) (used : Used) (rank : ℕ → ℕ) : Type 0 where
  pub rises : (t : ℕ) → t < n → Each (λ d. rank d < rank t) (used t)

-- and no other is lower anywhere
pub record Lowest (n : ℕ) (used : Used) (rank : ℕ → ℕ) : Type 0 where
  pub up : Rising n used rank
  pub least : (other : ℕ → ℕ) → Rising n used other → (t : ℕ) → t < n → rank t ≤ other t

-- there are no ranks
pub record Round (n : ℕ) (used : Used) : Type 0 where
  pub no : (rank : ℕ → ℕ) → Rising n used rank → ⊥

-- ---- raise: the least number that is at least r and above the rank of each
pub raise-le : (f : ℕ → ℕ) (r m : ℕ) (l : List ℕ) → r ≤ m → Each (λ d. f d < m) l → raise f r l ≤ m
unfolding raise
raise-le f r m [] h e = h
raise-le f r m (d ∷ l) h e = raise-le f (max r (suc (f d))) m l (omega (arith, e.0)) e.1

pub raise-from : (f : ℕ → ℕ) (r : ℕ) (l : List ℕ) → r ≤ raise f r l
unfolding raise
raise-from f r [] = omega arith
raise-from f r (d ∷ l) = omega (arith, raise-from f (max r (suc (f d))) l)

pub raise-over : (f : ℕ → ℕ) (r m : ℕ) (l : List ℕ) → raise f r l ≤ m → Each (λ d. f d < m) l
unfolding raise
raise-over f r m [] h = tt
raise-over f r m (d ∷ l) h = (omega (arith, raise-from f (max r (suc (f d))) l), raise-over f (max r (suc (f d))) m l h)

pub raise-mono : (f g : ℕ → ℕ) (l : List ℕ) → Each (λ d. f d ≤ g d) l → raise f 0 l ≤ raise g 0 l
raise-mono f g l h =
    raise-le f 0 (raise g 0 l) l (omega arith)
    (each_two (λ d p q. omega arith) l h (raise-over g 0 (raise g 0 l) l (omega arith)))

pub raise-append : (f : ℕ → ℕ) (r : ℕ) (a b : List ℕ) → raise f r (a ++ b) ≡ raise f (raise f r a) b
unfolding raise
raise-append f r [] b = refl
raise-append f r (d ∷ a) b = raise-append f (max r (suc (f d))) a b

-- ---- rising, as a comparison of numbers
module _ {n : ℕ} {used : Used} {rank : ℕ → ℕ} where
  pub rising_le : Rising n used rank → (t : ℕ) → t < n → raise rank 0 (used t) ≤ rank t
  rising_le r t l = raise-le rank 0 (rank t) (used t) (omega arith) (r.rises t l)

  pub le-rising : ((t : ℕ) → t < n → raise rank 0 (used t) ≤ rank t) → Rising n used rank
  le-rising h = record { rises = λ t l. raise-over rank 0 (rank t) (used t) (h t l) }

-- as a test
module _ (n : ℕ) (used : Used) (rank : ℕ → ℕ) where
  pub true-rising : rising n used rank ≡ true → Rising n used rank
  unfolding rising
  true-rising h = le-rising (λ t l. leb-true _ _ (every_true (λ t. leb (raise rank 0 (used t)) (rank t)) n h t l))

  pub rising-true : Rising n used rank → rising n used rank ≡ true
  unfolding rising
  rising-true r = true-every _ n (λ t l. le-leb _ _ (rising_le r t l))

module _ {n : ℕ} {used : Used} (i : Inside n used) {rank : ℕ → ℕ} (r : Rising n used rank) where
  -- what is used is a type of lower rank
  pub rising_inside : (t : ℕ) → t < n → Each (λ d. (d < n) × (rank d < rank t)) (used t)
  rising_inside t l = each_two (λ d p q. (p, q)) (used t) (i.inside t l) (r.rises t l)

  -- what lies under ranks stays so when it is raised
  pub raise-under : (f : ℕ → ℕ) → ((t : ℕ) → t < n → f t ≤ rank t) → (t : ℕ) → t < n → raise f 0 (used t) ≤ rank t
  raise-under f h t l =
      raise-le f 0 (rank t) (used t) (omega arith)
      (each_two (λ d p q. omega (arith, h d p)) (used t) (i.inside t l) (r.rises t l))

-- ---- the rounds
table-length : (f : ℕ → ℕ) (i n : ℕ) → length (table f i n) ≡ n
unfolding table
table-length f i zero = refl
table-length f i (suc n) = ap suc (table-length f (suc i) n)

table_at : (f : ℕ → ℕ) (i n k : ℕ) → k < n → rank_at (table f i n) k ≡ f (i + k)
unfolding table rank_at
table_at f i zero k l = absurd (omega arith)
table_at f i (suc n) zero l = ap f (sym (add-zero i))
table_at f i (suc n) (suc k) l = let e : suc i + k ≡ i + suc k = omega arith in table_at f (suc i) n k (omega arith) ∙ ap f e

module _ (n : ℕ) (used : Used) where
  pub rounds-length : (k : ℕ) → length (rounds n used k) ≡ n
  unfolding rounds
  rounds-length zero = length-replicate n 0
  rounds-length (suc k) = table-length (λ t. raise (rank_at (rounds n used k)) 0 (used t)) 0 n

  rounds-zero : (t : ℕ) → t < n → rank_at (rounds n used 0) t ≡ 0
  unfolding rounds rank_at
  rounds-zero t l = get_or-replicate n t 0 0 l

  pub rounds-suc : (k t : ℕ) → t < n → rank_at (rounds n used (suc k)) t ≡ raise (rank_at (rounds n used k)) 0 (used t)
  unfolding rounds
  rounds-suc k t l =
      let g : ℕ → ℕ = λ t. raise (rank_at (rounds n used k)) 0 (used t) in
      table_at g 0 n t l ∙ ap g (zero-add t)

  module _ (i : Inside n used) where
    -- the rounds stay under all ranks
    rounds-under : (rank : ℕ → ℕ) → Rising n used rank → (k t : ℕ) → t < n → rank_at (rounds n used k) t ≤ rank t
    rounds-under rank r zero t l = omega (arith, rounds-zero t l)
    rounds-under rank r (suc k) t l = omega (arith, rounds-suc k t l, raise-under i r (rank_at (rounds n used k)) (rounds-under rank r k) t l)

    -- a rank that is at most k after k + 1 rounds did not rise in the last
    pub rounds-still : (k t : ℕ) → t < n → rank_at (rounds n used (suc k)) t ≤ k → rank_at (rounds n used (suc k)) t ≤ rank_at (rounds n used k) t
    rounds-still zero t l h = omega arith
    rounds-still (suc k) t l h =
        omega (
          arith,
          rounds-suc (suc k) t l,
          rounds-suc k t l,
          raise-mono (rank_at (rounds n used (suc k))) (rank_at (rounds n used k)) (used t)
              (each_two (λ d p q. rounds-still k d p (omega arith)) (used t)
              (i.inside t l) (raise-over (rank_at (rounds n used (suc k))) 0 (suc k) (used t) (omega (arith, rounds-suc (suc k) t l)))),
        )

-- ---- ranks below n: how many of the types are lower
fewer : (ℕ → ℕ) → ℕ → ℕ → ℕ
fewer rank zero r = 0
fewer rank (suc n) r = pick (ltb (rank n) r) 1 0 + fewer rank n r

-- one of them is counted, or is not
one-le : (x a b : ℕ) → a ≤ b → pick (ltb x a) 1 0 ≤ pick (ltb x b) 1 0
one-le x a b h = go (ltb x a) (ltb x b) refl refl
  where
    go : (p q : Bool) → ltb x a ≡ p → ltb x b ≡ q → pick p 1 0 ≤ pick q 1 0
    go true true p q = omega arith
    go true false p q = absurd (omega (arith, ltb-true x a p, ltb-false x b q))
    go false y p q = omega arith

fewer-mono : (rank : ℕ → ℕ) (n a b : ℕ) → a ≤ b → fewer rank n a ≤ fewer rank n b
unfolding fewer
fewer-mono rank zero a b h = omega arith
fewer-mono rank (suc n) a b h = omega (arith, fewer-mono rank n a b h, one-le (rank n) a b h)

-- d itself is counted only above its rank
fewer-less : (rank : ℕ → ℕ) (n d b : ℕ) → d < n → rank d < b → fewer rank n (rank d) < fewer rank n b
unfolding fewer
fewer-less rank zero d b l h = absurd (omega arith)
fewer-less rank (suc n) d b l h = go (ℕ_discrete d n) (λ k. fewer-less rank n d b k h)
  where
    go : Dec (d ≡ n) → (d < n → fewer rank n (rank d) < fewer rank n b) → fewer rank (suc n) (rank d) < fewer rank (suc n) b
    go (yes e) ih =
        rw (e, le-ltb (rank n) (rank n) (omega arith), lt-ltb (rank n) b (rw (ap rank e) at h)) (omega (arith, fewer-mono rank n (rank n) b (omega (arith, ap rank e))))
    go (no e) ih = omega (arith, ih (omega (arith, e)), one-le (rank n) (rank d) b (omega arith))

one-most : (p : Bool) → pick p 1 0 ≤ 1
one-most true = omega arith
one-most false = omega arith

fewer-most : (rank : ℕ → ℕ) (n b : ℕ) → fewer rank n b ≤ n
unfolding fewer
fewer-most rank zero b = omega arith
fewer-most rank (suc n) b = omega (arith, fewer-most rank n b, one-most (ltb (rank n) b))

-- where there are ranks, there are ranks below n
module _ {n : ℕ} {used : Used} (i : Inside n used) {rank : ℕ → ℕ} (r : Rising n used rank) where
  small : ℕ → ℕ
  small t = fewer rank n (rank t)

  small-rising : Rising n used small
  unfolding small
  small-rising = record { rises = λ t l. each_two (λ d p q. fewer-less rank n d (rank t) p q) (used t) (i.inside t l) (r.rises t l) }

  small-below : (t : ℕ) → t < n → small t < n
  unfolding small
  small-below t l = omega (arith, fewer-less rank n t (suc (rank t)) l (omega arith), fewer-most rank n (suc (rank t)))

  -- so what lies under all ranks is below n
  pub under-below : (f : ℕ → ℕ) → ((other : ℕ → ℕ) → Rising n used other → (t : ℕ) → t < n → f t ≤ other t) → (t : ℕ) → t < n → f t < n
  under-below f h t l = omega (arith, h small small-rising t l, small-below t l)

-- ---- the theorem
-- what an answer means
abbrev pub Means : ℕ → Used → Ranking → Type 0
Means n used (ranked w) = (length w ≡ n) × Lowest n used (rank_at w)
Means n used circle = Round n used

module _ {n : ℕ} {used : Used} (i : Inside n used) where
  -- after n rounds ranks are reached, if there are any
  rounds-rising : {rank : ℕ → ℕ} → Rising n used rank → Rising n used (rank_at (rounds n used n))
  rounds-rising r = le-rising (λ t l.
      omega (
        arith,
        rounds-suc n used n t l,
        rounds-still n used i n t l
            (omega (arith, under-below i r (rank_at (rounds n used (suc n))) (λ other o. rounds-under n used i other o (suc n)) t l)),
      ))

  pub ranking-means : Means n used (ranking n used)
  unfolding ranking
  ranking-means = go (rising n used (rank_at (rounds n used n))) refl
    where
      go : (b : Bool) → rising n used (rank_at (rounds n used n)) ≡ b → Means n used (pick b (ranked (rounds n used n)) circle)
      go true q = (rounds-length n used n, record { up = true-rising n used (rank_at (rounds n used n)) q; least = λ other o. rounds-under n used i other o n })
      go false q = record {
        no = λ rank r. let z : true ≡ false = sym (rising-true n used (rank_at (rounds n used n)) (rounds-rising r)) ∙ q in
            let z' : ◌≡◌ {A = ℕ} 0 1 = cc in omega arith;
      }

-- and no other answer means that
module _ (n : ℕ) (used : Used) where
  pub means-only : (x y : Ranking) → Means n used x → Means n used y → x ≡ y
  unfolding rank_at
  means-only (ranked v) (ranked w) p q =
      ap ranked (ext_get_or 0 v w (p.0 ∙ sym q.0)
      (λ t l. omega (arith, p.1.least (rank_at w) q.1.up t (omega (arith, p.0)), q.1.least (rank_at v) p.1.up t (omega (arith, p.0)))))
  means-only (ranked v) circle p q = absurd (q.no (rank_at v) p.1.up)
  means-only circle (ranked w) p q = absurd (p.no (rank_at w) q.1.up)
  means-only circle circle p q = refl

  -- an answer that means it is the ranking
  pub is-ranking : Inside n used → (x : Ranking) → Means n used x → x ≡ ranking n used
  is-ranking i x m = means-only x (ranking n used) m (ranking-means i)
