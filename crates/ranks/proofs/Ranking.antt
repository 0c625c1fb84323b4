-- The laws of ranking one type behind another. Assumes nothing.
use mathlib.Core.Path.{◌≡◌, refl, ap, sym}
use mathlib.Core.Bool.{true}
use mathlib.Core.Logic.{◌⊎◌, inl, inr, ⊎_elim}
use mathlib.Core.List.{List, [], ◌∷◌, Memᴰ}
use Prim.Native.Nat.{ℕ, zero, suc, max, ◌+◌, ◌-◌, ◌≤◌, ◌<◌}
use native.Mathlib.Decide.{ℕ_discrete}
use native.Mathlib.Omega.{arith}
use lib.Dec.{eqb}
use lib.ListN.{length, set, length-set}
use lib.Seq.{get_or-set_same, get_or-set_other}
use borrow.Author.Tests.{eq-eqb, ne_eqb}
use Rattle.definition.specs.Base.{pick}
use Rattle.definition.specs.Uses.{uses, raise, rank_at}
use Rattle.laws.specs.Every.{each_two, each_in}
use Rattle.laws.specs.Ranks.{Rising, Lowest, Round, raise-le, raise-over, rising_inside, under-below}
use Rattle.ranks.specs.Lowest.{many, in_progress, unknown, HasRank, Words, Unknowns, Reached, Later, total, Done, Upto}

-- ---- a word set
set_at : (w : List ℕ) (t v : ℕ) → t < length w → rank_at (set w t v) t ≡ v
unfolding rank_at
set_at w t v l = get_or-set_same w t v 0 l

set-off : (w : List ℕ) (t v s : ℕ) → (s ≡ t → ⊥) → rank_at (set w t v) s ≡ rank_at w s
unfolding rank_at
set-off w t v s n = get_or-set_other w t s v 0 n

-- by cases on the place
place : (s t : ℕ) {X : Type 0} → (s ≡ t → X) → ((s ≡ t → ⊥) → X) → X
place s t {X} f g = go (ℕ_discrete s t)
  where
    go : Dec (s ≡ t) → X
    go (yes e) = f e
    go (no n) = g n

set-falls : (w : List ℕ) (t v : ℕ) → t < length w → v ≤ rank_at w t → (s : ℕ) → rank_at (set w t v) s ≤ rank_at w s
set-falls w t v l h s = place s t (λ e. rw e (omega (arith, set_at w t v l))) (λ n. omega (arith, set-off w t v s n))

-- ---- the total
total-set : (w : List ℕ) (t v : ℕ) → t < length w → v < rank_at w t → total (set w t v) < total w
unfolding total rank_at
total-set [] t v l h = absurd (omega arith)
total-set (x ∷ w) zero v l h = omega arith
total-set (x ∷ w) (suc t) v l h = omega (arith, total-set w t v (omega arith) h)

total_falls : (v w : List ℕ) → length v ≡ length w → ((s : ℕ) → s < length w → rank_at v s ≤ rank_at w s) → total v ≤ total w
unfolding total rank_at
total_falls [] [] l h = omega arith
total_falls [] (x ∷ w) l h = absurd (omega arith)
total_falls (x ∷ v) [] l h = absurd (omega arith)
total_falls (x ∷ v) (y ∷ w) l h = omega (arith, h 0 (omega arith), total_falls v w (omega arith) (λ s k. h (suc s) (omega arith)))

-- ---- the words of types
module _ {f w : List ℕ} (x : Words f w) where
  -- a word as low as a rank is one
  low-rank : (t : ℕ) → t < many f → rank_at w t < in_progress → HasRank f w t
  low-rank t l h = ⊎_elim (λ e. absurd (omega arith)) (λ y. ⊎_elim (λ e. absurd (omega arith)) (λ k. k) y) (x.says t l)

  -- and one as high as those of unknown types says so
  high-unknown : (t : ℕ) → t < many f → unknown 0 ≤ rank_at w t → rank_at w t ≡ unknown t
  high-unknown t l h = ⊎_elim (λ e. e) (λ y. absurd (⊎_elim (λ e. omega arith) (λ k. omega (arith, k.below, x.few)) y)) (x.says t l)

  -- a type's word falls, and no other
  words-set : (t v : ℕ) → t < many f → v ≤ rank_at w t
      → (rank_at (set w t v) t ≡ unknown t) ⊎ ((rank_at (set w t v) t ≡ in_progress) ⊎ HasRank f (set w t v) t) → Words f (set w t v)
  words-set t v l h y =
      let b : length w ≡ many f = x.long in
      let falls = set-falls w t v (omega arith) h in
      record {
        inside = x.inside;
        few = x.few;
        long = rw length-set b;
        says = λ s k. place s t (λ e. rw e y) (λ m. let q = set-off w t v s m in
            ⊎_elim (λ e. inl (omega arith)) (λ z. inr (⊎_elim (λ e. inl (omega arith)) (λ r. inr (record {
              below = omega (arith, r.below);
              over = each_two (λ d i j. omega (arith, falls d)) (uses f s) (x.inside.inside s k) r.over;
              least = λ other o. omega (arith, r.least other o);
            })) z)) (x.says s k));
      }

-- ---- later words
later_same : {n : ℕ} {w : List ℕ} → Later n w w
later_same = record { later = λ t l. inl refl }

-- a word that is not that of an unknown type stays
later-stays : {n : ℕ} {a b : List ℕ} → Later n a b → (t : ℕ) → t < n → rank_at a t < unknown 0 → rank_at b t ≡ rank_at a t
later-stays p t l h = ⊎_elim (λ e. e) (λ y. absurd (omega (arith, y.0))) (p.later t l)

later-then : {n : ℕ} {a b c : List ℕ} → n ≤ in_progress → Later n a b → Later n b c → Later n a c
later-then few p q = record {
  later = λ t l.
      ⊎_elim
      (λ e. ⊎_elim (λ i. inl (omega arith)) (λ y. inr (omega (arith, y.0), y.1)) (q.later t l))
      (λ y. let z = y.1 in inr (y.0, omega (arith, later-stays q t l (omega arith))))
      (p.later t l);
}

later-total : {n : ℕ} {a b : List ℕ} → Later n a b → n ≤ in_progress → length a ≡ n → length b ≡ n → total b ≤ total a
later-total {a = a} {b} p few i j =
    total_falls b a (omega arith) (λ s l. ⊎_elim (λ e. omega arith) (λ y. omega (arith, y.0, y.1)) (p.later s (omega arith)))

-- ---- a number raised above some rank is just above one of them
raise-one : (g : ℕ → ℕ) (r m : ℕ) (l : List ℕ) → raise g r l ≡ m → (m ≡ r) ⊎ ((d : ℕ) × Memᴰ d l × (suc (g d) ≡ m))
unfolding raise
raise-one g r m [] e = inl (sym e)
raise-one g r m (d ∷ l) e =
    ⊎_elim
    (λ q. place m r inl (λ n. inr (d, Memᴰ.head refl, omega (arith, n))))
    (λ x. inr (x.0, Memᴰ.tail x.1, x.2))
    (raise-one g (max r (suc (g d))) m l e)

-- ---- a type in progress
module _ {f : List ℕ} {t : ℕ} {w : List ℕ} (b : Reached f t in_progress w) {r : ℕ} (e : r ≡ raise (rank_at w) 0 (uses f t)) where
  -- where it uses no unknown type, it is so high by any ranks
  so-high : r ≤ unknown 0 → (other : ℕ → ℕ) → Rising (many f) (uses f) other → r ≤ other t
  so-high h other o =
      rw e
      (raise-le (rank_at w) 0 (other t) (uses f t) (omega arith)
      (each_two below (uses f t) (rising_inside b.words.inside o t b.inside) (raise-over (rank_at w) 0 (unknown 0) (uses f t) (omega arith))))
    where
      below : (d : ℕ) → (d < many f) × (other d < other t) → rank_at w d < unknown 0 → rank_at w d < other t
      below d p l =
          let i = p.1 in
          ⊎_elim (λ q. absurd (omega arith)) (λ y. ⊎_elim (λ q. absurd (omega (arith, b.under other o d p.0 q))) (λ k. omega (arith, k.least other o)) y)
          (b.words.says d p.0)

  -- so there are none, if it is as high as there are types
  pub none-so-high : many f ≤ r → r ≤ unknown 0 → Round (many f) (uses f)
  none-so-high h k = record {
    no = λ rank o.
        omega (
          arith,
          only t (eq-eqb t t refl),
          under-below b.words.inside o (λ s. pick (eqb s t) r 0) (λ other q s l. place s t (λ i. rw (i, eq-eqb t t refl) (so-high k other q)) (λ m. rw (ne_eqb s t m) (omega arith))) t b.inside,
        );
  }
    where
      only : (s : ℕ) → eqb s t ≡ true → pick (eqb s t) r 0 ≡ r
      only s q = rw q

  -- an unknown type that it uses
  pub unknown-first : unknown 0 < r → Reached f (r - unknown 1) (unknown (r - unknown 1)) w
  unknown-first h = ⊎_elim (λ z. absurd (omega arith)) (λ x. found x.0 x.1 x.2) (raise-one (rank_at w) 0 r (uses f t) (sym e))
    where
      found : (d : ℕ) → Memᴰ d (uses f t) → suc (rank_at w d) ≡ r → Reached f (r - unknown 1) (unknown (r - unknown 1)) w
      found d m q =
          let x = b.words in
          let l : d < many f = each_in (λ d. d < many f) (uses f t) d (x.inside.inside t b.inside) m in
          let i : rank_at w d ≡ unknown d = high-unknown x d l (omega arith) in
          let j : r - unknown 1 ≡ d = omega arith in
          rw j
          (record {
            words = x;
            inside = l;
            has = i;
            under = λ other o s k p. omega (arith, each_in (λ d. other d < other t) (uses f t) d (o.rises t b.inside) m, b.under other o s k p);
          })

  -- its rank
  ranked-words : r < many f → Words f (set w t r)
  ranked-words h =
      let x = b.words in
      let y : t < length w = omega (arith, b.inside, x.long) in
      let z : r ≤ rank_at w t = omega (arith, b.has, x.few) in
      let q = set_at w t r y in
      words-set x t r b.inside z
      (inr (inr (record {
        below = omega arith;
        over = each_two (λ d i j. omega (arith, set-falls w t r y z d)) (uses f t) (x.inside.inside t b.inside) (raise-over (rank_at w) 0 r (uses f t) (omega arith));
        least = λ other o. omega (arith, so-high (omega (arith, x.few)) other o);
      })))

-- ---- the work on a type, from words in which it is in progress
pub record Goes (f : List ℕ) (t : ℕ) (start w : List ℕ) : Type 0 where
  pub reached : Reached f t in_progress w
  pub later : Later (many f) start w
  pub long : length start ≡ many f

pub goes-start : {f : List ℕ} {t : ℕ} {w : List ℕ} → Reached f t (unknown t) w → Goes f t (set w t in_progress) (set w t in_progress)
goes-start {f} {t} {w} b =
    let x = b.words in
    let y : t < length w = omega (arith, b.inside, x.long) in
    let q = set_at w t in_progress y in
    let k : length w ≡ many f = x.long in
    record {
      reached = record {
        words = words-set x t in_progress b.inside (omega (arith, b.has)) (inr (inl q));
        inside = b.inside;
        has = q;
        under = λ other o s l i. place s t (λ e. let z : other s ≡ other t = ap other e in omega arith) (λ m. b.under other o s l (omega (arith, set-off w t in_progress s m)));
      };
      later = later_same;
      long = rw length-set k;
    }

-- another type is ranked
pub goes-next : {f : List ℕ} {t : ℕ} {start w : List ℕ} → Goes f t start w → {u : ℕ} {new : List ℕ} → Done f u w new → Goes f t start new
goes-next {t = t} g d =
    let b = g.reached in
    record {
      reached = record {
        words = d.words;
        inside = b.inside;
        has = omega (arith, later-stays d.later t b.inside (omega (arith, b.has)), b.has);
        under = λ other o s l i. b.under other o s l
            (⊎_elim (λ e. omega arith) (λ y. absurd (omega (arith, y.1, b.words.few))) (d.later.later s l));
      };
      later = later-then b.words.few g.later d.later;
      long = g.long;
    }

module _ {f : List ℕ} {t : ℕ} {old : List ℕ} (a : Reached f t (unknown t) old) {w : List ℕ} (g : Goes f t (set old t in_progress) w) where
  -- its own word fell at the start
  pub goes-less : total w < total old
  goes-less =
      let x = g.reached.words in
      omega (
        arith,
        total-set old t in_progress (omega (arith, a.inside, a.words.long)) (omega (arith, a.has)),
        later-total g.later x.few g.long x.long,
      )

  -- it is ranked, behind the others
  pub goes-done : {r : ℕ} → r < many f → r ≡ raise (rank_at w) 0 (uses f t) → Done f t old (set w t r)
  goes-done {r} h e =
      let b = g.reached in
      let y : t < length w = omega (arith, b.inside, b.words.long) in
      let q = set_at w t r y in
      record {
        words = ranked-words b e h;
        later = record {
          later = λ s l. place s t (λ i. rw i (inr (a.has, omega arith))) (λ m.
              let j = set-off w t r s m in let k = set-off old t in_progress s m in
              ⊎_elim (λ p. inl (omega arith)) (λ p. inr (omega (arith, p.0), omega (arith, p.1))) (g.later.later s l));
        };
        has = omega arith;
        less = omega (arith, goes-less, total-set w t r y (omega (arith, b.has, b.words.few)));
      }

-- ---- all types
pub upto-start : {f w : List ℕ} → Words f w → Unknowns (many f) w → Upto f 0 w
upto-start x u = record { words = x; idle = λ s l e. omega (arith, u.word s l); low = λ s k l. absurd (omega arith) }

module _ {f : List ℕ} {t : ℕ} {w : List ℕ} (i : Upto f t w) where
  pub upto-reached : t < many f → unknown 0 ≤ rank_at w t → Reached f t (unknown t) w
  upto-reached l h = record { words = i.words; inside = l; has = high-unknown i.words t l h; under = λ other o s k e. absurd (i.idle s k e) }

  upto-more : t < many f → {new : List ℕ} → Words f new → Later (many f) w new → rank_at new t < many f → Upto f (t + 1) new
  upto-more l {new} x p h =
      let few = x.few in
      record {
        words = x;
        idle = λ s k e. ⊎_elim (λ q. i.idle s k (omega arith)) (λ y. omega (arith, y.1)) (p.later s k);
        low = λ s j k. place s t (λ e. rw e h) (λ m.
            let q = i.low s (omega (arith, m)) k in omega (arith, later-stays p s k (omega arith)));
      }

  pub upto_done : t < many f → {new : List ℕ} → Done f t w new → Upto f (t + 1) new
  upto_done l d = upto-more l d.words d.later d.has

  pub upto_skip : t < many f → rank_at w t < unknown 0 → Upto f (t + 1) w
  upto_skip l h = upto-more l i.words later_same
      (⊎_elim (λ e. absurd (omega arith)) (λ y. ⊎_elim (λ e. absurd (i.idle t l e)) (λ k. k.below) y) (i.words.says t l))

pub upto_all : {f w : List ℕ} → Upto f (many f) w → Lowest (many f) (uses f) (rank_at w)
upto_all {f} {w} i =
    let few = i.words.few in
    let rank : (s : ℕ) → s < many f → HasRank f w s = λ s l. low-rank i.words s l (omega (arith, i.low s l l)) in
    record { up = record { rises = λ s l. (rank s l).over }; least = λ other o s l. (rank s l).least other o }
