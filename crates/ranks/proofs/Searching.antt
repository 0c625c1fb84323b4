-- What the functions of the search for the lowest ranks hand to each other. Assumes nothing.
use mathlib.Core.Path.{◌≡◌, refl, ap, ◌∙◌}
use mathlib.Core.Bool.{Bool, true, false}
use mathlib.Core.Logic.{inl}
use mathlib.Core.List.{List}
use Prim.Native.Nat.{ℕ, ◌+◌, ◌-◌, ◌^◌, ◌≤◌, ◌<◌}
use native.Mathlib.Omega.{arith}
use lib.ListN.{length, get_or, set, replicate}
use lib.Seq.{get_or-set_same, get_or-set_other}
use borrow.Author.Count.{below_more}
use borrow.Author.Rules.{rules}
use Rattle.std.specs.Prelude.{Result, Ok, Err}
use Rattle.std.specs.Result.{is_err}
use Rattle.definition.specs.Answers.{cleared}
use Rattle.definition.specs.Uses.{uses, raise, rank_at, ranked, circle, ranks_of}
use Rattle.laws.specs.Accepted.{Accepted, few-types}
use Rattle.laws.specs.Ranks.{Inside, Round, is-ranking}
use Rattle.laws.specs.Used.{uses-inside}
use Rattle.ranks.specs.declared.lowest.Circle.{Circle}
use Rattle.ranks.specs.declared.lowest.Next.{Next}
use Rattle.ranks.specs.declared.lowest.Next.TheVariants as next
use Rattle.ranks.specs.Lowest.{Found, Ranked, many, in_progress, unknown, Unknowns, Reached, Upto, total, Tells, TellsOf, Done, Ends}
use Rattle.ranks.proofs.Ranking.{unknown-first, none-so-high, Goes, goes-start, goes-next, goes-less, goes-done, upto-start, upto-reached, upto_done, upto_skip, upto_all}

-- ---- words of unknown types
pub unknowns-start : (w : List ℕ) → Unknowns 0 w
unknowns-start w = record { word = λ t l. absurd (omega arith) }

pub unknowns-on : {i : ℕ} {w : List ℕ} → Unknowns i w → i < length w → {v : ℕ} → v ≡ 2048 + i → Unknowns (i + 1) (set w i v)
unfolding rank_at
unknowns-on {i} {w} u l {v} e = record {
  word = below_more (λ t. rank_at (set w i v) t ≡ unknown t) i
      (λ t k. get_or-set_other w i t v 0 (λ q. omega arith) ∙ u.word t k) (get_or-set_same w i v 0 l ∙ e);
}

pub unknowns-end : {i : ℕ} {w : List ℕ} → Unknowns i w → length w ≤ i → {n : ℕ} → length w ≡ n → Unknowns n w
unknowns-end u h e = record { word = λ t l. u.word t (omega arith) }

pub ruleset forgetting = (rules, unknowns-start, unknowns-on, unknowns-end)

-- ---- what comes next
module _ {f : List ℕ} {t : ℕ} {w : List ℕ} (b : Reached f t in_progress w) {r : ℕ} (e : r ≡ raise (rank_at w) 0 (uses f t)) where
  pub tells-rank : r < length w → Tells f t w (Ok (next.Rank r))
  tells-rank h = record { tells = (omega (arith, b.words.long), e) }

  pub first_fits : 2048 < r → {u : ℕ} → u ≡ r - 2048 - 1 → u < 2 ^ 32
  first_fits h q = let l = (unknown-first b e h).inside in let k = b.words.few in omega arith

  pub tells_first : 2048 < r → {u : ℕ} → u ≡ r - 2048 - 1 → Tells f t w (Ok (next.First u))
  tells_first h {u} q = let j : u ≡ r - 2049 = omega arith in record { tells = rw j (unknown-first b e h) }

  pub tells-circle : length w ≤ r → r ≤ 2048 → {c : Circle} → Tells f t w (Err c)
  tells-circle h k = record { tells = none-so-high b e (omega (arith, b.words.long)) k }

pub rank-fits : {f : List ℕ} {t v : ℕ} {w : List ℕ} → Reached f t v w → {r : ℕ} → r < length w → r < 2 ^ 32
rank-fits b h = omega (arith, b.words.few, b.words.long)

pub ruleset telling = (rules, rank-fits, tells-rank, first_fits, tells_first, tells-circle)

-- ---- what an answer says
module _ {f : List ℕ} {A : Type 0} where
  pub ends-ranks : {r : Ranked} → Ends f A r → {u : Unit {0}} → r ≡ Ok u → A
  ends-ranks x e = rw e at x.ends

  pub ends-round : {r : Ranked} → Ends f A r → {c : Circle} → r ≡ Err c → Round (many f) (uses f)
  ends-round x e = rw e at x.ends

  pub ends-passed : {r : Ranked} → Ends f A r → {c : Circle} → r ≡ Err c → {B : Type 0} → Ends f B r
  ends-passed x e = rw e (record { ends = ends-round x e })

  pub ends_as : (r : Ranked) → Ends f A r → {B : Type 0} → (A → B) → Ends f B r
  ends_as (Ok u) x h = record { ends = h x.ends }
  ends_as (Err c) x h = record { ends = x.ends }

pub tells-of : {f : List ℕ} {t : ℕ} {w : List ℕ} {r : Result Next Circle} → Tells f t w r → {q : Next} → r ≡ Ok q → {p : Next} → q ≡ p → TellsOf f t w (Ok p)
tells-of x e i = rw i at (rw e at x.tells)

-- ---- one type
pub type-room : {f : List ℕ} {t v : ℕ} {w : List ℕ} → Reached f t v w → t < length w
type-room b = omega (arith, b.inside, b.words.long)

pub type-first : {f : List ℕ} {t u : ℕ} {w : List ℕ} {r : Result Next Circle} → Tells f t w r → {q : Next} → r ≡ Ok q → q ≡ next.First u → Reached f u (unknown u) w
type-first x e i = tells-of x e i

module _ {f : List ℕ} {t : ℕ} {start w : List ℕ} (g : Goes f t start w) where
  pub type-reached : Reached f t 1024 w
  type-reached = g.reached

  pub type-long : {old : List ℕ} → Reached f t (unknown t) old → (new : List ℕ) → length new ≡ length w → length new ≡ length old
  type-long a new e = omega (arith, g.reached.words.long, a.words.long)

  pub type-on : {u : ℕ} {r : Ranked} {new : List ℕ} → Ends f (Done f u w new) r → {k : Unit {0}} → r ≡ Ok k → Goes f t start new
  type-on x e = goes-next g (ends-ranks x e)

pub type-less : {f : List ℕ} {u : ℕ} {w new : List ℕ} {r : Ranked} → Ends f (Done f u w new) r → {k : Unit {0}} → r ≡ Ok k → total new < total w
type-less x e = (ends-ranks x e).less

module _ {f : List ℕ} {t : ℕ} {old : List ℕ} (a : Reached f t (unknown t) old) {w : List ℕ} (g : Goes f t (set old t 1024) w) where
  pub type-falls : {m : ℕ} → total old ≡ m → total w < m
  type-falls e = omega (arith, goes-less a g)

  pub type-ranked : {r : Result Next Circle} → Tells f t w r → {q : Next} → r ≡ Ok q → {k : ℕ} → q ≡ next.Rank k → Ends f (Done f t old (set w t k)) (Ok tt)
  type-ranked x e i = let y = tells-of x e i in record { ends = goes-done a g y.0 y.1 }

pub type-circle : {f : List ℕ} {t : ℕ} {w : List ℕ} {r : Result Next Circle} → Tells f t w r → {c : Circle} → r ≡ Err c → {A : Type 0} → Ends f A (Err c)
type-circle x e = record { ends = rw e at x.tells }

pub ruleset typing = (rules, goes-start, type-room, type-first, type-reached, type-long, type-on, type-less, type-falls, type-ranked, type-circle, ends-passed)

-- ---- the next type
module _ {f : List ℕ} {t : ℕ} {w : List ℕ} (i : Upto f t w) (l : t < length w) where
  next-inside : t < many f
  next-inside = omega (arith, i.words.long)

  pub next-reached : 2048 ≤ get_or w t 0 → Reached f t (unknown t) w
  unfolding rank_at
  next-reached h = upto-reached i next-inside h

  pub next-skips : get_or w t 0 < 2048 → Ends f (Upto f (t + 1) w) (Ok tt)
  unfolding rank_at
  next-skips h = record { ends = upto_skip i next-inside h }

  pub next-ranked : {r : Ranked} {new : List ℕ} → Ends f (Done f t w new) r → Ends f (Upto f (t + 1) new) r
  next-ranked {r} x = ends_as r x (upto_done i next-inside)

pub ruleset nexts = (rules, next-reached, next-skips, next-ranked)

-- ---- all types
module _ {f : List ℕ} {t : ℕ} {w : List ℕ} (i : Upto f t w) where
  pub all_fit : length w < 2 ^ 32
  all_fit = omega (arith, i.words.few, i.words.long)

  pub all-many : {n : ℕ} → n ≡ length w → n ≡ many f
  all-many e = omega (arith, i.words.long)

  pub all_room : {n : ℕ} → n ≡ many f → t < n → t < length w
  all_room e l = omega (arith, i.words.long)

  pub all-long : {s : ℕ} {v : List ℕ} → Upto f s v → length v ≡ length w
  all-long j = omega (arith, i.words.long, j.words.long)

  pub all-ranked : {n : ℕ} → n ≡ many f → n ≤ t → Ends f (Upto f (many f) w) (Ok tt)
  all-ranked e l = record { ends = record { words = i.words; idle = i.idle; low = λ s j k. i.low s (omega arith) k } }

pub all-on : {f : List ℕ} {t : ℕ} {w : List ℕ} {r : Ranked} → Ends f (Upto f t w) r → {u : Unit {0}} → r ≡ Ok u → Upto f t w
all-on x e = ends-ranks x e

pub ruleset everything = (rules, all_fit, all_room, all-many, all-long, all-on, all-ranked, ends-passed)

-- ---- the answer
module _ {f : List ℕ} (a : Accepted f) where
  inside : Inside (many f) (uses f)
  inside = record { inside = λ t k. uses-inside f a t k }

  pub answer-few : {n : ℕ} → n ≡ many f → n ≤ 1024
  answer-few e = omega (arith, few-types f a)

  pub answer-start : (w : List ℕ) {n : ℕ} → Unknowns n w → n ≡ many f → length w ≡ n → Upto f 0 w
  answer-start w u e l =
      upto-start
      (record { inside = inside; few = few-types f a; long = omega arith; says = λ t k. inl (u.word t (omega arith)) })
      (record { word = λ t k. u.word t (omega arith) })

  module _ {r : Ranked} {w : List ℕ} (x : Ends f (Upto f (many f) w) r) where
    pub answer-ranks : {u : Unit {0}} → r ≡ Ok u → {n : ℕ} → Found (ranks_of f) n (Ok tt) w
    unfolding ranks_of
    answer-ranks e =
        let y : Upto f (many f) w = ends-ranks x e in
        rw (← is-ranking (many f) (uses f) inside (ranked w) (y.words.long, upto_all y)) (record { says = refl; wrote = refl })

    pub answer-circle : {c : Circle} → r ≡ Err c → {m n : ℕ} → length w ≡ m → m ≡ n → {new : List ℕ} → new ≡ cleared w → Found (ranks_of f) n (Err c) new
    unfolding ranks_of cleared
    answer-circle e l k q =
        rw (← is-ranking (many f) (uses f) inside circle (ends-round x e)) (record { says = refl; wrote = q ∙ ap (λ (k : ℕ). replicate k 0) (l ∙ k) })

  module _ {b : Bool} {w : List ℕ} where
    pub answer-kept : (r : Ranked) → Ends f (Upto f (many f) w) r → b ≡ is_err r → b ≡ false → {n : ℕ} → Found (ranks_of f) n r w
    answer-kept (Ok u) x e h = answer-ranks x refl
    answer-kept (Err c) x e h = let z : ◌≡◌ {A = ℕ} 0 1 = cc in absurd (omega arith)

    pub answer-left : (r : Ranked) → Ends f (Upto f (many f) w) r → b ≡ is_err r → b ≡ true → {n : ℕ} → length w ≡ n → {new : List ℕ} → new ≡ cleared w
        → Found (ranks_of f) n r new
    answer-left (Ok u) x e h l q = let z : ◌≡◌ {A = ℕ} 0 1 = cc in absurd (omega arith)
    answer-left (Err c) x e h l q = answer-circle x refl l refl q

pub ruleset answering = (rules, answer-few, answer-start, answer-kept, answer-left)
