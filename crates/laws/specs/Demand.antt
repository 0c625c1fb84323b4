-- Demand 3, as far as it is about the definition alone. For an accepted file and ranks that rise along every use:
-- a table of outcomes meets every type's own equation exactly when it is the table that resolving gives (`table-only`, `table-solves`),
-- and then every variable's outcome follows from it (`variable-from`). A sheet passes exactly when it is the fixed words of every line under such ranks
-- (`passing`), and the writer's does, whose ranks are the lowest (`writer-passes`, `writer-lowest`). Assumes nothing.
use Rattle.std.specs.Prelude.{◌≡◌, true, ◌↔◌, List, ℕ, ◌<◌}
use Rattle.std.proofs.Common.{sym, ◌∙◌}
use Rattle.definition.specs.Layout.{count, types, variables}
use Rattle.definition.specs.Accept.{verdict}
use Rattle.definition.specs.Ask.{Outcome, Ask}
use Rattle.definition.specs.Starting.{body, declaration, type_outcome, variable_outcome}
use Rattle.definition.specs.Peek.{look}
use Rattle.definition.specs.Uses.{uses, rising, ranked, circle, ranks_of, rank_at}
use Rattle.definition.specs.Sheet.{sheet_words, check_answer}
use Rattle.laws.specs.Asks.{Asks, OnOk}
use Rattle.laws.specs.Peeking.{look-cong}
use Rattle.laws.specs.Ranked.{Ranked}
use Rattle.laws.specs.Outcomes.{types-solve, types-only, variables-look}
use Rattle.laws.specs.Ranks.{Inside, Means, Lowest, ranking-means, true-rising, rising-true}
use Rattle.laws.specs.Circles.{Circling, circle-circling, circling-circle}
use Rattle.laws.specs.Values.{Small}
use Rattle.laws.specs.Accepted.{accepted}
use Rattle.laws.specs.Used.{uses-inside}
use Rattle.laws.specs.Falling.{body-falls, declaration-asks}
use Rattle.laws.specs.Sizes.{type-small}
use Rattle.laws.specs.Passing.{Right, passes-right}
use Rattle.laws.specs.Writing.{right-passes}

-- ---- lines from lines
module _ (f : List ℕ) (e : verdict f ≡ 0) (rank : ℕ → ℕ) (up : rising (count f types) (uses f) rank ≡ true) where
  pub falls : Ranked (λ d. d < count f types) (λ d o. OnOk Small o) (body f) rank
  falls = body-falls f e rank (true-rising (count f types) (uses f) rank up).rises

  module _ (L : ℕ → Outcome) where
    pub table-only : ((t : ℕ) → t < count f types → L t ≡ look L (body f t)) → (t : ℕ) → t < count f types → L t ≡ type_outcome f t
    table-only own t l = sym (types-only f (λ d o. OnOk Small o) rank falls L own t l)

    module _ (right : (t : ℕ) → t < count f types → L t ≡ type_outcome f t) where
      -- what is asked of the one table is asked of the other
      same-look : {A : Type 0} (Q : A → Type 0) (P : ℕ → Type 0) → ((d : ℕ) → P d → d < count f types) → (m : Ask A) → Asks P (λ d o. OnOk Small o) Q m → look (type_outcome f) m ≡ look L m
      same-look Q P inside m h = look-cong P (λ d o. OnOk Small o) Q (type_outcome f) L (λ d p. sym (right d (inside d p))) (λ d p. rw (right d (inside d p)) (type-small f d)) m h

      pub table-solves : (t : ℕ) → t < count f types → L t ≡ look L (body f t)
      table-solves t l = right t l ∙ types-solve f (λ d o. OnOk Small o) rank falls t l ∙ same-look (OnOk Small) _ (λ d p. p.0) (body f t) (falls t l)

      pub variable-from : (v : ℕ) → v < count f variables → variable_outcome f v ≡ look L (declaration f v)
      variable-from v l =
          variables-look f (λ d o. OnOk Small o) rank falls (OnOk Small) v (declaration-asks f e v l)
          ∙ same-look (OnOk Small) _ (λ d p. p) (declaration f v) (declaration-asks f e v l)

-- ---- sheets
pub passing : (f s : List ℕ) → (check_answer f s ≡ 0) ↔ Right f s
passing f s = (passes-right f s, λ r. rw r.words (right-passes f r.rank r.accepted r.rises))

module _ (f : List ℕ) (e : verdict f ≡ 0) where
  inside : Inside (count f types) (uses f)
  inside = record { inside = λ t l. uses-inside f (accepted f e) t l }

  -- the ranks are the lowest that rise along every use, or there are none
  pub writer-ranks : Means (count f types) (uses f) (ranks_of f)
  unfolding ranks_of
  writer-ranks = ranking-means inside

  module _ (w : List ℕ) (q : ranks_of f ≡ ranked w) where
    pub writer-lowest : Lowest (count f types) (uses f) (rank_at w)
    writer-lowest = let m : Means (count f types) (uses f) (ranked w) = rw q at writer-ranks in m.1

    pub writer-passes : check_answer f (sheet_words f) ≡ 0
    unfolding sheet_words
    writer-passes = rw q (right-passes f (rank_at w) e (rising-true (count f types) (uses f) (rank_at w) writer-lowest.up))

  -- refusal 9 stands exactly where a type comes back to itself along uses
  pub writer-circle : (ranks_of f ≡ circle) ↔ Circling (count f types) (uses f)
  unfolding ranks_of
  writer-circle = (circle-circling inside, circling-circle inside)
