-- The outcomes of a declaration file: where its types are ranked, each is what its own computation gives by the others; in any file, each has what every computation keeps.
-- Assumes nothing.
use Rattle.std.specs.Prelude.{◌≡◌, refl, ℕ, zero, suc, ◌<◌}
use mathlib.Core.List.Memᴰ
use mathlib.Core.List.{List, Memᴰ}
use Rattle.std.proofs.Common.{arith, ne_eqb}
use Rattle.std.proofs.Math.Decide.{ℕ_discrete, dec_lt}
use Rattle.definition.specs.Layout.{count, types}
use Rattle.definition.specs.Records.{declaration_kind}
use Rattle.definition.specs.Ask.{Outcome, none, Ask, type_default}
use Rattle.definition.specs.Starting.{body, declaration, remembered, answer, type_outcome, variable_outcome}
use Rattle.definition.specs.Resolve as Resolve
use Rattle.definition.specs.Resolve.{known, at, declared_below}
use Rattle.definition.specs.Peek.{look}
use Rattle.laws.specs.Asks.{Asks}
use Rattle.laws.specs.Resolving.{answer_of}
use Rattle.laws.specs.Peeking.{filled}
use Rattle.laws.specs.Ranked.{Ranked, Solves, Clean, solved-fits, clean_all, clean_run, answer-is, answer-solves}
use Rattle.laws.specs.Held.{Held, held_all_lem, run-held}

-- ---- what is remembered after all declared types
declared-below : (f : List ℕ) (n t : ℕ) → t < n → (declaration_kind f t ≡ 0 → ⊥) → Memᴰ t (declared_below f n)
unfolding declared_below
declared-below f zero t l k = absurd (omega arith)
declared-below f (suc n) t l k = go (ℕ_discrete t n) (λ l'. declared-below f n t l' k)
  where
    go : Dec (t ≡ n) → (t < n → Memᴰ t (declared_below f n)) → Memᴰ t (declared_below f (suc n))
    go (yes e) ih = rw (← e) (rw (ne_eqb (declaration_kind f t) 0 k) (Memᴰ.append_right (declared_below f t) (Memᴰ.head refl)))
    go (no e) ih = Memᴰ.append_left _ (ih (omega (arith, e)))

pub remembered-at : (f : List ℕ) (t : ℕ) → t < count f types → (declaration_kind f t ≡ 0 → ⊥) → at (remembered f) t ≡ known (type_outcome f t)
unfolding Resolve.remembered Resolve.type_outcome Resolve.answer type_default answer_of
remembered-at f t l k = filled (body f) (count f types) (declared_below f (count f types)) t (declared-below f (count f types) t l k)

-- ---- where the types of G are ranked
module _ (f : List ℕ) (G : ℕ → Type 0) (dec : (d : ℕ) → Dec (G d)) (inside : (d : ℕ) → G d → d < count f types)
    (W : ℕ → Outcome → Type 0) (rank : ℕ → ℕ) (ranked : Ranked G W (body f) rank) where
  pub outcome-solves : (t : ℕ) → G t → type_outcome f t ≡ look (type_outcome f) (body f t)
  unfolding Resolve.type_outcome Resolve.answer type_default answer_of Resolve.remembered
  outcome-solves = answer-solves (count f types) G dec inside W (body f) rank ranked (declared_below f (count f types))

  pub outcome-only : (S : ℕ → Outcome) → Solves G (body f) S → (t : ℕ) → G t → type_outcome f t ≡ S t
  unfolding Resolve.type_outcome Resolve.answer type_default answer_of Resolve.remembered
  outcome-only S sol = answer-is (count f types) G dec inside W (body f) rank ranked S sol (declared_below f (count f types))

  pub outcome_fits : (t : ℕ) → G t → W t (type_outcome f t)
  outcome_fits = solved-fits (count f types) G dec inside W (body f) rank ranked (type_outcome f) outcome-solves

  pub remembered-clean : Clean (count f types) G (type_outcome f) (remembered f)
  unfolding Resolve.remembered
  remembered-clean = clean_all (count f types) G dec inside W (body f) rank ranked (type_outcome f) outcome-solves (declared_below f (count f types))

  pub answer-look : {A : Type 0} (Q : A → Type 0) (m : Ask A) → Asks G W Q m → answer f m ≡ look (type_outcome f) m
  unfolding Resolve.answer Resolve.remembered
  answer-look Q m h = clean_run (count f types) G dec inside W (body f) rank ranked (type_outcome f) outcome-solves Q m h (remembered f) remembered-clean

  pub variable-look : (Q : Outcome → Type 0) (v : ℕ) → Asks G W Q (declaration f v) → variable_outcome f v ≡ look (type_outcome f) (declaration f v)
  unfolding Resolve.variable_outcome
  variable-look Q v = answer-look Q (declaration f v)

-- ---- where all are
module _ (f : List ℕ) (W : ℕ → Outcome → Type 0) (rank : ℕ → ℕ) (ranked : Ranked (λ d. d < count f types) W (body f) rank) where
  pub types-solve : (t : ℕ) → t < count f types → type_outcome f t ≡ look (type_outcome f) (body f t)
  types-solve = outcome-solves f (λ d. d < count f types) (λ d. dec_lt d (count f types)) (λ d l. l) W rank ranked

  pub types-only : (S : ℕ → Outcome) → ((t : ℕ) → t < count f types → S t ≡ look S (body f t)) → (t : ℕ) → t < count f types → type_outcome f t ≡ S t
  types-only = outcome-only f (λ d. d < count f types) (λ d. dec_lt d (count f types)) (λ d l. l) W rank ranked

  pub variables-look : (Q : Outcome → Type 0) (v : ℕ) → Asks (λ d. d < count f types) W Q (declaration f v) → variable_outcome f v ≡ look (type_outcome f) (declaration f v)
  variables-look = variable-look f (λ d. d < count f types) (λ d. dec_lt d (count f types)) (λ d l. l) W rank ranked

-- ---- in any file
module _ (f : List ℕ) (W : ℕ → Outcome → Type 0) (nones : (t : ℕ) → W t none) (each : (t : ℕ) → t < count f types → Asks (λ d. Unit {0}) W (W t) (body f t)) where
  pub remembered-held : Held (count f types) W (remembered f)
  unfolding Resolve.remembered
  remembered-held = held_all_lem (count f types) W nones (body f) each (declared_below f (count f types))

  pub answer_keeps : {A : Type 0} (Q : A → Type 0) (m : Ask A) → Asks (λ d. Unit {0}) W Q m → Q (answer f m)
  unfolding Resolve.answer Resolve.remembered
  answer_keeps Q m h = (run-held (count f types) W nones (body f) each Q (count f types) m h (remembered f) remembered-held).0

  pub outcome-held : (t : ℕ) → W t (type_outcome f t)
  unfolding Resolve.type_outcome type_default
  outcome-held t = answer_keeps (W t) (type_default t) (tt, λ o w. w)

  pub variable-held : (Q : Outcome → Type 0) (v : ℕ) → Asks (λ d. Unit {0}) W Q (declaration f v) → Q (variable_outcome f v)
  unfolding Resolve.variable_outcome
  variable-held Q v = answer_keeps Q (declaration f v)
