-- What the sheet writer gets of every type, in an accepted file with ranks that rise along every use: each type's line, each variable's outcome with nothing left to
-- resolve, and `None` only where the sheet is longer than out. Assumes nothing.
use mathlib.Core.Path.{◌≡◌, refl, ap, sym, subst, ◌∙◌}
use mathlib.Core.Bool.{true}
use mathlib.Core.List.{List, [], ◌∷◌}
use Prim.Native.Nat.{ℕ, zero, suc, ◌+◌, ◌*◌, ◌≤◌, ◌<◌, min}
use native.Mathlib.Omega.{arith}
use native.Mathlib.Decide.{ℕ_discrete, dec_lt}
use native.Mathlib.Nat.{add-zero, zero-add}
use lib.ListN.{length, length-append}
use Rattle.definition.specs.Layout.{count, types, variables}
use Rattle.definition.specs.Accept.{verdict}
use Rattle.definition.specs.Tree.{flatten, tree_words}
use Rattle.definition.specs.Ask.{Outcome, type_default}
use Rattle.definition.specs.Starting.{body, declaration, type_outcome, variable_outcome}
use Rattle.definition.specs.Resolve.{Look, known, unknown, Memo, at, resolve}
use Rattle.definition.specs.Peek.{got, look, peek}
use Rattle.definition.specs.Lines.{outcome_words, type_line}
use Rattle.definition.specs.Uses.{uses, rising}
use Rattle.definition.specs.Sheet.{lines_from, sheet_with}
use Rattle.definition.specs.Answers.{line_words}
use Rattle.laws.specs.Accepted.{accepted, few-types}
use Rattle.laws.specs.Asks.{OnOk}
use Rattle.laws.specs.Values.{Small}
use Rattle.laws.specs.Resolving.{grown, resolve-there}
use Rattle.laws.specs.Ranked.{Clean, clean-empty, clean-keeps}
use Rattle.laws.specs.Outcomes.{types-solve, variables-look}
use Rattle.laws.specs.Peeking.{peek-look}
use Rattle.laws.specs.Falling.{declaration-asks}
use Rattle.laws.specs.Sizes.{type-small}
use Rattle.laws.specs.Demand.{falls}
use Rattle.lines.specs.Append.{most_words}
use Rattle.build.specs.Built.{Built}
use Rattle.build.specs.Built.{Builds}
use Rattle.driver.specs.Driver.{look_words, width, Holding, ran, resolved, After}
use Rattle.driver.specs.Asked.{asked}
use Rattle.driver.specs.Told.{Tells}
use Rattle.driver.specs.Every.{every_memo, ResolvesAll}
use Rattle.driver.proofs.Widths.{line-most}
use Rattle.driver.proofs.Holdings.{to-memory}
use Rattle.driver.proofs.Asking.{asked-known, asked-unknown, asked-run}
use Rattle.std.specs.Prelude.{None, Option, Some}

-- ---- every type is known then
module _ (f : List ℕ) where
  resolved-there : (M : Memo) (t : ℕ) → at M t ≡ unknown → at (resolved f M t) t ≡ known (resolve (body f) (count f types) M t).value
  unfolding resolved
  resolved-there M t e = resolve-there (body f) (count f types) M t e

  asked-there : (M : Memo) (t : ℕ) → (o : Outcome) × (at (asked f M t) t ≡ known o)
  asked-there M t = go (at M t) refl
    where
      go : (l : Look) → at M t ≡ l → (o : Outcome) × (at (asked f M t) t ≡ known o)
      go (known o) e = (o, ap (λ (N : Memo). at N t) (asked-known f M t o e) ∙ e)
      go unknown e = ((resolve (body f) (count f types) M t).value, ap (λ (N : Memo). at N t) (asked-unknown f M t e) ∙ resolved-there M t e)

  asked-old : (M : Memo) (t e : ℕ) (o : Outcome) → at M e ≡ known o → at (asked f M t) e ≡ known o
  unfolding ran
  asked-old M t e o q = subst (λ (N : Memo). at N e ≡ known o) (asked-run f M t) ((grown (body f) (count f types) (type_default t) M).old e o q)

  pub every-next : (t : ℕ) → every_memo f (suc t) ≡ asked f (every_memo f t) t
  unfolding every_memo
  every-next t = refl

  every-known : (k t : ℕ) → t < k → (o : Outcome) × (at (every_memo f k) t ≡ known o)
  every-known zero t h = absurd (omega arith)
  every-known (suc k) t h = go (ℕ_discrete t k) (every-known k t)
    where
      go : Dec (t ≡ k) → (t < k → (o : Outcome) × (at (every_memo f k) t ≡ known o)) → (o : Outcome) × (at (every_memo f (suc k)) t ≡ known o)
      go (yes e) ih = let x = asked-there (every_memo f k) k in (x.0, rw (e, every-next k) x.1)
      go (no e) ih = let x = ih (omega (arith, e)) in (x.0, rw (every-next k) (asked-old (every_memo f k) k t x.0 x.1))

-- ---- the words of all lines
width-lines : (rank : ℕ → ℕ) (S : ℕ → Outcome) (M : Memo) (i : ℕ) → ((t : ℕ) → t < length M → at M t ≡ known (S (i + t)))
    → width M ≡ length (lines_from (λ t. rank t ∷ outcome_words (S t)) i (length M))
unfolding width at lines_from look_words
width-lines rank S [] i h = refl
width-lines rank S (l ∷ M) i h =
    let e : l ≡ known (S i) = h 0 (omega arith) ∙ ap (λ (n : ℕ). known (S n)) (add-zero i) in
    let r = width-lines rank S M (suc i) (λ t k. h (suc t) (omega arith) ∙ ap (λ (n : ℕ). known (S n)) (omega arith)) in
    rw e (simp length-append (omega (arith, r)))

lines-most : (rank : ℕ → ℕ) (S : ℕ → Outcome) → ((t : ℕ) → OnOk Small (S t)) → (i k : ℕ) → length (lines_from (λ t. rank t ∷ outcome_words (S t)) i k) ≤ k * (3 + tree_words)
unfolding lines_from look_words
lines-most rank S h i zero = omega arith
lines-most rank S h i (suc k) = simp length-append (omega (arith, line-most (S i) (h i), lines-most rank S h (suc i) k))

-- ---- where uses rise
module _ (f : List ℕ) (e : verdict f ≡ 0) (rank : ℕ → ℕ) (up : rising (count f types) (uses f) rank ≡ true) where
  every-clean : (k : ℕ) → Clean (count f types) (λ d. d < count f types) (type_outcome f) (every_memo f k)
  unfolding every_memo ran
  every-clean zero =
      clean-empty (count f types) (λ d. d < count f types) (λ d. dec_lt d (count f types)) (λ d l. l) (λ d o. OnOk Small o) (body f) rank (falls f e rank up)
      (type_outcome f) (types-solve f (λ d o. OnOk Small o) rank (falls f e rank up))
  every-clean (suc k) =
      subst (λ (N : Memo). Clean (count f types) (λ d. d < count f types) (type_outcome f) N) (asked-run f (every_memo f k) k)
      (clean-keeps (count f types) (λ d. d < count f types) (λ d. dec_lt d (count f types)) (λ d l. l) (λ d o. OnOk Small o) (body f) rank (falls f e rank up)
      (type_outcome f) (types-solve f (λ d o. OnOk Small o) rank (falls f e rank up)) (type_default k) (every_memo f k) (every-clean k))

  -- every type's own outcome is remembered
  pub every-is : (t : ℕ) → t < count f types → at (every_memo f (count f types)) t ≡ known (type_outcome f t)
  every-is t l =
      let x = every-known f (count f types) t l in
      x.1 ∙ ap known ((every-clean (count f types)).right t x.0 l x.1)

  pub every-lines : width (every_memo f (count f types)) ≡ length (lines_from (λ t. rank t ∷ type_line f t) 0 (count f types))
  unfolding type_line
  every-lines =
      let M : Memo = every_memo f (count f types) in
      let n : length M ≡ count f types = (every-clean (count f types)).long in
      width-lines rank (type_outcome f) M 0 (λ t l. every-is t (omega arith) ∙ ap (λ (k : ℕ). known (type_outcome f k)) (sym (zero-add t)))
      ∙ ap (λ (k : ℕ). length (lines_from (λ t. rank t ∷ outcome_words (type_outcome f t)) 0 k)) n

  module _ {r : Option ℕ} {index store : List ℕ} (d : ResolvesAll f r index store) where
    -- a store that is full, of the words that the sheet writer asks for, is shorter than the sheet, and so is out
    pub sheet-longer : r ≡ None → (out : ℕ) → min out (line_words f) ≤ length store → out < length (sheet_with f rank)
    unfolding sheet_with line_words type_line
    sheet-longer i out h =
        let g : min (length store) most_words < width (every_memo f (count f types)) = subst (λ (a : Option ℕ). After f a index store (every_memo f (count f types))) i d.after in
        let m = lines-most rank (type_outcome f) (λ t. type-small f t) 0 (count f types) in
        simp length-append (omega (arith, every-lines, few-types f (accepted f e)))

    pub every-holding : {end : ℕ} → r ≡ Some end → Holding f index store end (every_memo f (count f types))
    every-holding i = subst (λ (a : Option ℕ). After f a index store (every_memo f (count f types))) i d.after

  -- a variable wants nothing then
  pub variable-told : {r : Option ℕ} {index store : List ℕ} → ResolvesAll f r index store → {end : ℕ} → r ≡ Some end → (v : ℕ) → v < count f variables
      → {old new : List ℕ} {made : Built} → Builds f index store flatten (declaration f v) 0 old made new → Tells (variable_outcome f v) made new
  variable-told d i v l b =
      let M : Memo = every_memo f (count f types) in
      let p : peek M (declaration f v) ≡ got (look (type_outcome f) (declaration f v)) =
      peek-look (λ d. d < count f types) (λ d o. OnOk Small o) (OnOk Small) M (type_outcome f) every-is (λ d l. type-small f d) (declaration f v) (declaration-asks f e v l) in
      let q : variable_outcome f v ≡ look (type_outcome f) (declaration f v) =
      variables-look f (λ d o. OnOk Small o) rank (falls f e rank up) (OnOk Small) v (declaration-asks f e v l) in
      record { gives = rw q (rw p at (b.gives M (to-memory (every-holding d i)))) }
