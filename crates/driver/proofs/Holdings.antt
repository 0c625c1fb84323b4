-- What an index and a store that stand for a memo say, and how they go on. Assumes nothing.
use mathlib.Core.Path.{◌≡◌, refl, ap, sym, ◌∙◌}
use mathlib.Core.Bool.{Bool, true, false}
use mathlib.Core.Logic.{inl, inr}
use mathlib.Core.List.{List}
use Prim.Native.Nat.{ℕ, suc, ◌+◌, ◌≤◌, ◌<◌, min}
use native.Mathlib.Omega.{arith}
use native.Mathlib.Decide.{dec_lt}
use lib.ListN.{length, get_or, set}
use lib.Seq.{get_or-set_other, paste}
use Rattle.definition.specs.Base.{pick}
use Rattle.definition.specs.Layout.{count, types}
use Rattle.definition.specs.Ask.{none, Outcome, Ask, done, ask}
use Rattle.definition.specs.Starting.{body}
use Rattle.definition.specs.Resolve.{Look, known, unknown, on_look, Memo, at, put, Ran, run, resolve}
use Rattle.definition.specs.Peek.{got, wants, peek}
use Rattle.laws.specs.Asks.{Asks, OnOk}
use Rattle.laws.specs.Values.{Small}
use Rattle.laws.specs.Falling.{any-body}
use Rattle.laws.specs.Memo.{known-unknown, put-long, at_lt, at-past, unknowns-length}
use Rattle.laws.specs.Resolving.{resolve-step, resolve-more, grown}
use Rattle.laws.specs.Peeking.{finish, restart}
use Rattle.lines.specs.Append.{most_words, Appends}
use Rattle.lines.specs.Memory.{Holds, Remembers}
use Rattle.lines.proofs.Memories.{remembers-begin, remembers-wider, remembers-small}
use Rattle.build.specs.Built.{Memory}
use Rattle.driver.specs.Driver.{look_words, width, spent, zeros, Holding, ran, settled, resolved, After}
use Rattle.driver.proofs.Widths.{spent-width, none-width, run-width, spent-begin, spent-line, zeros-keep}
use Rattle.std.specs.Prelude.{None, Option, Some}

-- ---- what a word of the index says
one_none : (w : ℕ) (store : List ℕ) (end : ℕ) (l : Look) → Holds w store end l → w ≡ 1 → l ≡ known none
one_none w store end unknown h e = absurd (omega arith)
one_none w store end (known o) (inl h) e = ap known h.1
one_none w store end (known o) (inr h) e = absurd (omega (arith, h.is))

zero-unknown : (w : ℕ) (store : List ℕ) (end : ℕ) (l : Look) → Holds w store end l → w ≡ 0 → l ≡ unknown
zero-unknown w store end unknown h e = refl
zero-unknown w store end (known o) (inl h) e = absurd (omega (arith, h.0))
zero-unknown w store end (known o) (inr h) e = absurd (omega (arith, h.is))

unknown-zero : (w : ℕ) (store : List ℕ) (end : ℕ) (l : Look) → Holds w store end l → l ≡ unknown → w ≡ 0
unknown-zero w store end unknown h e = h
unknown-zero w store end (known o) h e = absurd (known-unknown (known o) o refl e)

module _ {f index store : List ℕ} {end : ℕ} {M : Memo} (x : Holding f index store end M) where
  pub busy-none : (t : ℕ) → t < count f types → get_or index t 0 ≡ 1 → at M t ≡ known none
  busy-none t l e = one_none (get_or index t 0) store end (at M t) (x.remembers.holds t (omega (arith, x.all))) e

  pub fresh-unknown : (t : ℕ) → t < count f types → get_or index t 0 ≡ 0 → at M t ≡ unknown
  fresh-unknown t l e = zero-unknown (get_or index t 0) store end (at M t) (x.remembers.holds t (omega (arith, x.all))) e

  pub unknown-fresh : (t : ℕ) → at M t ≡ unknown → get_or index t 0 ≡ 0
  unknown-fresh t u = unknown-zero (get_or index t 0) store end (at M t) (x.remembers.holds t (at_lt M t u)) u

  pub unknown-inside : (t : ℕ) → at M t ≡ unknown → t < count f types
  unknown-inside t u = omega (arith, at_lt M t u, x.all)

  pub holding-small : (t : ℕ) (o : Outcome) → at M t ≡ known o → OnOk Small o
  holding-small t o e = go (dec_lt t (length M))
    where
      go : Dec (t < length M) → OnOk Small o
      go (yes l) = remembers-small x.remembers t o l e
      go (no l) =
          let s : known none ≡ known o = sym (at-past M t (omega (arith, l))) ∙ e in
          let r : o ≡ none = cc in
          rw r tt

  -- a type is in progress
  pub holding-begin : (d : ℕ) → at M d ≡ unknown → Holding f (set index d 1) store end (put M d none)
  holding-begin d u =
      record {
        remembers = remembers-begin x.remembers d;
        all = put-long M d none ∙ x.all;
        spends = x.spends ∙ sym (spent-begin M index d u (unknown-fresh d u) x.remembers.wide);
      }

pub to-memory : {f index store : List ℕ} {end : ℕ} {M : Memo} → Holding f index store end M → Memory f index store M
to-memory {store} x = record { remembers = remembers-wider x.remembers (length store) x.remembers.within (omega arith); all = omega (arith, x.all) }

-- ---- what a computation gives
pub peek-asks : {A : Type 0} (P : ℕ → Type 0) (W : ℕ → Outcome → Type 0) (Q : A → Type 0) (M : Memo) → ((d : ℕ) (o : Outcome) → at M d ≡ known o → W d o)
    → (m : Ask A) → Asks P W Q m → (a : A) → peek M m ≡ got a → Q a
unfolding peek
peek-asks P W Q M w (done b) h a e = let s : b ≡ a = cc in rw (← s) h
peek-asks P W Q M w (ask d k) h a e = go (at M d) refl e (λ o v. peek-asks P W Q M w (k o) (h.1 o v) a)
  where
    go : (l : Look) → at M d ≡ l → on_look l (λ o. peek M (k o)) (λ u. wants d) ≡ got a → ((o : Outcome) → W d o → peek M (k o) ≡ got a → Q a) → Q a
    go (known o) q e' ih = ih o (w d o q) e'
    go unknown q e' ih = let z : ◌≡◌ {A = ℕ} 0 1 = cc in absurd (omega arith)

pub body-small : {f index store : List ℕ} {end : ℕ} {M : Memo} → Holding f index store end M → (t : ℕ) (o : Outcome) → peek M (body f t) ≡ got o → OnOk Small o
body-small {f} {M} x t o e = peek-asks (λ d. Unit {0}) (λ d o. OnOk Small o) (OnOk Small) M (holding-small x) (body f t) (any-body f t) o e

-- ---- what is resolved
module _ (f : List ℕ) (M : Memo) where
  pub settled-got : (t : ℕ) (o : Outcome) → peek M (body f t) ≡ got o → settled f M t ≡ put M t o
  unfolding settled ran
  settled-got t o e = rw (finish (resolve (body f) (count f types)) M (body f t) o e)

  pub settled-again : (t d : ℕ) → peek M (body f t) ≡ wants d → settled f M t ≡ settled f (resolved f M d) t
  unfolding settled ran resolved
  settled-again t d e = rw (restart (body f) (count f types) M d (body f t) e)

  pub resolved-is : (d : ℕ) → length M ≡ count f types → at M d ≡ unknown → resolved f M d ≡ settled f (put M d none) d
  unfolding settled ran resolved
  resolved-is d l u = ap (λ (r : Ran Outcome). r.memo) (resolve-step (body f) (count f types) M d u (omega (arith, unknowns-length M)))

  pub settled-width : (t : ℕ) → at M t ≡ known none → width M ≤ width (settled f M t)
  unfolding settled ran
  settled-width t e =
      let r : Ran Outcome = run (resolve (body f) (count f types)) M (body f t) in
      let k : at r.memo t ≡ known none = (grown (body f) (count f types) (body f t) M).old t none e in
      omega (arith, run-width (body f) (count f types) (body f t) M, none-width (body f) r.memo t r.value k)

  pub resolved-old : (d e : ℕ) (o : Outcome) → at M d ≡ unknown → at M e ≡ known o → at (resolved f M d) e ≡ known o
  unfolding resolved
  resolved-old d e o u k = (resolve-more (body f) (count f types) M d u).old e o k

-- ---- a line that is appended
module _ {test : Bool} {src : List ℕ} {n : ℕ} {index store : List ℕ} {end t : ℕ} {r : Option ℕ} {index' store' : List ℕ} where
  pub appends-old : Appends test src n index store end t r index' store' → (s w : ℕ) → (s ≡ t → ⊥) → get_or index s 0 ≡ suc w → get_or index' s 0 ≡ suc w
  appends-old q s w k e = go test q.marks
    where
      go : (b : Bool) → index' ≡ pick b (set index t (end + 2)) index → get_or index' s 0 ≡ suc w
      go true m = rw m (get_or-set_other index t s (end + 2) 0 k ∙ e)
      go false m = rw m e

  pub appends-fewer : Appends test src n index store end t r index' store' → zeros index' ≤ zeros index
  appends-fewer q = go test q.marks
    where
      go : (b : Bool) → index' ≡ pick b (set index t (end + 2)) index → zeros index' ≤ zeros index
      go true m = let k : end + 2 ≡ suc (end + 1) = omega arith in rw (m, k) (zeros-keep index t (end + 1))
      go false m = rw m (omega arith)

  -- what is held then
  pub appends-after : {f : List ℕ} {M : Memo} → Holding f index store end M → t < count f types → get_or index t 0 ≡ 1 → (o : Outcome) → look_words (known o) ≡ n
      → Appends test src n index store end t r index' store'
      → ((e : ℕ) → r ≡ Some e → Remembers index' store' e (put M t o))
      → (r ≡ None → min (length store) most_words < end + n)
      → After f r index' store' (put M t o)
  appends-after {f} {M} x l w o c q rem full = go test r refl q.says q.marks q.writes
    where
      spends : spent (put M t o) (set index t (end + 2)) ≡ end + n
      spends = omega (arith, spent-line M index t end o w (omega (arith, x.all)) x.remembers.wide, x.spends, c)

      go : (b : Bool) (a : Option ℕ) → r ≡ a → r ≡ pick b (Some (end + n)) None → index' ≡ pick b (set index t (end + 2)) index → store' ≡ pick b (paste store end src n) store → After f a index' store' (put M t o)
      go true (Some e) i s m z =
          let k : e ≡ end + n = cc in
          record { remembers = rem e i; all = put-long M t o ∙ x.all; spends = rw (m, k) (sym spends) }
      go true None i s m z = let y : ◌≡◌ {A = ℕ} 0 1 = cc in absurd (omega arith)
      go false (Some e) i s m z = let y : ◌≡◌ {A = ℕ} 0 1 = cc in absurd (omega arith)
      go false None i s m z = rw z (omega (arith, full i, spends, spent-width (put M t o) (set index t (end + 2))))
