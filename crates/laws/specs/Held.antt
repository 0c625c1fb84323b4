-- What every step of every type's computation keeps, every outcome has: circles or not. Assumes nothing.
use Rattle.std.specs.Prelude.{◌≡◌, List, length}
use Rattle.std.proofs.Common.{sym, ◌∙◌, ⊎_elim, arith}
use Prim.Native.Nat.{ℕ, zero, suc, ◌<◌}
use Rattle.std.proofs.Math.Decide.{dec_lt}
use Rattle.definition.specs.Ask.{Outcome, none, Ask, done, ask}
use Rattle.definition.specs.Resolve.{known, unknown, Memo, at, put, empty, Ran, run, resolve, asking, resolve_all}
use Rattle.laws.specs.Asks.{Asks}
use Rattle.laws.specs.Memo.{known-unknown, put-long, put-cases, at_lt, at-past, empty-at, empty-long}
use Rattle.laws.specs.Resolving.{run-asks, run-keeps, still, answer_of}

-- a memo of n types in which every outcome of d is a W d
pub record Held (n : ℕ) (W : ℕ → Outcome → Type 0) (M : Memo) : Type 0 where
  pub long : length M ≡ n
  pub held : (e : ℕ) (o : Outcome) → at M e ≡ known o → W e o

held-put : (n : ℕ) (W : ℕ → Outcome → Type 0) (M : Memo) (d : ℕ) (o : Outcome) → d < length M → Held n W M → W d o → Held n W (put M d o)
held-put n W M d o l i w = record {
  long = put-long M d o ∙ i.long;
  held = λ e p q. ⊎_elim (λ y. rw (y.0, y.1) w) (λ y. i.held e p y.1) (put-cases M d o e p l q);
}

module _ (n : ℕ) (W : ℕ → Outcome → Type 0) (nones : (t : ℕ) → W t none) (bodies : ℕ → Ask Outcome)
    (fits : (t : ℕ) → t < n → Asks (λ d. Unit {0}) W (W t) (bodies t)) where
  pub held-empty : Held n W (empty n)
  held-empty = record { long = empty-long n; held = λ e o q. go e o q (dec_lt e n) }
    where
      go : (e : ℕ) (o : Outcome) → at (empty n) e ≡ known o → Dec (e < n) → W e o
      go e o q (yes l) = absurd (known-unknown _ o q (empty-at n e l))
      go e o q (no l) =
          let s : known none ≡ known o = sym (at-past (empty n) e (omega (arith, l, empty-long n))) ∙ q in
          let r : o ≡ none = cc in
          rw r (nones e)

  run-held-by : {A : Type 0} (Q : A → Type 0) (f : ℕ)
      → ((M : Memo) (d : ℕ) → at M d ≡ unknown → Held n W M → W d (resolve bodies f M d).value × Held n W (resolve bodies f M d).memo)
      → (m : Ask A) → Asks (λ d. Unit {0}) W Q m → (M : Memo) → Held n W M → Q (run (resolve bodies f) M m).value × Held n W (run (resolve bodies f) M m).memo
  run-held-by Q f g = run-asks (λ d. Unit {0}) W Q (Held n W) (resolve bodies f) (λ M d o i p q. i.held d o q) (λ M d i p u. g M d u i)

  pub resolve-held : (f : ℕ) (M : Memo) (d : ℕ) → at M d ≡ unknown → Held n W M → W d (resolve bodies f M d).value × Held n W (resolve bodies f M d).memo
  unfolding resolve
  resolve-held zero M d u i = (nones d, held-put n W M d none (at_lt M d u) i (nones d))
  resolve-held (suc f) M d u i =
      let r : Ran Outcome = run (resolve bodies f) (put M d none) (bodies d) in
      let x : W d r.value × Held n W r.memo =
      run-held-by (W d) f (resolve-held f) (bodies d) (fits d (omega (arith, at_lt M d u, i.long))) (put M d none) (held-put n W M d none (at_lt M d u) i (nones d)) in
      (x.0, held-put n W r.memo d r.value (still bodies f M d u) x.1 x.0)

  pub run-held : {A : Type 0} (Q : A → Type 0) (f : ℕ) (m : Ask A) → Asks (λ d. Unit {0}) W Q m → (M : Memo) → Held n W M
      → Q (run (resolve bodies f) M m).value × Held n W (run (resolve bodies f) M m).memo
  run-held Q f = run-held-by Q f (resolve-held f)

  -- whatever is run
  pub held_keeps : {A : Type 0} (f : ℕ) (m : Ask A) (M : Memo) → Held n W M → Held n W (run (resolve bodies f) M m).memo
  held_keeps f = run-keeps (Held n W) (resolve bodies f) (λ M d i u. (resolve-held f M d u i).1)

  pub held_all_lem : (declared : List ℕ) → Held n W (resolve_all bodies n declared)
  unfolding resolve_all
  held_all_lem declared = held_keeps n (asking declared) (empty n) held-empty

  pub answer-held : (declared : List ℕ) (t : ℕ) → W t (answer_of bodies n declared t)
  unfolding answer_of
  answer-held declared t = (run-held (W t) n (ask t done) (tt, λ o w. w) (resolve_all bodies n declared) (held_all_lem declared)).0
