-- Where types ask only for types of lower rank, the answers are the one table whose every line is what its own computation gives by the other lines. Assumes nothing.
use Rattle.std.specs.Prelude.{◌≡◌, ◌≢◌, List, length}
use Rattle.std.proofs.Math.Path.{ap, sym}
use Rattle.std.proofs.Common.{◌∙◌, arith}
use Rattle.std.proofs.Math.Logic.{⊎_elim}
use Prim.Native.Nat.{ℕ, zero, suc, ◌+◌, ◌<◌, ◌≤◌}
use Rattle.definition.specs.Ask.{Outcome, none, Ask, done, ask}
use Rattle.definition.specs.Resolve.{known, unknown, Memo, at, put, empty, Ran, run, resolve, asking, resolve_all}
use Rattle.definition.specs.Peek.{look}
use Rattle.laws.specs.Asks.{Asks}
use Rattle.laws.specs.Memo.{known-unknown, put_other, put-cases, empty-at, empty-long, unknowns, unknowns-length, unknowns-less}
use Rattle.laws.specs.Resolving.{run-asks, run-keeps, resolve-more, still, resolve_same, answer_of}
use Rattle.laws.specs.Peeking.{look-to, look-asks, look-cong}

-- the types of G ask only for types of G, of a lower rank, if the answers for d are W d; and then the outcome of t is a W t
abbrev pub Ranked : (ℕ → Type 0) → (ℕ → Outcome → Type 0) → (ℕ → Ask Outcome) → (ℕ → ℕ) → Type 0
Ranked G W bodies rank = (t : ℕ) → G t → Asks (λ d. G d × (rank d < rank t)) W (W t) (bodies t)

-- a table in which each line of G is what the computation gives by the table
abbrev pub Solves : (ℕ → Type 0) → (ℕ → Ask Outcome) → (ℕ → Outcome) → Type 0
Solves G bodies S = (t : ℕ) → G t → S t ≡ look S (bodies t)

-- what a memo knows of the types of U is the table's
abbrev pub Right : (ℕ → Outcome) → (ℕ → Type 0) → Memo → Type 0
Right S U M = (e : ℕ) (o : Outcome) → U e → at M e ≡ known o → o ≡ S e

-- no type of G is in progress
pub record Clean (n : ℕ) (G : ℕ → Type 0) (S : ℕ → Outcome) (M : Memo) : Type 0 where
  pub long : length M ≡ n
  pub right : Right S G M

module _ (n : ℕ) (G : ℕ → Type 0) (dec : (d : ℕ) → Dec (G d)) (inside : (d : ℕ) → G d → d < n)
    (W : ℕ → Outcome → Type 0) (bodies : ℕ → Ask Outcome) (rank : ℕ → ℕ) (ranked : Ranked G W bodies rank) where
  -- ---- any table that solves is what is resolved
  module _ (S : ℕ → Outcome) (sol : Solves G bodies S) where
    fits-to : (k t : ℕ) → G t → rank t < k → W t (S t)
    fits-to zero t g h = absurd (omega arith)
    fits-to (suc k) t g h = rw (sol t g) (look-to _ W (W t) S (λ d p. fits-to k d p.0 (omega arith)) (bodies t) (ranked t g))

    pub solved-fits : (t : ℕ) → G t → W t (S t)
    solved-fits t g = fits-to (suc (rank t)) t g (omega arith)

    -- with fuel by rank: while a type is in progress it is not trusted, and nothing below it asks for it
    good : (f d : ℕ) (U : ℕ → Type 0) → G d → rank d < f → ((e : ℕ) → G e → rank e < rank d → U e) → (M : Memo) → at M d ≡ unknown → Right S U M
        → ((resolve bodies f M d).value ≡ S d) × Right S U (resolve bodies f M d).memo
    unfolding resolve
    good zero d U g h c M u i = absurd (omega arith)
    good (suc f) d U g h c M u i =
        let r : Ran Outcome = run (resolve bodies f) (put M d none) (bodies d) in
        let P : ℕ → Type 0 = λ e. G e × (rank e < rank d) in
        let U' : ℕ → Type 0 = λ e. U e × (e ≢ d) in
        let low : (e : ℕ) → G e → rank e < rank d → U' e = λ e b l. (c e b l, λ s. omega (arith, ap rank s)) in
        let x : (r.value ≡ look S (bodies d)) × Right S U' r.memo =
        run-asks P (λ e o. o ≡ S e) (λ o. o ≡ look S (bodies d)) (Right S U') (resolve bodies f)
        (λ N e o j p q. j e o (low e p.0 p.1) q)
        (λ N e j p v. good f e U' p.0 (omega arith) (λ e' b l. low e' b (omega arith)) N v j)
        (bodies d) (look-asks P W (W d) S (λ e p. solved-fits e p.0) (bodies d) (ranked d g))
        (put M d none) (λ e o w q. i e o w.0 (sym (put_other M d none e w.1) ∙ q)) in
        let v : r.value ≡ S d = x.0 ∙ sym (sol d g) in
        (v, λ e o w q. ⊎_elim (λ y. y.1 ∙ v ∙ ap S (sym y.0)) (λ y. x.1 e o (w, y.0) y.1) (put-cases r.memo d r.value e o (still bodies f M d u) q))

    -- with fuel enough
    right_there : (f d : ℕ) → G d → (M : Memo) → at M d ≡ unknown → unknowns M ≤ f → Right S G M
        → ((resolve bodies f M d).value ≡ S d) × Right S G (resolve bodies f M d).memo
    right_there f d g M u h i =
        rw (resolve_same bodies f (f + suc (rank d)) M d u h (omega arith)) (good (f + suc (rank d)) d G g (omega arith) (λ e b l. b) M u i)

    -- a type that is not of G leaves those of G right
    other-put : (d : ℕ) → (G d → ⊥) → (M : Memo) (o : Outcome) → Right S G M → Right S G (put M d o)
    other-put d b M o i e p g q = i e p g (sym (put_other M d o e (λ s. b (rw s at g))) ∙ q)

    right-keeps : (f d : ℕ) (M : Memo) → at M d ≡ unknown → unknowns M ≤ f → Right S G M → Right S G (resolve bodies f M d).memo
    unfolding resolve
    right-keeps zero d M u h i = absurd (omega (arith, unknowns-less M d none u))
    right-keeps (suc f) d M u h i = go (dec d) (λ N e j v. (omega (arith, (resolve-more bodies f N e v).fewer), right-keeps f e N v j.0 j.1))
      where
        J : Memo → Type 0
        J N = (unknowns N ≤ f) × Right S G N

        go : Dec (G d) → ((N : Memo) (e : ℕ) → J N → at N e ≡ unknown → J (resolve bodies f N e).memo) → Right S G (resolve bodies (suc f) M d).memo
        go (yes g) ih = (right_there (suc f) d g M u h i).1
        go (no b) ih =
            let r : Ran Outcome = run (resolve bodies f) (put M d none) (bodies d) in
            other-put d b r.memo r.value
            (run-keeps J (resolve bodies f) ih (bodies d) (put M d none) (omega (arith, unknowns-less M d none u), other-put d b M none i)).1

    pub clean-empty : Clean n G S (empty n)
    clean-empty = record { long = empty-long n; right = λ e o g q. absurd (known-unknown _ o q (empty-at n e (inside e g))) }

    enough : (M : Memo) → Clean n G S M → unknowns M ≤ n
    enough M i = omega (arith, unknowns-length M, i.long)

    -- any run leaves a clean state
    pub clean-keeps : {A : Type 0} (m : Ask A) (M : Memo) → Clean n G S M → Clean n G S (run (resolve bodies n) M m).memo
    clean-keeps = run-keeps (Clean n G S) (resolve bodies n)
        (λ N d j u. record { long = (resolve-more bodies n N d u).long ∙ j.long; right = right-keeps n d N u (enough N j) j.right })

    -- and gives what the table gives, if it asks only for types of G
    pub clean_run : {A : Type 0} (Q : A → Type 0) (m : Ask A) → Asks G W Q m → (M : Memo) → Clean n G S M → (run (resolve bodies n) M m).value ≡ look S m
    clean_run Q m h M i = (run-asks G (λ d o. o ≡ S d) (λ a. a ≡ look S m) (Clean n G S) (resolve bodies n) (λ N d o j g q. j.right d o g q)
        (λ N d j g u. let x = right_there n d g N u (enough N j) j.right in (x.0, record { long = (resolve-more bodies n N d u).long ∙ j.long; right = x.1 }))
        m (look-asks G W Q S solved-fits m h) M i).0

    pub clean_all : (declared : List ℕ) → Clean n G S (resolve_all bodies n declared)
    unfolding resolve_all
    clean_all declared = clean-keeps (asking declared) (empty n) clean-empty

    -- so there is no other: the answers are its lines
    pub answer-is : (declared : List ℕ) (t : ℕ) → G t → answer_of bodies n declared t ≡ S t
    unfolding answer_of look
    answer-is declared t g = clean_run (λ o. Unit {0}) (ask t done) (g, λ o w. tt) (resolve_all bodies n declared) (clean_all declared)

  -- ---- there is such a table
  ideal : ℕ → ℕ → Outcome
  ideal zero t = none
  ideal (suc k) t = look (ideal k) (bodies t)

  ideal-fits : (k t : ℕ) → G t → rank t < k → W t (ideal k t)
  unfolding ideal
  ideal-fits zero t g h = absurd (omega arith)
  ideal-fits (suc k) t g h = look-to _ W (W t) (ideal k) (λ d p. ideal-fits k d p.0 (omega arith)) (bodies t) (ranked t g)

  ideal-same : (k k' t : ℕ) → G t → rank t < k → rank t < k' → ideal k t ≡ ideal k' t
  unfolding ideal
  ideal-same zero k' t g h h' = absurd (omega arith)
  ideal-same (suc k) zero t g h h' = absurd (omega arith)
  ideal-same (suc k) (suc k') t g h h' =
      look-cong _ W (W t) (ideal k) (ideal k') (λ d p. ideal-same k k' d p.0 (omega arith) (omega arith)) (λ d p. ideal-fits k' d p.0 (omega arith)) (bodies t) (ranked t g)

  table : ℕ → Outcome
  table t = ideal (suc (rank t)) t

  table-solves : Solves G bodies table
  unfolding ideal table
  table-solves t g =
      look-cong _ W (W t) (ideal (rank t)) table (λ d p. ideal-same (rank t) (suc (rank d)) d p.0 p.1 (omega arith))
      (λ d p. ideal-fits (suc (rank d)) d p.0 (omega arith)) (bodies t) (ranked t g)

  module _ (declared : List ℕ) where
    -- so the answers are one
    pub answer-solves : Solves G bodies (answer_of bodies n declared)
    answer-solves t g =
        let is : (t : ℕ) → G t → answer_of bodies n declared t ≡ table t = answer-is table table-solves declared in
        is t g ∙ table-solves t g
        ∙ sym (look-cong _ W (W t) (answer_of bodies n declared) table (λ d p. is d p.0) (λ d p. solved-fits table table-solves d p.0) (bodies t) (ranked t g))

    -- from a clean state a run gives what looking up in the answers gives
    pub run_look : {A : Type 0} (Q : A → Type 0) (m : Ask A) → Asks G W Q m → (M : Memo) → Clean n G (answer_of bodies n declared) M
        → (run (resolve bodies n) M m).value ≡ look (answer_of bodies n declared) m
    run_look = clean_run (answer_of bodies n declared) answer-solves

    -- the order of the declared types does not show
    pub answer-any : (declared' : List ℕ) (t : ℕ) → G t → answer_of bodies n declared' t ≡ answer_of bodies n declared t
    answer-any = answer-is (answer_of bodies n declared) answer-solves
