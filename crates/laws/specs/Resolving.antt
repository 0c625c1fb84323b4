-- How asks are answered in turn: what is known stays known, a run keeps what its resolver keeps, and fuel for each unknown type is enough. Assumes nothing.
use Rattle.std.specs.Prelude.{◌≡◌, List, length}
use Rattle.std.proofs.Math.Path.{refl, ap}
use Rattle.std.proofs.Common.{◌∙◌, arith}
use Prim.Native.Nat.{ℕ, zero, suc, ◌<◌, ◌≤◌}
use Rattle.definition.specs.Ask.{Outcome, none, Ask, done, ask, bind}
use Rattle.definition.specs.Resolve.{Look, known, unknown, on_look, Memo, at, put, empty, Ran, Resolver, run, resolve, asking, resolve_all}
use Rattle.laws.specs.Asks.{Asks, asks-all}
use Rattle.laws.specs.Memo.{put-long, put_same, at_lt, empty-long, unknowns, unknowns-length, unknowns-put, unknowns-less, More, more-refl, more-trans, more-put}

-- ---- what a run keeps and gives
module _ {A : Type 0} (P : ℕ → Type 0) (W : ℕ → Outcome → Type 0) (Q : A → Type 0) (I : Memo → Type 0) (res : Resolver)
    (old : (M : Memo) (d : ℕ) (o : Outcome) → I M → P d → at M d ≡ known o → W d o)
    (new : (M : Memo) (d : ℕ) → I M → P d → at M d ≡ unknown → W d (res M d).value × I (res M d).memo) where
  -- if what is known and what is resolved are answers that a computation is ready for, it gives what it promises
  pub run-asks : (m : Ask A) → Asks P W Q m → (M : Memo) → I M → Q (run res M m).value × I (run res M m).memo
  unfolding run
  run-asks (done a) h M i = (h, i)
  run-asks (ask d k) h M i = go (at M d) refl (λ o w. run-asks (k o) (h.1 o w))
    where
      go : (l : Look) → at M d ≡ l → ((o : Outcome) → W d o → (N : Memo) → I N → Q (run res N (k o)).value × I (run res N (k o)).memo)
          → let r = on_look l (λ o. run res M (k o)) (λ u. run res (res M d).memo (k (res M d).value)) in Q r.value × I r.memo
      go (known o) q ih = ih o (old M d o i h.0 q) M i
      go unknown q ih = let n = new M d i h.0 q in ih (res M d).value n.0 (res M d).memo n.1

-- a run keeps what the resolver keeps
pub run-keeps : {A : Type 0} (I : Memo → Type 0) (res : Resolver) → ((M : Memo) (d : ℕ) → I M → at M d ≡ unknown → I (res M d).memo)
    → (m : Ask A) (M : Memo) → I M → I (run res M m).memo
run-keeps I res new m M i = (run-asks (λ d. Unit {0}) (λ d o. Unit {0}) (λ a. Unit {0}) I res (λ N d o j p q. tt) (λ N d j p u. (tt, new N d j u)) m (asks-all m) M i).1

-- one computation after another
pub run_bind : {A B : Type 0} (res : Resolver) (m : Ask A) (f : A → Ask B) (M : Memo)
    → run res M (bind m f) ≡ (let r = run res M m in run res r.memo (f r.value))
unfolding run bind
run_bind res (done a) f M = refl
run_bind {A} {B} res (ask d k) f M = go (at M d) (λ o. run_bind res (k o) f)
  where
    after : Ran A → Ran B
    after r = run res r.memo (f r.value)

    go : (l : Look) → ((o : Outcome) (N : Memo) → run res N (bind (k o) f) ≡ after (run res N (k o)))
        → on_look l (λ o. run res M (bind (k o) f)) (λ u. run res (res M d).memo (bind (k (res M d).value) f))
        ≡ after (on_look l (λ o. run res M (k o)) (λ u. run res (res M d).memo (k (res M d).value)))
    go (known o) ih = ih o M
    go unknown ih = ih (res M d).value (res M d).memo

module _ (bodies : ℕ → Ask Outcome) where
  -- ---- what is known stays known
  run_more : {A : Type 0} (f : ℕ) → ((M : Memo) (d : ℕ) → at M d ≡ unknown → More M (resolve bodies f M d).memo) → (m : Ask A) (M : Memo)
      → More M (run (resolve bodies f) M m).memo
  run_more f g m M = run-keeps (More M) (resolve bodies f) (λ N d x u. more-trans M N _ x (g N d u)) m M (more-refl M)

  pub resolve-more : (f : ℕ) (M : Memo) (d : ℕ) → at M d ≡ unknown → More M (resolve bodies f M d).memo
  unfolding resolve
  resolve-more zero M d u = more-put M M d none u (more-refl M)
  resolve-more (suc f) M d u =
      more-put M _ d _ u (more-trans M (put M d none) _ (more-put M M d none u (more-refl M)) (run_more f (resolve-more f) (bodies d) (put M d none)))

  pub grown : {A : Type 0} (f : ℕ) (m : Ask A) (M : Memo) → More M (run (resolve bodies f) M m).memo
  grown f = run_more f (resolve-more f)

  -- the type is still in range where its outcome is put
  pub still : (f : ℕ) (M : Memo) (d : ℕ) → at M d ≡ unknown → d < length (run (resolve bodies f) (put M d none) (bodies d)).memo
  still f M d u = omega (arith, (grown f (bodies d) (put M d none)).long, put-long M d none, at_lt M d u)

  -- and is known after it
  pub resolve-there : (f : ℕ) (M : Memo) (d : ℕ) → at M d ≡ unknown → at (resolve bodies f M d).memo d ≡ known (resolve bodies f M d).value
  unfolding resolve
  resolve-there zero M d u = put_same M d none (at_lt M d u)
  resolve-there (suc f) M d u = put_same _ d _ (still f M d u)

  pub resolve-less : (f : ℕ) (M : Memo) (d : ℕ) → at M d ≡ unknown → unknowns (resolve bodies f M d).memo < unknowns M
  unfolding resolve
  resolve-less zero M d u = unknowns-less M d none u
  resolve-less (suc f) M d u =
      let r : Ran Outcome = run (resolve bodies f) (put M d none) (bodies d) in
      omega (arith, unknowns-put r.memo d r.value, (grown f (bodies d) (put M d none)).fewer, unknowns-less M d none u)

  -- ---- fuel
  run-same : {A : Type 0} (c f f' : ℕ) → ((M : Memo) (d : ℕ) → at M d ≡ unknown → unknowns M ≤ c → resolve bodies f M d ≡ resolve bodies f' M d)
      → (m : Ask A) (M : Memo) → unknowns M ≤ c → run (resolve bodies f) M m ≡ run (resolve bodies f') M m
  unfolding run
  run-same c f f' h (done a) M l = refl
  run-same c f f' h (ask d k) M l = go (at M d) refl (λ o. run-same c f f' h (k o))
    where
      go : (w : Look) → at M d ≡ w → ((o : Outcome) (N : Memo) → unknowns N ≤ c → run (resolve bodies f) N (k o) ≡ run (resolve bodies f') N (k o))
          → on_look w (λ o. run (resolve bodies f) M (k o)) (λ u. run (resolve bodies f) (resolve bodies f M d).memo (k (resolve bodies f M d).value))
          ≡ on_look w (λ o. run (resolve bodies f') M (k o)) (λ u. run (resolve bodies f') (resolve bodies f' M d).memo (k (resolve bodies f' M d).value))
      go (known o) q ih = ih o M l
      go unknown q ih = rw (h M d q l) (ih (resolve bodies f' M d).value (resolve bodies f' M d).memo (omega (arith, (resolve-more f' M d q).fewer)))

  -- fuel that is at least the number of unknown types changes nothing
  pub resolve_same : (f f' : ℕ) (M : Memo) (d : ℕ) → at M d ≡ unknown → unknowns M ≤ f → unknowns M ≤ f' → resolve bodies f M d ≡ resolve bodies f' M d
  unfolding resolve
  resolve_same zero f' M d u h h' = absurd (omega (arith, unknowns-less M d none u))
  resolve_same (suc f) zero M d u h h' = absurd (omega (arith, unknowns-less M d none u))
  resolve_same (suc f) (suc f') M d u h h' =
      let c = unknowns-less M d none u in
      rw (run-same (unknowns (put M d none)) f f' (λ N e v l. resolve_same f f' N e v (omega arith) (omega arith)) (bodies d) (put M d none) (omega arith))

  pub fuel : {A : Type 0} (f f' : ℕ) (M : Memo) → unknowns M ≤ f → unknowns M ≤ f' → (m : Ask A) → run (resolve bodies f) M m ≡ run (resolve bodies f') M m
  fuel f f' M h h' m = run-same (unknowns M) f f' (λ N e v l. resolve_same f f' N e v (omega arith) (omega arith)) m M (omega arith)

  -- so the fuel can be forgotten: a resolver of itself
  pub resolve-step : (f : ℕ) (M : Memo) (d : ℕ) → at M d ≡ unknown → unknowns M ≤ f
      → resolve bodies f M d ≡ (let r = run (resolve bodies f) (put M d none) (bodies d) in record { memo = put r.memo d r.value; value = r.value })
  unfolding resolve
  resolve-step f M d u h = resolve_same f (suc f) M d u h (omega arith)

  -- more fuel than types changes nothing
  pub fuel-types : {A : Type 0} (n f : ℕ) → n ≤ f → (M : Memo) → length M ≡ n → (m : Ask A) → run (resolve bodies f) M m ≡ run (resolve bodies n) M m
  fuel-types n f h M l m = fuel f n M (omega (arith, unknowns-length M)) (omega (arith, unknowns-length M)) m

  pub fuel-all : (n f : ℕ) → n ≤ f → (declared : List ℕ) → (run (resolve bodies f) (empty n) (asking declared)).memo ≡ resolve_all bodies n declared
  unfolding resolve_all
  fuel-all n f h declared = ap (λ (r : Ran (Unit {0})). r.memo) (fuel-types n f h (empty n) (empty-long n) (asking declared))

  -- after all declared types there are still as many
  pub all-long : (n : ℕ) (declared : List ℕ) → length (resolve_all bodies n declared) ≡ n
  unfolding resolve_all
  all-long n declared = (grown n (asking declared) (empty n)).long ∙ empty-long n

-- what the type t gives after all declared types
unfoldable pub answer_of : (ℕ → Ask Outcome) → ℕ → List ℕ → ℕ → Outcome
answer_of bodies n declared t = (run (resolve bodies n) (resolve_all bodies n declared) (ask t done)).value
