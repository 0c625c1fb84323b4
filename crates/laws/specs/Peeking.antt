-- A table answers every ask, and a memo those that it knows. Assumes nothing.
use Rattle.std.proofs.Math.Path.{◌≡◌, refl}
use Rattle.std.proofs.Common.{ap, sym, ◌∙◌, arith}
use Rattle.std.proofs.Math.Logic.{⊎_elim}
use mathlib.Core.List.Memᴰ
use mathlib.Core.List.{List, [], ◌∷◌, Memᴰ}
use Rattle.std.specs.Prelude.{ℕ}
use Rattle.definition.specs.Ask.{Outcome, Ask, done, ask, bind}
use Rattle.definition.specs.Resolve.{Look, known, unknown, on_look, Memo, at, empty, Resolver, run, resolve, asking, resolve_all}
use Rattle.definition.specs.Peek.{look, Peek, got, wants, peek}
use Rattle.laws.specs.Asks.{Asks, asks-all}
use Rattle.laws.specs.Resolving.{resolve-more, grown, resolve-there, answer_of}

-- ---- a table
pub look-bind : {A B : Type 0} (L : ℕ → Outcome) (m : Ask A) (f : A → Ask B) → look L (bind m f) ≡ look L (f (look L m))
unfolding look bind
look-bind L (done a) f = refl
look-bind L (ask d k) f = look-bind L (k (L d)) f

module _ {A : Type 0} (P : ℕ → Type 0) (W : ℕ → Outcome → Type 0) (Q : A → Type 0) (L : ℕ → Outcome) where
  pub look-to : ((d : ℕ) → P d → W d (L d)) → (m : Ask A) → Asks P W Q m → Q (look L m)
  unfolding look
  look-to w (done a) h = h
  look-to w (ask d k) h = look-to w (k (L d)) (h.1 (L d) (w d h.0))

  -- a computation that is ready for a table's answers gives the table's result for them
  pub look-asks : ((d : ℕ) → P d → W d (L d)) → (m : Ask A) → Asks P W Q m → Asks P (λ d o. o ≡ L d) (λ a. a ≡ look L m) m
  unfolding look
  look-asks w (done a) h = refl
  look-asks w (ask d k) h = (h.0, λ o e. rw e (look-asks w (k (L d)) (h.1 (L d) (w d h.0))))

-- two tables that agree on what is asked
pub look-cong : {A : Type 0} (P : ℕ → Type 0) (W : ℕ → Outcome → Type 0) (Q : A → Type 0) (L L' : ℕ → Outcome)
    → ((d : ℕ) → P d → L d ≡ L' d) → ((d : ℕ) → P d → W d (L' d)) → (m : Ask A) → Asks P W Q m → look L m ≡ look L' m
look-cong P W Q L L' e w m h = look-to P (λ d o. o ≡ L' d) (λ a. a ≡ look L' m) L e m (look-asks P W Q L' w m h)

-- ---- a memo
abbrev pub on_got : {A B : Type 0} → Peek A → (A → Peek B) → Peek B
on_got (got a) f = f a
on_got (wants d) f = wants d

pub peek-bind : {A B : Type 0} (M : Memo) (m : Ask A) (f : A → Ask B) → peek M (bind m f) ≡ on_got (peek M m) (λ a. peek M (f a))
unfolding peek bind
peek-bind M (done a) f = refl
peek-bind M (ask d k) f = go (at M d) (λ o. peek-bind M (k o) f)
  where
    go : (l : Look) → ((o : Outcome) → peek M (bind (k o) f) ≡ on_got (peek M (k o)) (λ a. peek M (f a)))
        → on_look l (λ o. peek M (bind (k o) f)) (λ u. wants d) ≡ on_got (on_look l (λ o. peek M (k o)) (λ u. wants d)) (λ a. peek M (f a))
    go (known o) ih = ih o
    go unknown ih = refl

module _ {A : Type 0} (P : ℕ → Type 0) (W : ℕ → Outcome → Type 0) (Q : A → Type 0) (M : Memo) where
  -- a memo that has a table's lines for every P
  pub peek-look : (L : ℕ → Outcome) → ((d : ℕ) → P d → at M d ≡ known (L d)) → ((d : ℕ) → P d → W d (L d)) → (m : Ask A) → Asks P W Q m → peek M m ≡ got (look L m)
  unfolding peek look
  peek-look L e w (done a) h = refl
  peek-look L e w (ask d k) h = rw (e d h.0) (peek-look L e w (k (L d)) (h.1 (L d) (w d h.0)))

  -- what is wanted is unknown, and is one of those that are asked for
  pub peek-wants : ((d : ℕ) (o : Outcome) → P d → at M d ≡ known o → W d o) → (d : ℕ) (m : Ask A) → Asks P W Q m → peek M m ≡ wants d → (at M d ≡ unknown) × P d
  unfolding peek
  peek-wants w d (done a) h e = let z : ◌≡◌ {A = ℕ} 0 1 = cc in absurd (omega arith)
  peek-wants w d (ask d' k) h e = go (at M d') refl e (λ o v. peek-wants w d (k o) (h.1 o v))
    where
      go : (l : Look) → at M d' ≡ l → on_look l (λ o. peek M (k o)) (λ u. wants d') ≡ wants d
          → ((o : Outcome) → W d' o → peek M (k o) ≡ wants d → (at M d ≡ unknown) × P d) → (at M d ≡ unknown) × P d
      go (known o) q e' ih = ih o (w d' o h.0 q) e'
      go unknown q e' ih = let s : d' ≡ d = cc in rw (← s) (q, h.0)

pub peek-unknown : {A : Type 0} (M : Memo) (d : ℕ) (m : Ask A) → peek M m ≡ wants d → at M d ≡ unknown
peek-unknown M d m e = (peek-wants (λ e. Unit {0}) (λ e o. Unit {0}) (λ a. Unit {0}) M (λ e o p q. tt) d m (asks-all m) e).0

-- ---- run by steps
-- a computation that wants nothing is done, and leaves the memo as it was
pub finish : {A : Type 0} (res : Resolver) (M : Memo) (m : Ask A) (a : A) → peek M m ≡ got a → run res M m ≡ record { memo = M; value = a }
unfolding peek run
finish res M (done b) a e = let s : b ≡ a = cc in rw s
finish res M (ask d k) a e = go (at M d) refl e (λ o. finish res M (k o) a)
  where
    go : (l : Look) → at M d ≡ l → on_look l (λ o. peek M (k o)) (λ u. wants d) ≡ got a
        → ((o : Outcome) → peek M (k o) ≡ got a → run res M (k o) ≡ record { memo = M; value = a }) → run res M (ask d k) ≡ record { memo = M; value = a }
    go (known o) q e' ih = rw q (ih o e')
    go unknown q e' ih = let z : ◌≡◌ {A = ℕ} 0 1 = cc in absurd (omega arith)

-- what is wanted first can be resolved first, and the computation run again from its start
pub restart : {A : Type 0} (bodies : ℕ → Ask Outcome) (f : ℕ) (M : Memo) (d : ℕ) (m : Ask A) → peek M m ≡ wants d
    → run (resolve bodies f) M m ≡ run (resolve bodies f) (resolve bodies f M d).memo m
unfolding peek run
restart bodies f M d (done a) e = let z : ◌≡◌ {A = ℕ} 0 1 = cc in absurd (omega arith)
restart bodies f M d (ask d' k) e = go (at M d') refl e (peek-unknown M d (ask d' k) e) (λ o. restart bodies f M d (k o))
  where
    go : (l : Look) → at M d' ≡ l → on_look l (λ o. peek M (k o)) (λ u. wants d') ≡ wants d → at M d ≡ unknown
        → ((o : Outcome) → peek M (k o) ≡ wants d → run (resolve bodies f) M (k o) ≡ run (resolve bodies f) (resolve bodies f M d).memo (k o))
        → run (resolve bodies f) M (ask d' k) ≡ run (resolve bodies f) (resolve bodies f M d).memo (ask d' k)
    go (known o) q e' u ih = rw (q, (resolve-more bodies f M d u).old d' o q) (ih o e')
    go unknown q e' u ih = let s : d' ≡ d = cc in rw q (rw s (rw (resolve-there bodies f M d u)))

-- ---- after all declared types
module _ (bodies : ℕ → Ask Outcome) (f : ℕ) where
  -- what is asked for is known then
  asked : (t : ℕ) (k : Outcome → Ask (Unit {0})) (M : Memo) → (o : Outcome) × (at (run (resolve bodies f) M (ask t k)).memo t ≡ known o)
  unfolding run
  asked t k M = go (at M t) refl
    where
      go : (l : Look) → at M t ≡ l
          → (o : Outcome) × (at (on_look l (λ o. run (resolve bodies f) M (k o)) (λ u. run (resolve bodies f) (resolve bodies f M t).memo (k (resolve bodies f M t).value))).memo t ≡ known o)
      go (known o) q = (o, (grown bodies f (k o) M).old t o q)
      go unknown q = let r = resolve bodies f M t in (r.value, (grown bodies f (k r.value) r.memo).old t r.value (resolve-there bodies f M t q))

  asking-known : (t : ℕ) (l : List ℕ) (M : Memo) → Memᴰ t l → (o : Outcome) × (at (run (resolve bodies f) M (asking l)).memo t ≡ known o)
  unfolding asking run
  asking-known t [] M i = absurd (Memᴰ.not-nil i)
  asking-known t (d ∷ l) M i =
      ⊎_elim (λ e. rw (← e) (asked t (λ o. asking l) M)) (λ j. go (at M d) (λ N. asking-known t l N j)) (Memᴰ.cases_cons i)
    where
      go : (w : Look) → ((N : Memo) → (o : Outcome) × (at (run (resolve bodies f) N (asking l)).memo t ≡ known o))
          → (o : Outcome) × (at (on_look w (λ o. run (resolve bodies f) M (asking l)) (λ u. run (resolve bodies f) (resolve bodies f M d).memo (asking l))).memo t ≡ known o)
      go (known o) ih = ih M
      go unknown ih = ih (resolve bodies f M d).memo

known-run : (res : Resolver) (M : Memo) (t : ℕ) (o : Outcome) → at M t ≡ known o → (run res M (ask t done)).value ≡ o
unfolding run
known-run res M t o q = rw q

-- the memo itself holds the answers
pub filled : (bodies : ℕ → Ask Outcome) (n : ℕ) (declared : List ℕ) (t : ℕ) → Memᴰ t declared → at (resolve_all bodies n declared) t ≡ known (answer_of bodies n declared t)
unfolding resolve_all answer_of
filled bodies n declared t i =
    let x = asking-known bodies n t declared (empty n) i in
    x.1 ∙ ap known (sym (known-run (resolve bodies n) (resolve_all bodies n declared) t x.0 x.1))
