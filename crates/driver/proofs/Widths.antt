-- How many words the lines of a memo have, and how many words of an index are 0. Assumes nothing.
use mathlib.Core.Path.{◌≡◌, refl, ap, sym}
use mathlib.Core.Bool.{Bool, true, false}
use mathlib.Core.List.{List, [], ◌∷◌}
use Prim.Native.Nat.{ℕ, zero, suc, ◌+◌, ◌*◌, ◌≤◌, ◌<◌}
use native.Mathlib.Omega.{arith}
use lib.Dec.{eqb}
use lib.ListN.{length, get_or, set}
use borrow.Author.Tests.{ne_eqb}
use Rattle.definition.specs.Base.{pick}
use Rattle.definition.specs.Ask.{ok, none, large, Outcome, Ask}
use Rattle.definition.specs.Tree.{nodes, tree_words}
use Rattle.definition.specs.Resolve.{known, unknown, Memo, at, put, empty, Ran, run, resolve}
use Rattle.definition.specs.Lines.{outcome_words}
use Rattle.laws.specs.Asks.{OnOk}
use Rattle.laws.specs.Values.{Small}
use Rattle.laws.specs.Whole.{flatten-length}
use Rattle.laws.specs.Memo.{put_same, at_lt}
use Rattle.laws.specs.Resolving.{run-keeps, grown}
use Rattle.driver.specs.Driver.{look_words, width, spent, zeros}

-- ---- a line
pub line-least : (o : Outcome) → 3 ≤ look_words (known o)
unfolding look_words outcome_words
line-least (ok t) = omega arith
line-least none = omega arith
line-least large = omega arith

pub line-none : look_words (known none) ≡ 3
unfolding look_words outcome_words
line-none = refl

pub line-large : look_words (known large) ≡ 3
unfolding look_words outcome_words
line-large = refl

pub line-tree : (o : Outcome) (t : _) → o ≡ ok t → look_words (known o) ≡ 3 + nodes t * 6
unfolding look_words outcome_words
line-tree o t e = rw e (omega (arith, flatten-length t))

pub line-unknown : look_words unknown ≡ 0
unfolding look_words
line-unknown = refl

pub line-most : (o : Outcome) → OnOk Small o → look_words (known o) ≤ 3 + tree_words
unfolding look_words outcome_words
line-most (ok t) s = omega (arith, flatten-length t, s.few)
line-most none s = omega arith
line-most large s = omega arith

-- ---- all lines
pub width-put : (M : Memo) (d : ℕ) (o : Outcome) → look_words (at M d) ≤ 3 → width M ≤ width (put M d o)
unfolding width put at
width-put [] d o h = omega arith
width-put (l ∷ M) zero o h = omega (arith, line-least o)
width-put (l ∷ M) (suc d) o h = omega (arith, width-put M d o h)

pub width-most : (M : Memo) → ((t : ℕ) (o : Outcome) → at M t ≡ known o → OnOk Small o) → width M ≤ (3 + tree_words) * length M
unfolding width at look_words
width-most [] h = omega arith
width-most (unknown ∷ M) h = omega (arith, width-most M (λ t o e. h (suc t) o e))
width-most (known o ∷ M) h =
    let l = line-most o (h 0 o refl) in
    omega (arith, width-most M (λ t p e. h (suc t) p e))

pub spent-width : (M : Memo) (index : List ℕ) → spent M index ≤ width M
unfolding spent width
spent-width [] index = omega arith
spent-width (l ∷ M) [] = omega arith
spent-width (l ∷ M) (w ∷ index) = go (eqb w 1) (spent-width M index)
  where
    go : (b : Bool) → spent M index ≤ width M → pick b 0 (look_words l) + spent M index ≤ look_words l + width M
    go true h = omega arith
    go false h = omega arith

-- ---- a run loses none
module _ (bodies : ℕ → Ask Outcome) where
  mark-width : (M : Memo) (d : ℕ) (o : Outcome) → at M d ≡ unknown → width M ≤ width (put M d o)
  mark-width M d o u = width-put M d o (rw (u, line-unknown) (omega arith))

  pub none-width : (M : Memo) (d : ℕ) (o : Outcome) → at M d ≡ known none → width M ≤ width (put M d o)
  none-width M d o e = width-put M d o (rw (e, line-none) (omega arith))

  resolve-width : (n : ℕ) (M : Memo) (d : ℕ) → at M d ≡ unknown → width M ≤ width (resolve bodies n M d).memo
  unfolding resolve
  resolve-width zero M d u = mark-width M d none u
  resolve-width (suc n) M d u =
      let r : Ran Outcome = run (resolve bodies n) (put M d none) (bodies d) in
      let k : at r.memo d ≡ known none = (grown bodies n (bodies d) (put M d none)).old d none (put_same M d none (at_lt M d u)) in
      let w : width (put M d none) ≤ width r.memo =
      run-keeps (λ (N : Memo). width (put M d none) ≤ width N) (resolve bodies n) (λ N e h v. omega (arith, resolve-width n N e v)) (bodies d) (put M d none) (omega arith) in
      omega (arith, mark-width M d none u, none-width r.memo d r.value k)

  pub run-width : {A : Type 0} (n : ℕ) (m : Ask A) (M : Memo) → width M ≤ width (run (resolve bodies n) M m).memo
  run-width n m M = run-keeps (λ (N : Memo). width M ≤ width N) (resolve bodies n) (λ N e h v. omega (arith, resolve-width n N e v)) m M (omega arith)

-- ---- lines but those in progress
pub spent-empty : (n : ℕ) (index : List ℕ) → spent (empty n) index ≡ 0
unfolding spent empty look_words
spent-empty zero index = refl
spent-empty (suc n) [] = refl
spent-empty (suc n) (w ∷ index) = go (eqb w 1) (spent-empty n index)
  where
    go : (b : Bool) → spent (empty n) index ≡ 0 → pick b 0 0 + spent (empty n) index ≡ 0
    go true h = omega arith
    go false h = omega arith

pub spent-begin : (M : Memo) (index : List ℕ) (d : ℕ) → at M d ≡ unknown → get_or index d 0 ≡ 0 → length M ≤ length index → spent (put M d none) (set index d 1) ≡ spent M index
unfolding spent at put
spent-begin [] index d u e h = refl
spent-begin (l ∷ M) [] d u e h = absurd (omega arith)
spent-begin (l ∷ M) (w ∷ index) zero u e h = rw (e, u) (ap (λ (n : ℕ). n + spent M index) (sym line-unknown))
spent-begin (l ∷ M) (w ∷ index) (suc d) u e h = rw (spent-begin M index d u e (omega arith))

pub spent-line : (M : Memo) (index : List ℕ) (t w : ℕ) (o : Outcome) → get_or index t 0 ≡ 1 → t < length M → length M ≤ length index
    → spent (put M t o) (set index t (w + 2)) ≡ spent M index + look_words (known o)
unfolding spent put
spent-line [] index t w o e l h = absurd (omega arith)
spent-line (k ∷ M) [] t w o e l h = absurd (omega arith)
spent-line (k ∷ M) (v ∷ index) zero w o e l h = rw (e, ne_eqb (w + 2) 1 (λ q. omega arith)) (omega arith)
spent-line (k ∷ M) (v ∷ index) (suc t) w o e l h = omega (arith, spent-line M index t w o e (omega arith) (omega arith))

-- ---- how many words are 0
zero_one : (w : ℕ) → pick {A = ℕ} (eqb (suc w) 0) 1 0 ≡ 0
zero_one w = rw (ne_eqb (suc w) 0 (λ q. omega arith))

pub zeros-keep : (l : List ℕ) (d v : ℕ) → zeros (set l d (suc v)) ≤ zeros l
unfolding zeros
zeros-keep [] d v = omega arith
zeros-keep (w ∷ l) zero v = omega (arith, zero_one v)
zeros-keep (w ∷ l) (suc d) v = omega (arith, zeros-keep l d v)

pub zeros-less : (l : List ℕ) (d v : ℕ) → d < length l → get_or l d 0 ≡ 0 → zeros (set l d (suc v)) < zeros l
unfolding zeros
zeros-less [] d v h e = absurd (omega arith)
zeros-less (w ∷ l) zero v h e = rw e (omega (arith, zero_one v))
zeros-less (w ∷ l) (suc d) v h e = omega (arith, zeros-less l d v (omega arith) e)
