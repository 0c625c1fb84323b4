-- What stands in the words after each function that writes, as trees of the definition. Assumes nothing.
use mathlib.Core.Path.{◌≡◌, refl, ap, sym, ◌∙◌}
use mathlib.Core.Bool.{Bool, true, false}
use mathlib.Core.List.{List, ◌++◌}
use Prim.Native.Nat.{ℕ, zero, suc, ◌+◌, ◌*◌, ◌≤◌}
use native.Mathlib.Omega.{arith}
use native.Mathlib.Nat.{add-zero}
use lib.ListN.{length, take, drop, set, length-drop, length-set}
use lib.Seq.{paste, take-paste, drop-paste, length-paste, take_at, take_all, take-take, drop-set-add, length-take-le}
use Rattle.std.specs.Prelude.{Option, Some}
use Rattle.definition.specs.Tree.{Tree, Trees, node, many, flatten, flatten_all, leaf, headed, named, times}
use Rattle.laws.specs.Whole.{flatten_all-join}
use Rattle.tree.specs.Words.{Stand, Wrote, rept}
use Rattle.tree.specs.Node.{head_words}
use Rattle.tree.proofs.Stands.{take-drop, stand-rest, rest-stand, stand-append, stand-kept, stand-behind, wrote-stand}
use Rattle.tree.proofs.Repeats.{length-rept}

-- ---- what was written
-- an answer that is an end: the test held, and the words are there
pub wrote-so-is : (test : Bool) {old : List ℕ} {at : ℕ} {src : List ℕ} {n : ℕ} {r : Option ℕ} {new : List ℕ} → Wrote test old at src n r new → {e : ℕ} → r ≡ Some e
    → (test ≡ true) × (e ≡ at + n) × (new ≡ paste old at src n)
wrote-so-is true q r = let z = q.says in (refl, cc, q.is)
wrote-so-is false q r = let z = q.says in cc

module _ (old : List ℕ) (at : ℕ) (src : List ℕ) (n : ℕ) (h : at + n ≤ length old) (k : n ≤ length src) {new : List ℕ} (e : new ≡ paste old at src n) where
  pub paste-stands : Stand new at (take n src) (at + n)
  paste-stands =
      wrote-stand old new at (take n src) (at + n) (omega arith) (ap (λ (m : ℕ). at + m) (sym (length-take-le n src k)))
      (rw e (take-paste old at src n (omega arith) k))

  paste-long : length new ≡ length old
  paste-long = ap length e ∙ length-paste old at src n h k

  -- what stood before it, and what stood behind it
  pub paste-before : {a : ℕ} {ws : List ℕ} {b : ℕ} → Stand old a ws b → b ≤ at → Stand new a ws b
  paste-before x l =
      stand-kept x new at paste-long l
      (sym (take-take at (at + n) new (omega arith)) ∙ ap (take at) (rw e (take-paste old at src n (omega arith) k)) ∙ take_at (take at old) (take n src) at (length-take-le at old (omega arith)))

  pub paste-behind : {a : ℕ} {ws : List ℕ} {b : ℕ} → Stand old a ws b → at + n ≤ a → Stand new a ws b
  paste-behind x l = stand-behind x new (at + n) paste-long l (rw e (drop-paste old at src n (omega arith) k))

-- ---- a leaf
pub leaf-there : (old : List ℕ) (at kind sign low high width : ℕ) → at + 6 ≤ length old → {new : List ℕ} → new ≡ paste old at (flatten (leaf kind sign low high width)) 6
    → Stand new at (flatten (leaf kind sign low high width)) (at + 6)
unfolding flatten leaf
leaf-there old at kind sign low high width h i = paste-stands old at (flatten (leaf kind sign low high width)) 6 h (omega arith) i

-- ---- a head over parts that stand behind it
pub headed-words : (kind : ℕ) (ts : Trees) → flatten (headed kind ts) ≡ head_words kind (many ts) ++ flatten_all ts
unfolding flatten headed
headed-words kind ts = refl

pub headed-there : (old : List ℕ) (at kind : ℕ) (ts : Trees) (e : ℕ) → Stand old (at + 6) (flatten_all ts) e → {new : List ℕ} → new ≡ paste old at (head_words kind (many ts)) 6
    → Stand new at (flatten (headed kind ts)) e
headed-there old at kind ts e x {new} i =
    let h : at + 6 ≤ length old = omega (arith, x.long, x.fits) in
    let w = head_words kind (many ts) in
    rw (headed-words kind ts) (stand-append (paste-stands old at (head_words kind (many ts)) 6 h (omega arith) i) (paste-behind old at (head_words kind (many ts)) 6 h (omega arith) i x (omega arith)))

-- ---- a name
pub named-there : (old : List ℕ) (at : ℕ) (t : Tree) (e name : ℕ) → Stand old at (flatten t) e → {new : List ℕ} → new ≡ set old at name → Stand new at (flatten (named name t)) e
unfolding flatten named
named-there old at (node h ts) e name x {new} i =
    let n : at + 0 ≡ at = add-zero at in
    let d : drop at new ≡ flatten (named name (node h ts)) ++ drop e old =
    ap (drop at) (i ∙ ap (λ (k : ℕ). set old k name) (sym n)) ∙ drop-set-add at old 0 name ∙ ap (λ (l : List ℕ). set l 0 name) (stand-rest x) in
    let y = rest-stand new at (flatten (named name (node h ts))) (drop e old) (omega (arith, x.long, x.fits, ap length i, length-set old at name)) d in
    rw x.long at y

-- ---- copies
pub copied-there : (from : List ℕ) (a n : ℕ) (ws : List ℕ) → Stand from a ws (a + n) → (old : List ℕ) (at : ℕ) → at + n ≤ length old → {new : List ℕ} → new ≡ paste old at (drop a from) n
    → Stand new at ws (at + n)
copied-there from a n ws x old at h i =
    rw (take-drop a n from, x.is) at (paste-stands old at (drop a from) n h (simp length-drop (omega (arith, x.long, x.fits))) i)

pub flatten_all-times : (k : ℕ) (ts : Trees) → flatten_all (times k ts) ≡ rept k (flatten_all ts)
unfolding flatten times rept
flatten_all-times zero ts = refl
flatten_all-times (suc k) ts = flatten_all-join ts (times k ts) ∙ ap (λ (l : List ℕ). flatten_all ts ++ l) (flatten_all-times k ts)

pub repeated-there : (old : List ℕ) (at n k : ℕ) (ts : Trees) → Stand old at (flatten_all ts) (at + n) → at + n * k ≤ length old → {new : List ℕ}
    → new ≡ paste old at (rept k (take n (drop at old))) (n * k) → Stand new at (flatten_all (times k ts)) (at + n * k)
repeated-there old at n k ts x h {new} i =
    let w : take n (drop at old) ≡ flatten_all ts = take-drop at n old ∙ x.is in
    let j : new ≡ paste old at (rept k (flatten_all ts)) (n * k) = i ∙ ap (λ (l : List ℕ). paste old at (rept k l) (n * k)) w in
    let l : length (rept k (flatten_all ts)) ≡ n * k = length-rept k (flatten_all ts) ∙ ap (λ (m : ℕ). m * k) (omega (arith, x.long)) in
    rw (flatten_all-times k ts) (rw (take_all (n * k) (rept k (flatten_all ts)) (omega arith)) at (paste-stands old at (rept k (flatten_all ts)) (n * k) h (omega arith) j))
