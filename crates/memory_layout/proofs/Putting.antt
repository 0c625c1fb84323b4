-- A shape's words, put at a place. Assumes nothing.
use mathlib.Core.Path.{◌≡◌, ap, sym, ◌∙◌}
use mathlib.Core.List.{List, ◌++◌}
use Prim.Native.Nat.{ℕ, ◌+◌, ◌≤◌, ◌<◌}
use native.Mathlib.Omega.{arith}
use native.Mathlib.Nat.{add-zero}
use lib.ListN.{length, get_or, take, drop, length-append, length-take, length-drop}
use borrow.Author.Rules.{rules}
use lib.Seq.{get_or-drop}
use Rattle.std.proofs.lemmas.List.{get_or-take, get_or_append_left, get_or-append-add}
use Rattle.tree.specs.Words.{Stand}
use Rattle.tree.proofs.Stands.{stand-rest}
use Rattle.definition.specs.declared.records.Shape.{Shape}
use Rattle.memory_laws.specs.InWords.{shape_in}
use Rattle.memory_layout.specs.Words.{Before, Put}

-- the words of the shape that was met
pub joined : {s y x : Shape} → s ≡ y → x ≡ y → x ≡ s
joined e h = h ∙ sym e

-- a word that stands at a place
pub word-there : {s : List ℕ} {at : ℕ} {ws : List ℕ} {end : ℕ} → Stand s at ws end → (k : ℕ) → get_or s (at + k) 0 ≡ get_or (ws ++ drop end s) k 0
word-there {s} {at} x k = sym (get_or-drop at s k 0) ∙ ap (λ (l : List ℕ). get_or l k 0) (stand-rest x)

module _ (old : List ℕ) (at : ℕ) (h : at + 6 ≤ length old) where
  front : length (take at old) ≡ at
  front = omega (arith, length-take at old)

module _ (old : List ℕ) (at : ℕ) (h : at + 6 ≤ length old) (w : List ℕ) (six : length w ≡ 6) where
  long : length (take at old ++ w) ≡ at + 6
  long = omega (arith, length-append (take at old) w, front old at h, six)

  at-front : (i : ℕ) → i < at → get_or (take at old ++ w ++ drop (at + 6) old) i 0 ≡ get_or old i 0
  at-front i l =
      get_or_append_left (take at old ++ w) (drop (at + 6) old) 0 i (omega (arith, long)) ∙ get_or_append_left (take at old) w 0 i (omega (arith, front old at h)) ∙ get_or-take at old i 0 l

  at-place : (k : ℕ) → k < 6 → get_or (take at old ++ w ++ drop (at + 6) old) (at + k) 0 ≡ get_or w k 0
  at-place k l =
      get_or_append_left (take at old ++ w) (drop (at + 6) old) 0 (at + k) (omega (arith, long))
      ∙ ap (λ (n : ℕ). get_or (take at old ++ w) (n + k) 0) (sym (front old at h))
      ∙ get_or-append-add (take at old) w k 0

  all-long : length (take at old ++ w ++ drop (at + 6) old) ≡ length old
  all-long = omega (arith, length-append (take at old ++ w) (drop (at + 6) old), long, length-drop (at + 6) old)

module _ (old : List ℕ) (at : ℕ) (h : at + 6 ≤ length old) (w : List ℕ) (six : length w ≡ 6) {new : List ℕ} (e : new ≡ take at old ++ w ++ drop (at + 6) old) where
  before : Before at old new
  before = record { long = ap length e ∙ all-long old at h w six; same = λ i l. ap (λ (x : List ℕ). get_or x i 0) e ∙ at-front old at h w six i l }

  there : (k : ℕ) → k < 6 → get_or new (at + k) 0 ≡ get_or w k 0
  there k l = ap (λ (x : List ℕ). get_or x (at + k) 0) e ∙ at-place old at h w six k l

  pub shape-put : {s : Shape} → shape_in w 0 ≡ s → Put s at old new
  shape-put q =
      let n : get_or new at 0 ≡ get_or w 0 0 = rw add-zero at (there 0 (omega arith)) in
      record {
        kept = before;
        is = rw (n, there 1 (omega arith), there 2 (omega arith), there 3 (omega arith), there 4 (omega arith)) q;
      }

pub ruleset putting = (rules, shape-put)
