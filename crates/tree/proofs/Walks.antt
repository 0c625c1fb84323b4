-- The steps of the walk over nodes, and its loop. Assumes nothing.
use mathlib.Core.Path.{◌≡◌, refl, sym, ◌∙◌}
use mathlib.Core.Bool.{Bool, true, false}
use mathlib.Core.List.{List, [], ◌∷◌}
use Prim.Native.Nat.{ℕ, zero, suc, ◌+◌, ◌*◌, ◌-◌, ◌/◌, ◌≤◌, ◌<◌}
use native.Mathlib.Omega.{arith}
use lib.Dec.{leb}
use lib.ListN.{length, get_or, drop, length-drop}
use lib.Seq.{drop-drop, get_or-drop}
use borrow.Author.Rules.{rules}
use borrow.Author.Tests.{le-leb, lt-leb, lt-ltb, le-ltb}
use Rattle.std.specs.Prelude.{Some, None}
use Rattle.definition.specs.Base.{pick}
use Rattle.definition.specs.Sheet.{parts_of}
use Rattle.tree.specs.Extent.{on_count, walk, after_of}

-- ---- a step of the walk
pub walk_none : (l : List ℕ) (at : ℕ) → walk l 0 at ≡ Some at
unfolding walk
walk_none [] at = refl
walk_none (a ∷ []) at = refl
walk_none (a ∷ b ∷ []) at = refl
walk_none (a ∷ b ∷ c ∷ []) at = refl
walk_none (a ∷ b ∷ c ∷ d ∷ []) at = refl
walk_none (a ∷ b ∷ c ∷ d ∷ e ∷ []) at = refl
walk_none (a ∷ b ∷ c ∷ d ∷ e ∷ f ∷ l) at = refl

pick-both : {X : Type 0} (b : Bool) (x y : X) → x ≡ y → pick b x y ≡ y
pick-both true x y e = e
pick-both false x y e = refl

some : {X : Type 0} (k : ℕ) (x y : X) (f : ℕ → X) → 0 < k → ((j : ℕ) → k ≡ suc j → f j ≡ y) → on_count k x f ≡ y
some zero x y f h g = absurd (omega arith)
some (suc k) x y f h g = g k refl

-- more trees than there are nodes
pub walk-many : (l : List ℕ) (k at : ℕ) → length l < 6 * k → walk l k at ≡ None
unfolding walk
walk-many [] k at h = some k _ None _ (omega arith) (λ j e. refl)
walk-many (a ∷ []) k at h = some k _ None _ (omega arith) (λ j e. refl)
walk-many (a ∷ b ∷ []) k at h = some k _ None _ (omega arith) (λ j e. refl)
walk-many (a ∷ b ∷ c ∷ []) k at h = some k _ None _ (omega arith) (λ j e. refl)
walk-many (a ∷ b ∷ c ∷ d ∷ []) k at h = some k _ None _ (omega arith) (λ j e. refl)
walk-many (a ∷ b ∷ c ∷ d ∷ e ∷ []) k at h = some k _ None _ (omega arith) (λ j e. refl)
walk-many (a ∷ b ∷ c ∷ d ∷ e ∷ f ∷ l) k at h =
    some k _ None _ (omega arith) (λ j e. pick-both (leb b 14) _ None (walk-many l (parts_of b d + j) (at + 6) (omega arith)))

-- a whole node is there
six : (l : List ℕ) (k at : ℕ) → 6 ≤ length l → 0 < k
    → walk l k at ≡ pick (leb (get_or l 1 0) 14) (walk (drop 6 l) (parts_of (get_or l 1 0) (get_or l 3 0) + (k - 1)) (at + 6)) None
unfolding walk
six [] k at h p = absurd (omega arith)
six (a ∷ []) k at h p = absurd (omega arith)
six (a ∷ b ∷ []) k at h p = absurd (omega arith)
six (a ∷ b ∷ c ∷ []) k at h p = absurd (omega arith)
six (a ∷ b ∷ c ∷ d ∷ []) k at h p = absurd (omega arith)
six (a ∷ b ∷ c ∷ d ∷ e ∷ []) k at h p = absurd (omega arith)
six (a ∷ b ∷ c ∷ d ∷ e ∷ f ∷ l) k at h p = some k _ _ _ p (λ j q. let i : j ≡ k - 1 = omega arith in rw i)

-- ---- the loop: what is left comes to what the whole comes to
pub record Going (s : List ℕ) (from count left at k : ℕ) : Type 0 where
  pub within : at ≤ length s
  pub nodes_left : left ≡ (length s - at) / 6
  pub same : walk (drop at s) k at ≡ after_of s from count

pub going-zero : (s : List ℕ) (from : ℕ) {count : ℕ} → count ≡ 0 → Some from ≡ after_of s from count
unfolding after_of
going-zero s from z = rw z (sym (walk_none (drop from s) from))

pub going-none : (s : List ℕ) (from count : ℕ) → (count ≡ 0 → ⊥) → length s < from → None ≡ after_of s from count
unfolding after_of
going-none s from count z h = sym (walk-many (drop from s) count from (simp length-drop (omega arith)))

pub going-first : (s : List ℕ) (from count : ℕ) → from ≤ length s → Going s from count ((length s - from) / 6) from count
unfolding after_of
going-first s from count h = record { within = h; nodes_left = refl; same = refl }

module _ {s : List ℕ} {from count left at k : ℕ} (g : Going s from count left at k) where
  pub going-over : k ≤ 0 → Some at ≡ after_of s from count
  going-over h = let z : k ≡ 0 = omega arith in sym (walk_none (drop at s) at) ∙ rw z at g.same

  pub going-many : left < k → None ≡ after_of s from count
  going-many h = sym (walk-many (drop at s) k at (simp length-drop (omega arith))) ∙ g.same

  module _ (p : 0 < k) (q : k ≤ left) where
    step : pick (leb (get_or s (at + 1) 0) 14) (walk (drop (at + 6) s) (parts_of (get_or s (at + 1) 0) (get_or s (at + 3) 0) + (k - 1)) (at + 6)) None ≡ after_of s from count
    step = simp (get_or-drop, drop-drop) at (sym (six (drop at s) k at (simp length-drop (omega arith)) p) ∙ g.same)

    pub going-kind : 14 < get_or s (at + 1) 0 → None ≡ after_of s from count
    going-kind h = rw (lt-leb (get_or s (at + 1) 0) 14 h) at step

    pub going_on : get_or s (at + 1) 0 ≤ 14 → {n : ℕ} → n ≡ parts_of (get_or s (at + 1) 0) (get_or s (at + 3) 0) → Going s from count (left - 1) (at + 6) (n + (k - 1))
    going_on h e = record { within = omega arith; nodes_left = omega arith; same = rw e (rw (le-leb (get_or s (at + 1) 0) 14 h) at step) }

pub ruleset goings = (rules, lt-ltb, le-ltb, going-zero, going-none, going-first, going-over, going-many, going-kind, going_on)
