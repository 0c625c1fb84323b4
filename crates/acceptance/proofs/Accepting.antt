-- The first refusal of 1 to 6: the tests before it hold, and its own fails. Assumes nothing.
use mathlib.Core.Path.{◌≡◌, refl, sym, ◌∙◌}
use mathlib.Core.Bool.{Bool, true, false}
use mathlib.Core.List.{List, []}
use Prim.Native.Nat.{ℕ, ◌≤◌}
use native.Mathlib.Omega.{arith}
use lib.Dec.{eqb, leb, lit<}
use borrow.Author.Rules.{rules}
use borrow.Author.Tests.{not-true, not-false, leb-true, eqb-true}
use Rattle.std.specs.Prelude.{Result, Ok, Err}
use Rattle.definition.specs.Base.{pick, choose, every}
use Rattle.definition.specs.Layout.{settings, shapes, limits_of_records, most_records, count}
use Rattle.laws.specs.Cases.{both}
use Rattle.laws.specs.Every.{every_true}
use Rattle.laws.specs.Accepted.{Accepted, accepted}
use Rattle.definition.specs.declared.answers.Refusal.{Refusal}
use Rattle.definition.specs.declared.answers.Refusal.TheVariants as refusal
use Rattle.definition.specs.Accept.{ends_right, counts_right, words_right, points_right, shapes_differ, arrays_small, need, verdict}
use Rattle.definition.specs.Answers.{refuses, says, number_of, acceptance_says, accept_answer}

-- ---- one test
pub holds : (test : Bool) (r : Refusal) {u : Unit {0}} → ◌≡◌ {A = Result (Unit {0}) Refusal} (Ok u) (pick test (Ok tt) (Err r)) → test ≡ true
holds true r e = refl
holds false r e = let z : ◌≡◌ {A = ℕ} 0 1 = cc in absurd (omega arith)

module _ (test : Bool) (r refusal : Refusal) where
  pub fails : ◌≡◌ {A = Result (Unit {0}) Refusal} (Err r) (pick test (Ok tt) (Err refusal)) → test ≡ false
  fails e = go test e
    where
      go : (t : Bool) → ◌≡◌ {A = Result (Unit {0}) Refusal} (Err r) (pick t (Ok tt) (Err refusal)) → t ≡ false
      go true h = let z : ◌≡◌ {A = ℕ} 0 1 = cc in absurd (omega arith)
      go false h = refl

  pub refused : ◌≡◌ {A = Result (Unit {0}) Refusal} (Err r) (pick test (Ok tt) (Err refusal)) → r ≡ refusal
  refused e = go test e
    where
      go : (t : Bool) → ◌≡◌ {A = Result (Unit {0}) Refusal} (Err r) (pick t (Ok tt) (Err refusal)) → r ≡ refusal
      go true h = let z : ◌≡◌ {A = ℕ} 0 1 = cc in absurd (omega arith)
      go false h = cc

-- ---- all of them
module _ (f : List ℕ) {r : Refusal} {ends : Bool} (a : ends ≡ ends_right f) where
  pub refused-1 : ends ≡ false → r ≡ refusal.Ends → acceptance_says (Err r) ≡ accept_answer f
  unfolding number_of acceptance_says accept_answer verdict
  refused-1 h q = rw (q, ← a, h)

  module _ (i : ends ≡ true) {counts : Bool} (b : counts ≡ counts_right f) where
    pub refused-2 : counts ≡ false → r ≡ refusal.Counts → acceptance_says (Err r) ≡ accept_answer f
    unfolding number_of acceptance_says accept_answer verdict
    refused-2 h q = rw (q, ← a, i, ← b, h)

    module _ (j : counts ≡ true) {words : Bool} (c : words ≡ words_right f) where
      pub refused-3 : words ≡ false → r ≡ refusal.Words → acceptance_says (Err r) ≡ accept_answer f
      unfolding number_of acceptance_says accept_answer verdict
      refused-3 h q = rw (q, ← a, i, ← b, j, ← c, h)

      module _ (k : words ≡ true) {points : Bool} (d : points ≡ points_right f) where
        pub refused-4 : points ≡ false → r ≡ refusal.Points → acceptance_says (Err r) ≡ accept_answer f
        unfolding number_of acceptance_says accept_answer verdict
        refused-4 h q = rw (q, ← a, i, ← b, j, ← c, k, ← d, h)

        module _ (l : points ≡ true) {differ : Bool} (e : differ ≡ shapes_differ f) where
          pub refused-5 : differ ≡ false → r ≡ refusal.Alike → acceptance_says (Err r) ≡ accept_answer f
          unfolding number_of acceptance_says accept_answer verdict
          refused-5 h q = rw (q, ← a, i, ← b, j, ← c, k, ← d, l, ← e, h)

module _ (f : List ℕ) {ends counts words points differ : Bool} where
  -- the last test decides
  pub last-test : ends ≡ ends_right f → ends ≡ true → counts ≡ counts_right f → counts ≡ true → words ≡ words_right f → words ≡ true
      → points ≡ points_right f → points ≡ true → differ ≡ shapes_differ f → differ ≡ true
      → {small : Bool} → small ≡ arrays_small f → {r : Result (Unit {0}) Refusal} → r ≡ pick small (Ok tt) (Err refusal.Elements) → acceptance_says r ≡ accept_answer f
  unfolding number_of acceptance_says accept_answer verdict
  last-test a i b j c k d l e m {small} g h = rw (h, ← a, i, ← b, j, ← c, k, ← d, l, ← e, m, ← g) (go small)
    where
      go : (small : Bool) → acceptance_says (pick small (Ok tt) (Err refusal.Elements)) ≡ choose (eqb (need small 6 (λ u. 0)) 0) (λ u. says 0 []) (λ u. refuses (need small 6 (λ u. 0)))
      go true = refl
      go false = refl

-- what refusal 5 has room for
pub few-shapes : (f : List ℕ) {counts : Bool} → counts ≡ counts_right f → counts ≡ true → count f shapes ≤ 1024
unfolding counts_right most_records limits_of_records
few-shapes f e h =
    let r : every (λ s. leb (count f s) (most_records s)) 14 ≡ true = (both (every (λ s. leb (count f s) (most_records s)) 14) (eqb (count f settings) 1) (sym e ∙ h)).0 in
    leb-true (count f shapes) 1024 (every_true (λ s. leb (count f s) (most_records s)) 14 r shapes (lit< tt))

-- ---- what the answer says of the file
pub passes : (f : List ℕ) {u : Unit {0}} → acceptance_says (Ok u) ≡ accept_answer f → verdict f ≡ 0
unfolding acceptance_says accept_answer
passes f e = go (eqb (verdict f) 0) refl e
  where
    go : (b : Bool) → eqb (verdict f) 0 ≡ b → says 0 [] ≡ choose b (λ u. says 0 []) (λ u. refuses (verdict f)) → verdict f ≡ 0
    go true p h = eqb-true (verdict f) 0 p
    go false p h = let z : ◌≡◌ {A = ℕ} 0 1 = cc in absurd (omega arith)

pub accepted-so : (f : List ℕ) {u : Unit {0}} → acceptance_says (Ok u) ≡ accept_answer f → Accepted f
accepted-so f e = accepted f (passes f e)

pub refused-so : (f : List ℕ) (r : Refusal) → acceptance_says (Err r) ≡ accept_answer f → number_of r ≡ verdict f
unfolding acceptance_says accept_answer
refused-so f r e = go (eqb (verdict f) 0) e
  where
    go : (b : Bool) → refuses (number_of r) ≡ choose b (λ u. says 0 []) (λ u. refuses (verdict f)) → number_of r ≡ verdict f
    go true h = let z : ◌≡◌ {A = ℕ} 0 1 = cc in absurd (omega arith)
    go false h = cc

pub ruleset accepting =
    (rules, not-true, not-false, holds, fails, refused, refused-1, refused-2, refused-3, refused-4, refused-5, last-test, few-shapes, passes, accepted-so, refused-so)
