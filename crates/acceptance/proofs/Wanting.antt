-- Work words: the products, and the answer where the file is accepted or not. Assumes nothing.
use mathlib.Core.Path.{◌≡◌}
use mathlib.Core.Bool.{false}
use mathlib.Core.List.{List}
use Prim.Native.Nat.{ℕ, ◌*◌, ◌≤◌}
use native.Mathlib.Omega.{arith}
use lib.Dec.{eqb}
use borrow.Author.Rules.{rules}
use borrow.Author.Tests.{eq-eqb, ne_eqb}
use Rattle.std.specs.Prelude.{Ok, Err}
use Rattle.definition.specs.declared.answers.Refusal.{Refusal}
use Rattle.definition.specs.declared.answers.Refusal.TheVariants as refusal
use Rattle.definition.specs.Layout.{count, types}
use Rattle.definition.specs.Accept.{verdict}
use Rattle.definition.specs.Depth.{levels}
use Rattle.definition.specs.Answers.{number_of, after_file, line_words, room_words, words_say, words_answer}

-- ---- the products
module _ (f : List ℕ) where
  pub lines_are : {t : ℕ} → t ≡ count f types → t * 12291 ≡ line_words f
  unfolding line_words
  lines_are e = rw e

  pub room-is : {deep : ℕ} → deep ≡ levels f → deep * 24576 ≡ room_words f
  unfolding room_words
  room-is e = rw e

-- ---- the answers
pub at-least-one : (r : Refusal) → 1 ≤ number_of r
unfolding number_of
at-least-one refusal.Ends = omega arith
at-least-one refusal.Counts = omega arith
at-least-one refusal.Words = omega arith
at-least-one refusal.Points = omega arith
at-least-one refusal.Alike = omega arith
at-least-one refusal.Elements = omega arith
at-least-one refusal.Missing = omega arith
at-least-one refusal.Large = omega arith
at-least-one refusal.Circle = omega arith
at-least-one refusal.Short = omega arith
at-least-one refusal.Sections = omega arith
at-least-one refusal.Ranks = omega arith
at-least-one refusal.Lines = omega arith
at-least-one refusal.NotHeld = omega arith
at-least-one refusal.Wide = omega arith

pub not-zero : (r : Refusal) → eqb (number_of r) 0 ≡ false
not-zero r = ne_eqb (number_of r) 0 (λ e. absurd (omega (arith, at-least-one r)))

none-else : (f : List ℕ) (r : Refusal) → number_of r ≡ verdict f → eqb (verdict f) 0 ≡ false
none-else f r e = rw (← e) (not-zero r)

module _ (f : List ℕ) where
  -- what a function refuses after the file's own refusals
  module _ (next : Unit {0} → ℕ) where
    pub file-passes : verdict f ≡ 0 → after_file f next ≡ next tt
    file-passes e = rw (eq-eqb (verdict f) 0 e)

    pub file-refuses : (r : Refusal) → number_of r ≡ verdict f → number_of r ≡ after_file f next
    file-refuses r e = rw (none-else f r e) e

  pub lines-said : {g : List ℕ} → g ≡ f → verdict f ≡ 0 → {w : ℕ} → w ≡ line_words g → words_say (Ok w) ≡ words_answer f (line_words f)
  unfolding words_say words_answer
  lines-said q e h = rw (eq-eqb (verdict f) 0 e, h, q)

  pub room-said : {g : List ℕ} → g ≡ f → verdict f ≡ 0 → {w : ℕ} → w ≡ room_words g → words_say (Ok w) ≡ words_answer f (room_words f)
  unfolding words_say words_answer
  room-said q e h = rw (eq-eqb (verdict f) 0 e, h, q)

  pub refusal-said : (r : Refusal) → number_of r ≡ verdict f → (n : ℕ) → words_say (Err r) ≡ words_answer f n
  unfolding words_say words_answer
  refusal-said r e n = rw (none-else f r e, e)

pub ruleset wanting = (rules, lines_are, room-is, lines-said, room-said, refusal-said)
