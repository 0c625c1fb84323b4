-- A law for each call and each return of refusal.rt, and what holds where nothing is refused. Assumes nothing.
use mathlib.Core.Path.{◌≡◌, refl, ap, ◌∙◌}
use mathlib.Core.Bool.{Bool, true, false, ◌&&◌}
use mathlib.Core.List.{List}
use Prim.Native.Nat.{ℕ, ◌≤◌, min}
use native.Mathlib.Omega.{arith}
use lib.Dec.{eqb, leb}
use borrow.Author.Rules.{rules}
use borrow.Author.Tests.{eqb-true, eqb-false, leb-true}
use Rattle.std.specs.Prelude.{Result, Ok, Err, is_ok, MatchResult}
use Rattle.definition.specs.declared.answers.Refusal.{Refusal}
use Rattle.definition.specs.Base.{choose}
use Rattle.definition.specs.Accept.{need, verdict}
use Rattle.definition.specs.Answers.{number_of, line_words, room_words, enough_sheet, write_refused}
use Rattle.laws.specs.Cases.{both}
use Rattle.records.specs.declared.file.File.{File}
use denote.Ref.{Bor}
use Rattle.acceptance.specs.Admitted as Asked
use Rattle.acceptance.specs.Admitted.{refusal_in}
use Rattle.acceptance.proofs.Wanting.{at-least-one}
use Rattle.writer.specs.Sheets.{Passed}

-- ---- `asked`
pub enough-words : (f : List ℕ) (out lines room : ℕ) {n m : ℕ} → n ≡ line_words f → m ≡ min out n → (r : Result (Unit {0}) Refusal)
    → refusal_in r ≡ need (leb m lines && leb (room_words f) room) 10 (λ u. 0) → refusal_in r ≡ need (enough_sheet f out lines room) 10 (λ u. 0)
unfolding enough_sheet
enough-words f out lines room q e r h = rw (← q, ← e) h

-- ---- `admitted`
pub admitted-by : (f : List ℕ) (out lines room : ℕ) {answers : Bor File → Result (Unit {0}) Refusal → Type 0} {r : Result File Refusal} → Asked.Admits answers f r
    → ((file : Bor File) (a : Result (Unit {0}) Refusal) → answers file a → refusal_in a ≡ need (enough_sheet file.now.source out lines room) 10 (λ u. 0))
    → MatchResult r (λ file. (file.source ≡ f) × (write_refused f out lines room ≡ 0)) (λ refusal. number_of refusal ≡ write_refused f out lines room)
unfolding write_refused
admitted-by f out lines room x h =
    x.is (λ u. need (enough_sheet f out lines room) 10 (λ u. 0)) (λ file a q p. h file a p ∙ ap (λ (l : List ℕ). need (enough_sheet l out lines room) 10 (λ u. 0)) q)

pub ruleset refusing = (rules, enough-words, admitted-by)

-- ---- what holds where nothing is refused
pub passed : (f : List ℕ) (out lines room : ℕ) → write_refused f out lines room ≡ 0 → Passed f out lines room
unfolding write_refused enough_sheet
passed f out lines room e = go (eqb (verdict f) 0) (enough_sheet f out lines room) refl refl e
  where
    go : (b c : Bool) → eqb (verdict f) 0 ≡ b → leb (min out (line_words f)) lines && leb (room_words f) room ≡ c → choose b (λ u. need c 10 λ v. 0) (λ u. verdict f) ≡ 0 → Passed f out lines room
    go true true p s h =
        let w = both (leb (min out (line_words f)) lines) (leb (room_words f) room) s in
        record { accepts = eqb-true (verdict f) 0 p; lined = leb-true (min out (line_words f)) lines w.0; roomy = leb-true (room_words f) room w.1 }
    go true false p s h = absurd (omega (arith, h))
    go false c p s h = absurd (eqb-false (verdict f) 0 p h)

pub passed-by : {f g : List ℕ} (out lines room : ℕ) → g ≡ f → write_refused f out lines room ≡ 0 → Passed g out lines room
passed-by {f} out lines room q e = rw q (passed f out lines room e)

-- ---- what is said of the first refusals alone
module _ (f : List ℕ) (out lines room : ℕ) where
  abbrev Admits : Result File Refusal → Type 0
  Admits r = MatchResult r (λ file. (file.source ≡ f) × (write_refused f out lines room ≡ 0)) (λ refusal. number_of refusal ≡ write_refused f out lines room)

  pub admitted-none : (r : Result File Refusal) → Admits r → is_ok r ≡ true → write_refused f out lines room ≡ 0
  admitted-none (Ok file) m h = m.1
  admitted-none (Err e) m h = let z : ◌≡◌ {A = ℕ} 0 1 = cc in absurd (omega arith)

  pub admitted-not : (r : Result File Refusal) → Admits r → is_ok r ≡ false → write_refused f out lines room ≡ 0 → ⊥
  admitted-not (Ok file) m h z = let z : ◌≡◌ {A = ℕ} 0 1 = cc in omega arith
  admitted-not (Err e) m h z = omega (arith, m, at-least-one e)
