-- Demand 3 for the code: what follows from the contract of `check_sheet` alone. What passes is right, whatever is lent; with the room that `room_words` asks for,
-- a sheet passes exactly when it is right (`Right` of crate laws: the fixed words of every line, under ranks that rise along every use), and the definition's
-- sheet passes. The contract's own clause is the premise `e`; at the end the same is said of what callers learn. Assumes nothing.
use mathlib.Core.Path.{◌≡◌, refl, ap, sym, ◌∙◌}
use mathlib.Core.Bool.{Bool, true, false}
use mathlib.Core.Logic.{◌↔◌}
use mathlib.Core.List.{List, []}
use Prim.Native.Nat.{ℕ, ◌≤◌}
use native.Mathlib.Omega.{arith}
use lib.Dec.{eqb, leb}
use lib.ListN.{length}
use contract.Lifetimes.{Lfts}
use denote.Ref.{Bor}
use denote.MutBor.{MutBor}
use borrow.Author.Tests.{eqb-true, eqb-false, eq-eqb, leb-true, le-leb}
use Rattle.std.specs.Prelude.{Result, Ok, Err}
use Rattle.definition.specs.declared.answers.Refusal.{Refusal}
use Rattle.definition.specs.Base.{choose}
use Rattle.definition.specs.Accept.{need, verdict}
use Rattle.definition.specs.Answers.{refuses, says, acceptance_says, check_says, room_words, check_refused, pass_answer}
use Rattle.definition.specs.Sheet.{sheet_words, check_answer}
use Rattle.definition.specs.Uses.{ranked, ranks_of}
use Rattle.laws.specs.Passing.{Right}
use Rattle.laws.specs.Demand.{passing, writer-passes}
use Rattle.sheet.proofs.check.check_sheet.Reads as reads

-- ---- the refusals
module _ (f s : List ℕ) (room : ℕ) where
  -- nothing is refused: the room is enough, and the check's answer is 0
  record Unrefused : Type 0 where
    enough : room_words f ≤ room
    answer : check_answer f s ≡ 0

  unrefused : check_refused f s room ≡ 0 → Unrefused
  unfolding check_refused
  unrefused h₀ = go (eqb (verdict f) 0) (leb (room_words f) room) refl refl h₀
    where
      go : (b c : Bool) → eqb (verdict f) 0 ≡ b → leb (room_words f) room ≡ c → choose b (λ u. need c 10 λ v. check_answer f s) (λ u. verdict f) ≡ 0 → Unrefused
      go true true p q h = record { enough = leb-true (room_words f) room q; answer = h }
      go true false p q h = absurd (omega (arith, h))
      go false c p q h = absurd (eqb-false (verdict f) 0 p h)

  none-refused : verdict f ≡ 0 → Unrefused → check_refused f s room ≡ 0
  unfolding check_refused
  none-refused a x = rw (eq-eqb (verdict f) 0 a, le-leb (room_words f) room x.enough) x.answer

-- ---- what `check_sheet` answers
abbrev pub Checked : Type 0
Checked = Result (Unit {0}) Refusal

-- a sheet passes
abbrev pub pass : Checked
pass = Ok tt

only-passes : (r : Checked) → check_says r ≡ says 0 [] → r ≡ pass
unfolding acceptance_says
only-passes (Ok u) h = refl
only-passes (Err n) h = let z : ◌≡◌ {A = ℕ} 0 1 = cc in absurd (omega arith)

module _ (f s : List ℕ) (room : ℕ) {r : Checked} (e : check_says r ≡ pass_answer f s room) where
  passes_none : r ≡ pass → check_refused f s room ≡ 0
  unfolding acceptance_says pass_answer
  passes_none q = go (eqb (check_refused f s room) 0) refl (ap check_says (sym q) ∙ e)
    where
      go : (b : Bool) → eqb (check_refused f s room) 0 ≡ b → says 0 [] ≡ choose b (λ u. says 0 []) (λ u. refuses (check_refused f s room)) → check_refused f s room ≡ 0
      go true p h = eqb-true (check_refused f s room) 0 p
      go false p h = let z : ◌≡◌ {A = ℕ} 0 1 = cc in absurd (omega arith)

  none_passes : check_refused f s room ≡ 0 → r ≡ pass
  unfolding pass_answer
  none_passes z = only-passes r (e ∙ rw (eq-eqb (check_refused f s room) 0 z))

  pub passes-right : r ≡ pass → Right f s
  passes-right q = (passing f s).0 (unrefused f s room (passes_none q)).answer

  pub passes-enough : r ≡ pass → room_words f ≤ room
  passes-enough q = (unrefused f s room (passes_none q)).enough

  module _ (l : room_words f ≤ room) where
    pub right-passes : Right f s → r ≡ pass
    right-passes x = none_passes (none-refused f s room x.accepted (record { enough = l; answer = (passing f s).1 x }))

    -- demand 3: the check passes exactly the right sheets
    pub exactly-right : (r ≡ pass) ↔ Right f s
    exactly-right = (passes-right, right-passes)

    -- and what the definition says a writer gives
    pub written-passes : verdict f ≡ 0 → (w : List ℕ) → ranks_of f ≡ ranked w → s ≡ sheet_words f → r ≡ pass
    written-passes a w q i = none_passes (none-refused f s room a (record { enough = l; answer = rw i (writer-passes f a w q) }))

-- ---- the same of the function itself: what its callers learn of a file, a sheet and a room that they lend, and of its answer
abbrev pub Lent : Type 0
Lent = Bor (List ℕ) × (Bor (List ℕ) × (MutBor (List ℕ) × Unit {0}))

module _ (κs : Lfts 3) (lent left : Lent) (r : Checked) (c : reads.Learnt κs lent r left) where
  pub check-sheet-sound : r ≡ pass → Right lent.0.now lent.1.0.now
  check-sheet-sound = passes-right lent.0.now lent.1.0.now (length lent.1.1.0.now) c.0

  pub check-sheet-right : room_words lent.0.now ≤ length lent.1.1.0.now → (r ≡ pass) ↔ Right lent.0.now lent.1.0.now
  check-sheet-right = exactly-right lent.0.now lent.1.0.now (length lent.1.1.0.now) c.0
