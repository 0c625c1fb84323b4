-- Demand 3 for the code that is linked: what follows from the contracts of `write_sheet` and `check_sheet`, whose own clauses are the premises.
-- The check passes exactly the right sheets (`checked`); a written sheet is right, has the lowest ranks, and passes (`written`, `passes`); refusal 9 stands
-- exactly where uses run in a circle (`circle-only`, `circle-refused`). Assumes nothing.
use mathlib.Core.Path.{◌≡◌, refl, ap, sym, ◌∙◌}
use mathlib.Core.Bool.{Bool, true, false}
use mathlib.Core.Logic.{◌↔◌}
use mathlib.Core.List.{List, [], ◌∷◌}
use Prim.Native.Nat.{ℕ, ◌≤◌}
use native.Mathlib.Omega.{arith}
use lib.Dec.{eqb, leb}
use lib.ListN.{length, take, drop}
use lib.Seq.{take-append_seam}
use borrow.Author.Tests.{eqb-true, eqb-false, eq-eqb}
use Rattle.std.specs.Prelude.{Result, Ok, Err}
use Rattle.definition.specs.declared.answers.Refusal.{Refusal}
use Rattle.definition.specs.declared.answers.Refusal.TheVariants as refusal
use Rattle.definition.specs.Base.{pick, choose}
use Rattle.definition.specs.Layout.{count, types}
use Rattle.definition.specs.Accept.{need, verdict, ends_right, counts_right, words_right, points_right, shapes_differ, arrays_small}
use Rattle.definition.specs.Uses.{Ranking, ranked, circle, uses, ranks_of, rank_at}
use Rattle.definition.specs.Sheet.{on_ranking, sheet_with, sheet_words}
use Rattle.definition.specs.Answers.{refuses, says, number_of, over, room_words, words_say, sheet_says, check_says, enough_sheet, write_refused, written_answer, ranked_answer, ranked_out, write_answer, write_out, pass_answer}
use Rattle.laws.specs.Ranks.{Lowest}
use Rattle.laws.specs.Circles.{Circling}
use Rattle.laws.specs.Passing.{Right}
use Rattle.laws.specs.Demand.{passing, writer-lowest, writer-passes, writer-circle}
use Rattle.sheet.proofs.Demand.{Checked, pass, exactly-right, written-passes}

-- ---- the check
module _ (f s : List ℕ) (room : ℕ) {r : Checked} (e : check_says r ≡ pass_answer f s room) (l : room_words f ≤ room) where
  pub checked : (r ≡ pass) ↔ Right f s
  checked = exactly-right f s room e l

-- ---- the writer
-- a file's own refusals are 1 to 6
verdict-most : (f : List ℕ) → verdict f ≤ 6
unfolding verdict
verdict-most f = go (ends_right f) (counts_right f) (words_right f) (points_right f) (shapes_differ f) (arrays_small f)
  where
    go : (a b c d e g : Bool) → need a 1 (λ u1. need b 2 (λ u2. need c 3 (λ u3. need d 4 (λ u4. need e 5 (λ u5. need g 6 (λ u6. 0)))))) ≤ 6
    go false b c d e g = omega arith
    go true false c d e g = omega arith
    go true true false d e g = omega arith
    go true true true false e g = omega arith
    go true true true true false g = omega arith
    go true true true true true false = omega arith
    go true true true true true true = omega arith

module _ (f : List ℕ) (out lines room : ℕ) where
  never-9 : write_refused f out lines room ≡ 9 → ⊥
  unfolding write_refused
  never-9 = go (eqb (verdict f) 0) (enough_sheet f out lines room)
    where
      go : (b c : Bool) → choose b (λ u. need c 10 λ v. 0) (λ u. verdict f) ≡ 9 → ⊥
      go true true h = omega (arith, h)
      go true false h = omega (arith, h)
      go false c h = omega (arith, h, verdict-most f)

  -- nothing is refused before the ranks are known
  begun : write_refused f out lines room ≡ 0 → verdict f ≡ 0
  unfolding write_refused
  begun = go (eqb (verdict f) 0) refl (enough_sheet f out lines room)
    where
      go : (b : Bool) → eqb (verdict f) 0 ≡ b → (c : Bool) → choose b (λ u. need c 10 λ v. 0) (λ u. verdict f) ≡ 0 → verdict f ≡ 0
      go true p c h = eqb-true (verdict f) 0 p
      go false p c h = absurd (eqb-false (verdict f) 0 p h)

  begins : verdict f ≡ 0 → enough_sheet f out lines room ≡ true → write_refused f out lines room ≡ 0
  unfolding write_refused
  begins a l = rw (eq-eqb (verdict f) 0 a, l)

-- a sheet was written: ranks were found, and it was short enough
record Wrote (f out : List ℕ) (lines room n : ℕ) : Type 0 where
  none : write_refused f (length out) lines room ≡ 0
  ranks : List ℕ
  found : ranks_of f ≡ ranked ranks
  fits : leb (length (sheet_with f (rank_at ranks))) (length out) ≡ true
  long : n ≡ length (sheet_with f (rank_at ranks))

module _ (f out : List ℕ) (lines room : ℕ) where
  wrote : (n : ℕ) → says 0 (n ∷ []) ≡ write_answer f (length out) lines room → Wrote f out lines room n
  unfolding write_answer ranked_answer written_answer
  wrote n = begin (eqb (write_refused f (length out) lines room) 0) refl
    where
      short : (w : List ℕ) → ranks_of f ≡ ranked w → write_refused f (length out) lines room ≡ 0 → (b : Bool) → leb (length (sheet_with f (rank_at w))) (length out) ≡ b
          → says 0 (n ∷ []) ≡ pick b (says 0 (length (sheet_with f (rank_at w)) ∷ [])) (refuses 10) → Wrote f out lines room n
      short w q z true p h = record { none = z; ranks = w; found = q; fits = p; long = cc }
      short w q z false p h = let z' : ◌≡◌ {A = ℕ} 0 1 = cc in absurd (omega arith)

      rank : (x : Ranking) → ranks_of f ≡ x → write_refused f (length out) lines room ≡ 0
          → says 0 (n ∷ []) ≡ on_ranking x (λ w. pick (leb (length (sheet_with f (rank_at w))) (length out)) (says 0 (length (sheet_with f (rank_at w)) ∷ [])) (refuses 10)) (refuses 9)
          → Wrote f out lines room n
      rank (ranked w) q z h = short w q z (leb (length (sheet_with f (rank_at w))) (length out)) refl h
      rank circle q z h = let z' : ◌≡◌ {A = ℕ} 0 1 = cc in absurd (omega arith)

      begin : (b : Bool) → eqb (write_refused f (length out) lines room) 0 ≡ b
          → says 0 (n ∷ []) ≡ choose b (λ u. on_ranking (ranks_of f) (λ w. pick (leb (length (sheet_with f (rank_at w))) (length out)) (says 0 (length (sheet_with f (rank_at w)) ∷ [])) (refuses 10)) (refuses 9)) (λ u. refuses (write_refused f (length out) lines room))
          → Wrote f out lines room n
      begin true p h = rank (ranks_of f) refl (eqb-true (write_refused f (length out) lines room) 0 p) h
      begin false p h = let z : ◌≡◌ {A = ℕ} 0 1 = cc in absurd (omega arith)

  wrote-out : {n : ℕ} (x : Wrote f out lines room n) → take n (write_out f out lines room) ≡ sheet_with f (rank_at x.ranks)
  unfolding write_out ranked_out over
  wrote-out x =
      rw (eq-eqb (write_refused f (length out) lines room) 0 x.none, x.found, x.fits, x.long)
      (take-append_seam (sheet_with f (rank_at x.ranks)) (drop (length (sheet_with f (rank_at x.ranks))) out))

  circle-answer : refuses 9 ≡ write_answer f (length out) lines room → ranks_of f ≡ circle
  unfolding write_answer ranked_answer written_answer
  circle-answer = begin (eqb (write_refused f (length out) lines room) 0) refl
    where
      rank : (x : Ranking) → ranks_of f ≡ x
          → refuses 9 ≡ on_ranking x (λ w. pick (leb (length (sheet_with f (rank_at w))) (length out)) (says 0 (length (sheet_with f (rank_at w)) ∷ [])) (refuses 10)) (refuses 9)
          → ranks_of f ≡ circle
      rank (ranked w) q h = go (leb (length (sheet_with f (rank_at w))) (length out)) h
        where
          go : (b : Bool) → refuses 9 ≡ pick b (says 0 (length (sheet_with f (rank_at w)) ∷ [])) (refuses 10) → ranks_of f ≡ circle
          go true h = let z : ◌≡◌ {A = ℕ} 0 1 = cc in absurd (omega arith)
          go false h = let z : ◌≡◌ {A = ℕ} 9 10 = cc in absurd (omega arith)
      rank circle q h = q

      begin : (b : Bool) → eqb (write_refused f (length out) lines room) 0 ≡ b
          → refuses 9 ≡ choose b (λ u. on_ranking (ranks_of f) (λ w. pick (leb (length (sheet_with f (rank_at w))) (length out)) (says 0 (length (sheet_with f (rank_at w)) ∷ [])) (refuses 10)) (refuses 9)) (λ u. refuses (write_refused f (length out) lines room))
          → ranks_of f ≡ circle
      begin true p h = rank (ranks_of f) refl h
      begin false p h = let z : write_refused f (length out) lines room ≡ 9 = cc in absurd (never-9 f (length out) lines room z)

  circle-begun : refuses 9 ≡ write_answer f (length out) lines room → verdict f ≡ 0
  unfolding write_answer
  circle-begun = begin (eqb (write_refused f (length out) lines room) 0) refl
    where
      begin : (b : Bool) → eqb (write_refused f (length out) lines room) 0 ≡ b
          → refuses 9 ≡ choose b (λ u. ranked_answer f (length out)) (λ u. refuses (write_refused f (length out) lines room)) → verdict f ≡ 0
      begin true p h = begun f (length out) lines room (eqb-true (write_refused f (length out) lines room) 0 p)
      begin false p h = let z : write_refused f (length out) lines room ≡ 9 = cc in absurd (never-9 f (length out) lines room z)

sheet-right : (f : List ℕ) → verdict f ≡ 0 → (w : List ℕ) → ranks_of f ≡ ranked w → Right f (sheet_words f)
sheet-right f a w q = (passing f (sheet_words f)).0 (writer-passes f a w q)

circle-is : (r : Refusal) → number_of r ≡ 9 → r ≡ refusal.Circle
unfolding number_of
circle-is refusal.Ends h = absurd (omega (arith, h))
circle-is refusal.Counts h = absurd (omega (arith, h))
circle-is refusal.Words h = absurd (omega (arith, h))
circle-is refusal.Points h = absurd (omega (arith, h))
circle-is refusal.Alike h = absurd (omega (arith, h))
circle-is refusal.Elements h = absurd (omega (arith, h))
circle-is refusal.Missing h = absurd (omega (arith, h))
circle-is refusal.Large h = absurd (omega (arith, h))
circle-is refusal.Circle h = refl
circle-is refusal.Short h = absurd (omega (arith, h))
circle-is refusal.Sections h = absurd (omega (arith, h))
circle-is refusal.Ranks h = absurd (omega (arith, h))
circle-is refusal.Lines h = absurd (omega (arith, h))
circle-is refusal.NotHeld h = absurd (omega (arith, h))
circle-is refusal.Wide h = absurd (omega (arith, h))

only-circle : (r : Result ℕ Refusal) → sheet_says r ≡ refuses 9 → r ≡ Err refusal.Circle
unfolding words_say
only-circle (Ok n) h = let z : ◌≡◌ {A = ℕ} 0 1 = cc in absurd (omega arith)
only-circle (Err r) h = let z : number_of r ≡ 9 = cc in ap (λ (e : Refusal). Err e) (circle-is r z)

-- ---- what a reader looks for
-- a sheet of n words that was written
pub record Sheet (f new : List ℕ) (n : ℕ) : Type 0 where
  pub accepted : verdict f ≡ 0
  pub ranks : List ℕ
  pub lowest : Lowest (count f types) (uses f) (rank_at ranks)
  pub words : take n new ≡ sheet_with f (rank_at ranks)
  pub right : Right f (take n new)

module _ (f out : List ℕ) (lines room : ℕ) {r : Result ℕ Refusal} (e : sheet_says r ≡ write_answer f (length out) lines room) where
  module _ {new : List ℕ} (i : new ≡ write_out f out lines room) (n : ℕ) (q : r ≡ Ok n) where
    said : says 0 (n ∷ []) ≡ write_answer f (length out) lines room
    unfolding words_say
    said = ap sheet_says (sym q) ∙ e

    is : take n new ≡ sheet_words f
    unfolding sheet_words
    is = let x : Wrote f out lines room n = wrote f out lines room n said in rw (i, x.found) (wrote-out f out lines room x)

    -- the check passes it, with the room that it asks for
    pub passes : (more : ℕ) → room_words f ≤ more → {a : Checked} → check_says a ≡ pass_answer f (take n new) more → a ≡ pass
    passes more l h =
        let x : Wrote f out lines room n = wrote f out lines room n said in
        written-passes f (take n new) more h l (begun f (length out) lines room x.none) x.ranks x.found is

    pub written : Sheet f new n
    written =
        let x : Wrote f out lines room n = wrote f out lines room n said in
        let a : verdict f ≡ 0 = begun f (length out) lines room x.none in
        record {
          accepted = a;
          ranks = x.ranks;
          lowest = writer-lowest f a x.ranks x.found;
          words = ap (λ (s : List ℕ). take n s) i ∙ wrote-out f out lines room x;
          right = rw is (sheet-right f a x.ranks x.found);
        }

  -- 9 stands where uses run in a circle, and only there
  pub circle-only : r ≡ Err refusal.Circle → Circling (count f types) (uses f)
  unfolding number_of words_say
  circle-only q =
      let h : refuses 9 ≡ write_answer f (length out) lines room = ap sheet_says (sym q) ∙ e in
      (writer-circle f (circle-begun f out lines room h)).0 (circle-answer f out lines room h)

  pub circle-refused : verdict f ≡ 0 → enough_sheet f (length out) lines room ≡ true → Circling (count f types) (uses f) → r ≡ Err refusal.Circle
  unfolding write_answer ranked_answer
  circle-refused a l c = only-circle r (e ∙ rw (eq-eqb (write_refused f (length out) lines room) 0 (begins f (length out) lines room a l), (writer-circle f a).1 c))
