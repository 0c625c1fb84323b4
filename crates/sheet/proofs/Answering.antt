-- A law for each call and each return of check.rt. Assumes nothing.
use mathlib.Core.Path.{◌≡◌, refl, ap, sym, ◌∙◌}
use mathlib.Core.Bool.{Bool, true, false}
use mathlib.Core.List.{List, ◌++◌}
use Prim.Native.Nat.{ℕ, ◌+◌, ◌-◌, ◌≤◌, ◌<◌}
use native.Mathlib.Omega.{arith}
use lib.Dec.{eqb, leb}
use lib.ListN.{length}
use borrow.Author.Rules.{rules}
use borrow.Author.Tests.{not-true, not-false, ne_eqb, eq-eqb, eqb-true, eqb-false, leb-true, le-leb}
use borrow.Rule.Slice.PartMut.{put_mid}
use denote.Ref.{Bor}
use Rattle.std.specs.Prelude.{Some, Result, Ok, Err, MatchResult}
use Rattle.records.specs.declared.file.File.{File}
use Rattle.acceptance.specs.Admitted.{refusal_in, Admits}
use Rattle.definition.specs.Base.{choose}
use Rattle.definition.specs.declared.answers.Refusal.{Refusal}
use Rattle.definition.specs.declared.answers.Refusal.TheVariants as refusal
use Rattle.definition.specs.Layout.{count, shapes, types}
use Rattle.definition.specs.Accept.{need, verdict}
use Rattle.definition.specs.Answers.{number_of, acceptance_says, room_words, check_says, pass_code, check_refused, pass_answer}
use Rattle.definition.specs.Sheet.{check_answer}
use Rattle.laws.specs.Accepted.{accepted}
use Rattle.laws.specs.Depths.{few-shapes}
use Rattle.shapes.specs.Classes.{classes_of}
use Rattle.acceptance.proofs.Wanting.{at-least-one, file-passes}
use Rattle.build.specs.Built.{index_at, index_in}
use Rattle.driver.specs.Driver.{Given}
use Rattle.driver.specs.Tables.{Front}
use Rattle.driver.proofs.Tabling.{tables-given, index-long, back-front, back_index}
use Rattle.driver.proofs.Settling.{given-kept}
use Rattle.lines.proofs.Memories.{cleared-same}
use Rattle.sheet_lines.specs.declared.find.Lines.{Lines}
use Rattle.sheet_lines.specs.Found.{found_of}
use Rattle.sheet_lines.specs.Judged.{types_right, variables_right, judged}
use Rattle.sheet_lines.specs.Tests.{Comparable, Tests}
use Rattle.sheet_lines.proofs.Judging.{check-lines, check-passes}
use Rattle.sheet.specs.Checks.{Checks, room_refused}
use Rattle.sheet.proofs.Telling.{checks-kept}

-- ---- `test_known`
module _ (f known : List ℕ) (h : index_at + count f types ≤ length known) where
  pub known-index : index_at ≤ length known
  known-index = omega arith

  pub known-types : count f types ≤ length (index_in known)
  known-types = omega (arith, index-long known)

-- what is said of the index that was lent is said of the one that was put back
pub tests-back : {f s : List ℕ} {r : Result Lines Refusal} (known : List ℕ) → index_at ≤ length known → (part : List ℕ) → length part ≡ length (index_in known) → Tests f s r part
    → Tests f s r (index_in (put_mid index_at (length known - index_at) known part))
tests-back {f} {s} {r} known h part l x = rw (back_index known h part l) x

pub ruleset lending = (rules, known-index, known-types, back-front, tests-back)

-- ---- `compared`
-- an answer by the number that the definition gives
passes-by : {n : ℕ} {u : Unit {0}} → n ≡ 0 → pass_code (check_says (Ok u)) ≡ n
unfolding pass_code acceptance_says
passes-by e = sym e

refuses-by : {n : ℕ} (r : Refusal) → n ≡ number_of r → pass_code (check_says (Err r)) ≡ n
unfolding pass_code acceptance_says
refuses-by r e = sym e

module _ {f s : List ℕ} {l : Lines} {index : List ℕ} (x : Comparable f s l index) where
  pub comparable-found : found_of f s ≡ Some l
  comparable-found = x.found

  module _ {known : List ℕ} {room : ℕ} (z : Checks f known s room) {b : Bool} (p : b ≡ types_right f s) where
    types-judged : b ≡ false → judged f s l.variables l.completed ≡ false
    unfolding judged
    types-judged q = rw (x.small, sym p ∙ q)

    pub types-refused : b ≡ false → pass_code (check_says (Err refusal.Lines)) ≡ check_answer f s
    unfolding number_of
    types-refused q = refuses-by refusal.Lines (check-lines f s z.accepted x.found x.rises (types-judged q))

    module _ (q : b ≡ true) {d : Bool} (r : d ≡ variables_right f s l.variables l.completed) where
      all-judged : judged f s l.variables l.completed ≡ d
      unfolding judged
      all-judged = rw (x.small, sym p ∙ q) (sym r)

      pub variables-refused : d ≡ false → pass_code (check_says (Err refusal.Lines)) ≡ check_answer f s
      unfolding number_of
      variables-refused t = refuses-by refusal.Lines (check-lines f s z.accepted x.found x.rises (all-judged ∙ t))

      pub lines-pass : d ≡ true → {u : Unit {0}} → pass_code (check_says (Ok u)) ≡ check_answer f s
      lines-pass t = passes-by (check-passes f s z.accepted x.found x.rises (all-judged ∙ t))

pub ruleset comparing = (rules, not-true, not-false, checks-kept, comparable-found, types-refused, variables-refused, lines-pass)

-- ---- `sheet_answer`
module _ {f known : List ℕ} {room : ℕ} (g : Given f known room) where
  pub given-tables : index_at + count f types ≤ length known
  given-tables = g.tables

module _ {f s : List ℕ} {r : Result Lines Refusal} {index : List ℕ} (x : Tests f s r index) where
  pub tested-answers : {n : Refusal} → r ≡ Err n → pass_code (check_says (Err n)) ≡ check_answer f s
  tested-answers {n} q = refuses-by n (rw q at x.says)

  pub tested-comparable : {l : Lines} → r ≡ Ok l → Comparable f s l index
  tested-comparable q = rw q at x.says

pub tested-checks : {f known : List ℕ} {room : ℕ} → Given f known room → verdict f ≡ 0 → {new : List ℕ} → Front known new
    → {s : List ℕ} {r : Result Lines Refusal} → Tests f s r (index_in new) → {l : Lines} → r ≡ Ok l → (more : ℕ) → more ≡ room → Checks f new s more
tested-checks g e p x {l} q more k = record { given = given-kept g p more k; accepted = e; lines = l; comparable = tested-comparable x q }

pub ruleset answering = (rules, given-tables, tested-checks, tested-answers, tested-comparable)

-- ---- `accepted_answer`
module _ (f : List ℕ) (e : verdict f ≡ 0) where
  pub shapes-in : {n : ℕ} → n ≡ 2048 → count f shapes ≤ n
  shapes-in k = omega (arith, few-shapes f (accepted f e))

  pub accepted-given : (words : List ℕ) {known : List ℕ} → known ≡ classes_of f ++ words → length known ≡ 2048 → {room : ℕ} → room_words f ≤ room → Given f known room
  accepted-given words c l h = tables-given (accepted f e) h words c l

pub ruleset accepting = (rules, shapes-in, accepted-given)

-- ---- `words_answer`
module _ (f s : List ℕ) (room : ℕ) where
  said-passes : check_refused f s room ≡ 0 → {u : Unit {0}} → check_says (Ok u) ≡ pass_answer f s room
  unfolding acceptance_says pass_answer
  said-passes e = rw (eq-eqb (check_refused f s room) 0 e)

  said-refuses : (r : Refusal) → number_of r ≡ check_refused f s room → check_says (Err r) ≡ pass_answer f s room
  unfolding acceptance_says pass_answer
  said-refuses r e = rw (ne_eqb (check_refused f s room) 0 (λ z. absurd (omega (arith, at-least-one r))), e)

  said : (r : Result (Unit {0}) Refusal) → pass_code (check_says r) ≡ check_refused f s room → check_says r ≡ pass_answer f s room
  unfolding pass_code acceptance_says
  said (Ok u) e = said-passes (sym e)
  said (Err r) e = said-refuses r e

  -- a refusal that comes before the sheet is read
  refused-before : (r : Refusal) → number_of r ≡ room_refused f room → number_of r ≡ check_refused f s room
  unfolding check_refused
  refused-before r h = go (eqb (verdict f) 0) (leb (room_words f) room) h
    where
      go : (b c : Bool) → number_of r ≡ choose b (λ u. need c 10 λ v. 0) (λ u. verdict f) → number_of r ≡ choose b (λ u. need c 10 λ v. check_answer f s) (λ u. verdict f)
      go true true h = absurd (omega (arith, h, at-least-one r))
      go true false h = h
      go false c h = h

  pub refused-first : (r : Refusal) → number_of r ≡ room_refused f room → {w : Result (Unit {0}) Refusal} → w ≡ Err r → check_says w ≡ pass_answer f s room
  refused-first r e q = rw q (said-refuses r (refused-before r e))

  module _ (z : room_refused f room ≡ 0) where
    before-passes : (verdict f ≡ 0) × (room_words f ≤ room)
    before-passes = go (eqb (verdict f) 0) (leb (room_words f) room) refl refl z
      where
        go : (b c : Bool) → eqb (verdict f) 0 ≡ b → leb (room_words f) room ≡ c → choose b (λ u. need c 10 λ v. 0) (λ u. verdict f) ≡ 0 → (verdict f ≡ 0) × (room_words f ≤ room)
        go true true p q h = (eqb-true (verdict f) 0 p, leb-true (room_words f) room q)
        go true false p q h = absurd (omega (arith, h))
        go false c p q h = absurd (eqb-false (verdict f) 0 p h)

    answer-is : check_refused f s room ≡ check_answer f s
    unfolding check_refused
    answer-is =
        file-passes f (λ u. need (leb (room_words f) room) 10 λ v. check_answer f s) before-passes.0
        ∙ ap (λ (b : Bool). need b 10 (λ v. check_answer f s)) (le-leb (room_words f) room before-passes.1)

    module _ {g : List ℕ} (q : g ≡ f) where
      pub admitted-ready : (verdict g ≡ 0) × (room_words g ≤ room)
      admitted-ready = rw q before-passes

      pub answer-said : (r : Result (Unit {0}) Refusal) → pass_code (check_says r) ≡ check_answer g s → check_says r ≡ pass_answer f s room
      answer-said r p = said r (p ∙ ap (λ (l : List ℕ). check_answer l s) q ∙ sym answer-is)

-- ---- `admitted`
pub admitted-by : (f : List ℕ) (room : ℕ) {answers : Bor File → Result (Unit {0}) Refusal → Type 0} {r : Result File Refusal} → Admits answers f r
    → ((file : Bor File) (a : Result (Unit {0}) Refusal) → answers file a → refusal_in a ≡ need (leb (room_words file.now.source) room) 10 (λ u. 0))
    → MatchResult r (λ file. (file.source ≡ f) × (room_refused f room ≡ 0)) (λ refusal. number_of refusal ≡ room_refused f room)
admitted-by f room x h =
    x.is (λ u. need (leb (room_words f) room) 10 (λ u. 0)) (λ file a q p. h file a p ∙ ap (λ (l : List ℕ). need (leb (room_words l) room) 10 (λ u. 0)) q)

pub ruleset checks = (rules, refused-first, admitted-ready, answer-said, cleared-same)
