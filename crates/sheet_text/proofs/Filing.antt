-- What is printed for each answer of the sheet writer. Assumes nothing.
use mathlib.Core.Path.{◌≡◌, refl, ap, sym, subst, ◌∙◌}
use mathlib.Core.Bool.{Bool, true, false}
use mathlib.Core.List.{List, [], ◌∷◌, ◌++◌}
use Prim.Native.Nat.{ℕ, ◌≤◌}
use native.Mathlib.Omega.{arith}
use lib.Dec.{eqb, leb}
use lib.ListN.{length, drop, length-append}
use borrow.Author.Rules.{rules}
use borrow.Author.Tests.{eq-eqb, ne_eqb, leb-true}
use Rattle.definition.specs.Base.{pick, choose}
use Rattle.definition.specs.declared.answers.Refusal.{Refusal}
use Rattle.definition.specs.declared.answers.Refusal.TheVariants as refusals
use Rattle.definition.specs.Uses.{Ranking, ranked, circle, ranks_of, rank_at}
use Rattle.definition.specs.Sheet.{sheet_with, on_ranking}
use Rattle.definition.specs.Answers.{refuses, says, number_of, over, sheet_says, words_say, write_refused, written_answer, ranked_answer, ranked_out, write_answer, write_out}
use Rattle.definition.specs.Program.{lines_with, sheet_lines, lines_text, most_sheet_words, long_text, refused_text, file_text}
use Rattle.std.specs.Prelude.{Result, Ok, Err}
use Rattle.laws.specs.Puts.{Puts}
use Rattle.laws.specs.Printing.{prints-sheet, prints-refusal, prints-10}
use Rattle.text.specs.Forms.{sheet_form}
use Rattle.text.specs.Printed.{SheetRoom}
use Rattle.text.proofs.Reading.{sheet-reads}
use Rattle.writer.proofs.Refusing.{admitted-none, admitted-not}
use Rattle.sheet_text.specs.Texts.{most_text, TextRoom, Refuses}

-- ---- a sheet that is written stands at the front of out
record Stands (f out : List ℕ) : Type 0 where
  pub ranks : List ℕ
  pub rest : List ℕ
  pub is : out ≡ sheet_with f (rank_at ranks) ++ rest
  pub few : length (sheet_with f (rank_at ranks)) ≤ most_sheet_words
  pub lines : sheet_lines f ≡ lines_with f (rank_at ranks)

module _ {f out : List ℕ} (s : Stands f out) where
  abbrev rank : ℕ → ℕ
  rank = rank_at s.ranks

  stands-room : {text : ℕ} → most_text ≤ text → SheetRoom out text
  stands-room h =
      let k : sheet_form.long out ≡ length (sheet_with f rank) = ap sheet_form.long s.is ∙ (sheet-reads f rank).long s.rest in
      record { inside = omega (arith, k, ap length s.is, length-append (sheet_with f rank) s.rest); room = omega (arith, k, s.few) }

  stands-lines : sheet_form.lines out ≡ sheet_lines f
  stands-lines = ap sheet_form.lines s.is ∙ (sheet-reads f rank).lines s.rest ∙ sym s.lines

module _ (f old : List ℕ) (long : length old ≡ most_sheet_words) (n : ℕ) where
  ranked-stands : (r : Ranking) → ranks_of f ≡ r → on_ranking r (λ w. written_answer (sheet_with f (rank_at w)) most_sheet_words) (refuses 9) ≡ says 0 (n ∷ [])
      → Stands f (on_ranking r (λ w. over (sheet_with f (rank_at w)) old) old)
  unfolding written_answer over sheet_lines
  ranked-stands circle g e = let z : ◌≡◌ {A = ℕ} 0 1 = cc in absurd (omega arith)
  ranked-stands (ranked w) g e = go (leb (length sheet) most_sheet_words) refl e
    where
      sheet : List ℕ
      sheet = sheet_with f (rank_at w)

      go : (b : Bool) → leb (length sheet) most_sheet_words ≡ b → pick b (says 0 (length sheet ∷ [])) (refuses 10) ≡ says 0 (n ∷ []) → Stands f (over sheet old)
      go true t e = record { ranks = w; rest = drop (length sheet) old; is = rw (long, t); few = leb-true (length sheet) most_sheet_words t; lines = rw g }
      go false t e = let z : ◌≡◌ {A = ℕ} 0 1 = cc in absurd (omega arith)

written_stands : (f old : List ℕ) → length old ≡ most_sheet_words → (lines room n : ℕ) → write_answer f most_sheet_words lines room ≡ says 0 (n ∷ []) → Stands f (write_out f old lines room)
unfolding write_answer write_out ranked_answer ranked_out
written_stands f old long lines room n e = rw long (go (eqb (write_refused f most_sheet_words lines room) 0) e)
  where
    go : (b : Bool) → choose b (λ u. ranked_answer f most_sheet_words) (λ u. refuses (write_refused f most_sheet_words lines room)) ≡ says 0 (n ∷ [])
        → Stands f (choose b (λ u. ranked_out f old) (λ u. old))
    go true e = ranked-stands f old long n (ranks_of f) refl e
    go false e = let z : ◌≡◌ {A = ℕ} 0 1 = cc in absurd (omega arith)

-- ---- the writer's answer
module _ (f old : List ℕ) (answer : Result ℕ Refusal) (lines room : ℕ) (e : sheet_says answer ≡ write_answer f (length old) lines room) {text : ℕ} (x : TextRoom text (length old)) where
  at_most : sheet_says answer ≡ write_answer f most_sheet_words lines room
  at_most = e ∙ ap (λ (n : ℕ). write_answer f n lines room) x.words

  module _ {out : List ℕ} (o : out ≡ write_out f old lines room) {n : ℕ} (i : answer ≡ Ok n) where
    answer-says : write_answer f most_sheet_words lines room ≡ says 0 (n ∷ [])
    unfolding words_say
    answer-says = sym at_most ∙ ap sheet_says i

    stands : Stands f out
    stands = rw o (written_stands f old x.words lines room n answer-says)

    pub sheet-room : SheetRoom out text
    sheet-room = stands-room stands x.bytes

    pub sheet-put : {t : List ℕ} {r : ℕ} {new : List ℕ} → Puts (lines_text (sheet_form.lines out)) t 0 r new → Puts (file_text lines room f) t 0 r new
    sheet-put {t} {r} {new} p = subst (λ (l : List ℕ). Puts l t 0 r new) (ap lines_text (stands-lines stands) ∙ sym (prints-sheet f lines room 0 (n ∷ []) answer-says)) p

  pub refuses-so : {r : Refusal} → answer ≡ Err r → Refuses f r lines room
  unfolding words_say
  refuses-so i = record { says = sym at_most ∙ ap sheet_says i }

-- ---- its refusals
short-is : (r : Refusal) → number_of r ≡ 10 → r ≡ refusals.Short
unfolding number_of
short-is refusals.Ends h = absurd (omega (arith, h))
short-is refusals.Counts h = absurd (omega (arith, h))
short-is refusals.Words h = absurd (omega (arith, h))
short-is refusals.Points h = absurd (omega (arith, h))
short-is refusals.Alike h = absurd (omega (arith, h))
short-is refusals.Elements h = absurd (omega (arith, h))
short-is refusals.Missing h = absurd (omega (arith, h))
short-is refusals.Large h = absurd (omega (arith, h))
short-is refusals.Circle h = absurd (omega (arith, h))
short-is refusals.Short h = refl
short-is refusals.Sections h = absurd (omega (arith, h))
short-is refusals.Ranks h = absurd (omega (arith, h))
short-is refusals.Lines h = absurd (omega (arith, h))
short-is refusals.NotHeld h = absurd (omega (arith, h))
short-is refusals.Wide h = absurd (omega (arith, h))

module _ {f : List ℕ} {refusal : Refusal} {lines room : ℕ} (x : Refuses f refusal lines room) where
  module _ (e : refusal ≡ refusals.Short) where
    ten-is : file_text lines room f ≡ pick (eqb (write_refused f most_sheet_words lines room) 0) long_text (refused_text 10)
    unfolding number_of
    ten-is = prints-10 f lines room (x.says ∙ ap (λ (s : Refusal). refuses (number_of s)) e)

    pub long-printed : write_refused f most_sheet_words lines room ≡ 0 → {t : List ℕ} {r : ℕ} {new : List ℕ} → Puts long_text t 0 r new → Puts (file_text lines room f) t 0 r new
    long-printed z {t} {r} {new} p = rw (ten-is, eq-eqb (write_refused f most_sheet_words lines room) 0 z) p

    pub ten-printed : (write_refused f most_sheet_words lines room ≡ 0 → ⊥) → {m : ℕ} → m ≡ number_of refusal → {t : List ℕ} {r : ℕ} {new : List ℕ} → Puts (refused_text m) t 0 r new → Puts (file_text lines room f) t 0 r new
    unfolding number_of
    ten-printed z {m} j {t} {r} {new} p = rw (ten-is, ne_eqb (write_refused f most_sheet_words lines room) 0 z) (subst (λ (k : ℕ). Puts (refused_text k) t 0 r new) (j ∙ ap number_of e) p)

  pub other-printed : (refusal ≡ refusals.Short → ⊥) → {m : ℕ} → m ≡ number_of refusal → {t : List ℕ} {r : ℕ} {new : List ℕ} → Puts (refused_text m) t 0 r new → Puts (file_text lines room f) t 0 r new
  other-printed z {m} j {t} {r} {new} p =
      rw (prints-refusal f lines room (number_of refusal) x.says (ne_eqb (number_of refusal) 10 (λ k. z (short-is refusal k)))) (subst (λ (k : ℕ). Puts (refused_text k) t 0 r new) j p)

pub ruleset files = (rules, sheet-room, sheet-put, refuses-so, admitted-none, admitted-not, long-printed, ten-printed, other-printed)
