-- The lines that the sheet program prints hold the sheet's words, in their order (`lines-words`, `sheet-words`); a number in decimal from its last digit
-- (`decimal-is`); and what is printed for each answer of the writer (`prints-sheet`, `prints-refusal`, `prints-10`). Assumes nothing.
use Rattle.std.proofs.Math.Path.{◌≡◌, refl}
use Rattle.std.proofs.Common.{sym, ◌∙◌, arith, take-append-drop, length-drop, ltb-false, lt-ltb}
use Rattle.std.specs.Prelude.{Bool, eqb, ltb, length, get_or, drop}
use Rattle.std.proofs.Math.Bool.{true, false}
use mathlib.Core.List.{List, [], ◌∷◌, ◌++◌, append_assoc, flatten as words}
use Prim.Native.Nat.{ℕ, zero, suc, ◌*◌, ◌/◌, ◌%◌, ◌≤◌, ◌<◌}
use Rattle.std.proofs.Math.Nat.{div-lt_self}
use Rattle.definition.specs.Base.{pick, choose}
use Rattle.definition.specs.Layout.{count, types, variables}
use Rattle.definition.specs.Ask.{ok, none, large, Outcome}
use Rattle.definition.specs.Starting.{type_outcome, variable_outcome}
use Rattle.definition.specs.Complete.{Completed, completed, left, completion}
use Rattle.definition.specs.Lines.{outcome_words, completed_words, type_line, variable_line, completed_line}
use Rattle.definition.specs.Uses.{Ranking, ranked, circle, ranks_of, rank_at}
use Rattle.definition.specs.Sheet.{lines_from, sheet_with, on_ranking, sheet_words}
use Rattle.definition.specs.Answers.{refuses, says, write_refused, ranked_answer, write_answer}
use Rattle.definition.specs.Program.{node_lines, record_lines, records_from, section_lines, lines_with, sheet_lines, digit, decimal_up_to, decimal, lines_text, most_sheet_words, long_text, refused_text, answer_text, file_text}
use Rattle.laws.specs.Whole.{flatten-length}

-- ---- a record's lines hold its words
words_append : (a b : List (List ℕ)) → words (a ++ b) ≡ words a ++ words b
unfolding words
words_append [] b = refl
words_append (l ∷ a) b = rw (words_append a b) (sym (append_assoc l (words a) (words b)))

-- so many nodes of six words
node-words : (k : ℕ) (w : List ℕ) → length w ≡ 6 * k → words (node_lines k w) ≡ w
unfolding words node_lines
node-words zero [] e = refl
node-words zero (x ∷ w) e = absurd (omega arith)
node-words (suc k) w e = rw (node-words k (drop 6 w) (rw length-drop (omega arith))) (take-append-drop 6 w)

-- a head of so many words and one, whose last is the count of nodes behind it
record-words : (place : ℕ) (w : List ℕ) → length (drop (suc place) w) ≡ 6 * get_or w place 0 → words (record_lines place w) ≡ w
unfolding words record_lines
record-words place w e = rw (node-words (get_or w place 0) (drop (suc place) w) e) (take-append-drop (suc place) w)

type-words : (rank : ℕ) (o : Outcome) → words (record_lines 2 (rank ∷ outcome_words o)) ≡ rank ∷ outcome_words o
unfolding outcome_words
type-words rank (ok t) = record-words 2 (rank ∷ outcome_words (ok t)) (flatten-length t)
type-words rank none = record-words 2 (rank ∷ outcome_words none) refl
type-words rank large = record-words 2 (rank ∷ outcome_words large) refl

variable-words : (o : Outcome) → words (record_lines 1 (outcome_words o)) ≡ outcome_words o
unfolding outcome_words
variable-words (ok t) = record-words 1 (outcome_words (ok t)) (flatten-length t)
variable-words none = record-words 1 (outcome_words none) refl
variable-words large = record-words 1 (outcome_words large) refl

completed-words : (c : Completed) → words (record_lines 2 (completed_words c)) ≡ completed_words c
unfolding completed_words
completed-words (completed i t) = record-words 2 (completed_words (completed i t)) (flatten-length t)
completed-words left = record-words 2 (completed_words left) refl

-- ---- so do a section's, and the sheet's
module _ (lines : ℕ → List (List ℕ)) (line : ℕ → List ℕ) (same : (i : ℕ) → words (lines i) ≡ line i) where
  records-words : (i k : ℕ) → words (records_from lines i k) ≡ lines_from line i k
  unfolding words records_from lines_from
  records-words i zero = refl
  records-words i (suc k) = words_append (lines i) (records_from lines (suc i) k) ∙ rw (same i, records-words (suc i) k)

  section-words : (n : ℕ) → words (section_lines lines n) ≡ n ∷ lines_from line 0 n
  unfolding words section_lines
  section-words n = rw (records-words 0 n)

module _ (f : List ℕ) where
  pub lines-words : (rank : ℕ → ℕ) → words (lines_with f rank) ≡ sheet_with f rank
  unfolding lines_with sheet_with type_line variable_line completed_line
  lines-words rank =
      let a = section-words (λ t. record_lines 2 (rank t ∷ type_line f t)) (λ t. rank t ∷ type_line f t) (λ t. type-words (rank t) (type_outcome f t)) (count f types) in
      let b = section-words (λ v. record_lines 1 (variable_line f v)) (variable_line f) (λ v. variable-words (variable_outcome f v)) (count f variables) in
      let c = section-words (λ v. record_lines 2 (completed_line f v)) (completed_line f) (λ v. completed-words (completion f v (variable_outcome f v))) (count f variables) in
      rw (words_append, words_append, a, b, c)

  pub sheet-words : words (sheet_lines f) ≡ sheet_words f
  unfolding sheet_lines sheet_words words
  sheet-words = go (ranks_of f)
    where
      go : (r : Ranking) → words (on_ranking r (λ w. lines_with f (rank_at w)) []) ≡ on_ranking r (λ w. sheet_with f (rank_at w)) []
      go (ranked w) = lines-words (rank_at w)
      go circle = refl

-- ---- decimal
-- a quotient is less than a number of two digits or more
quotient-falls : (n : ℕ) → ltb n 10 ≡ false → n / 10 < n
quotient-falls n e = let large : 10 ≤ n = ltb-false n 10 e in div-lt_self (omega arith) (omega arith)

-- one digit; or the digits of the quotient, within a bound, and the last
abbrev from : ℕ → ℕ → Bool → List ℕ
from n j b = choose b (λ u. digit n ∷ []) (λ u. decimal_up_to j (n / 10) ++ (digit (n % 10) ∷ []))

-- any bound from the number itself on gives the same digits
bounds-alike : (k m n : ℕ) → n ≤ k → n ≤ m → decimal_up_to k n ≡ decimal_up_to m n
unfolding decimal_up_to
bounds-alike zero zero n p q = refl
bounds-alike zero (suc m) n p q = rw (lt-ltb n 10 (omega arith))
bounds-alike (suc k) zero n p q = rw (lt-ltb n 10 (omega arith))
bounds-alike (suc k) (suc m) n p q = go (ltb n 10) refl (bounds-alike k m (n / 10))
  where
    go : (b : Bool) → ltb n 10 ≡ b → (n / 10 ≤ k → n / 10 ≤ m → decimal_up_to k (n / 10) ≡ decimal_up_to m (n / 10)) → from n k b ≡ from n m b
    go true e below = refl
    go false e below = let falls : n / 10 < n = quotient-falls n e in rw (below (omega arith) (omega arith))

pub decimal-is : (n : ℕ) → decimal n ≡ choose (ltb n 10) (λ u. digit n ∷ []) (λ u. decimal (n / 10) ++ (digit (n % 10) ∷ []))
unfolding decimal decimal_up_to
decimal-is n = bounds-alike n (suc n) n (omega arith) (omega arith) ∙ go (ltb n 10) refl
  where
    go : (b : Bool) → ltb n 10 ≡ b → from n n b ≡ from n (n / 10) b
    go true e = refl
    go false e = let falls : n / 10 < n = quotient-falls n e in rw (bounds-alike n (n / 10) (n / 10) (omega arith) (omega arith))

-- ---- what is printed for the writer's answer
module _ (f : List ℕ) (lines room : ℕ) where
  -- behind refusals 1 to 6 and 10 for too few work words, or before
  after : {A : Type 0} → Bool → A → (ℕ → A) → A
  after b value refused = choose b (λ u. value) (λ u. refused (write_refused f most_sheet_words lines room))

  pub prints-sheet : (state : ℕ) (values : List ℕ) → write_answer f most_sheet_words lines room ≡ says state values → file_text lines room f ≡ lines_text (sheet_lines f)
  unfolding write_answer file_text answer_text after
  prints-sheet state values = go (eqb (write_refused f most_sheet_words lines room) 0)
    where
      go : (b : Bool) → after b (ranked_answer f most_sheet_words) refuses ≡ says state values → after b (answer_text f (ranked_answer f most_sheet_words)) refused_text ≡ lines_text (sheet_lines f)
      go true e = rw e
      go false e = let z : ◌≡◌ {A = ℕ} 0 1 = cc in absurd (omega arith)

  pub prints-refusal : (n : ℕ) → write_answer f most_sheet_words lines room ≡ refuses n → eqb n 10 ≡ false → file_text lines room f ≡ refused_text n
  unfolding write_answer file_text answer_text after
  prints-refusal n e other = go (eqb (write_refused f most_sheet_words lines room) 0) e
    where
      go : (b : Bool) → after b (ranked_answer f most_sheet_words) refuses ≡ refuses n → after b (answer_text f (ranked_answer f most_sheet_words)) refused_text ≡ refused_text n
      go true q = rw (q, other)
      go false q = cc

  -- 10 itself for too few work words, `long` for a sheet above 8,192 words
  pub prints-10 : write_answer f most_sheet_words lines room ≡ refuses 10 → file_text lines room f ≡ pick (eqb (write_refused f most_sheet_words lines room) 0) long_text (refused_text 10)
  unfolding write_answer file_text answer_text after
  prints-10 = go (eqb (write_refused f most_sheet_words lines room) 0)
    where
      go : (b : Bool) → after b (ranked_answer f most_sheet_words) refuses ≡ refuses 10 → after b (answer_text f (ranked_answer f most_sheet_words)) refused_text ≡ pick b long_text (refused_text 10)
      go true q = rw q
      go false q = cc
