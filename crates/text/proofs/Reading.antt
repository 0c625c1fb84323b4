-- The words of a sheet, with anything behind them, are read as the sheet's lines. Assumes nothing.
use mathlib.Core.Path.{◌≡◌, refl, ap, sym}
use mathlib.Core.List.{List, [], ◌∷◌, ◌++◌, append_assoc, append-nil}
use Prim.Native.Nat.{ℕ, zero, suc, ◌+◌, ◌*◌}
use native.Mathlib.Omega.{arith}
use lib.ListN.{length, get_or, drop, replicate, length-append, length-drop, get_or-append}
use lib.Seq.{take-append-le, drop-append-le, drop-append_seam}
use Rattle.definition.specs.Layout.{count, types, variables}
use Rattle.definition.specs.Ask.{ok, none, large, Outcome}
use Rattle.definition.specs.Starting.{type_outcome, variable_outcome}
use Rattle.definition.specs.Complete.{Completed, completed, left, completion}
use Rattle.definition.specs.Lines.{outcome_words, completed_words, type_line, variable_line, completed_line}
use Rattle.definition.specs.Sheet.{lines_from, sheet_with}
use Rattle.definition.specs.Program.{node_lines, record_lines, records_from, section_lines, lines_with}
use Rattle.laws.specs.Whole.{flatten-length}
use Rattle.text.specs.Forms.{Form, lines_in, long_in, series, record_form, section_form, sheet_form}

pub record Reads (p : Form) (words : List ℕ) (ls : List (List ℕ)) : Type 0 where
  pub lines : (rest : List ℕ) → p.lines (words ++ rest) ≡ ls
  pub long : (rest : List ℕ) → p.long (words ++ rest) ≡ length words

-- ---- one behind the other
none_reads : Reads (series []) [] []
unfolding lines_in long_in
none_reads = record { lines = λ rest. refl; long = λ rest. refl }

module _ (p : Form) (ps : List Form) {a b : List ℕ} {ls ms : List (List ℕ)} (x : Reads p a ls) (y : Reads (series ps) b ms) where
  past : (rest : List ℕ) → drop (p.long (a ++ (b ++ rest))) (a ++ (b ++ rest)) ≡ b ++ rest
  past rest = rw (x.long (b ++ rest)) (drop-append_seam a (b ++ rest))

  series-reads : Reads (series (p ∷ ps)) (a ++ b) (ls ++ ms)
  unfolding lines_in long_in
  series-reads =
      record {
        lines = λ rest. rw (append_assoc a b rest, past rest, x.lines (b ++ rest), y.lines rest);
        long = λ rest. rw (append_assoc a b rest, past rest, x.long (b ++ rest), y.long rest) (sym (length-append a b));
      }

three-read : (p q r : Form) {a b c : List ℕ} {ls ms ns : List (List ℕ)} → Reads p a ls → Reads q b ms → Reads r c ns → Reads (series (p ∷ q ∷ r ∷ [])) (a ++ b ++ c) (ls ++ ms ++ ns)
three-read p q r {a} {b} {c} {ls} {ms} {ns} x y z =
    let last : Reads (series (r ∷ [])) c ns = rw (append-nil c, append-nil ns) at (series-reads r [] z none_reads) in
    rw (append_assoc a b c, append_assoc ls ms ns) (series-reads p (q ∷ r ∷ []) x (series-reads q (r ∷ []) y last))

module _ (p : Form) (line : ℕ → List ℕ) (lines : ℕ → List (List ℕ)) (x : (i : ℕ) → Reads p (line i) (lines i)) where
  repeat-reads : (i k : ℕ) → Reads (series (replicate k p)) (lines_from line i k) (records_from lines i k)
  unfolding lines_from records_from
  repeat-reads i zero = none_reads
  repeat-reads i (suc k) = series-reads p (replicate k p) (x i) (repeat-reads (suc i) k)

-- ---- a record whose count is that of its nodes
nodes-read : (k : ℕ) (words rest : List ℕ) → length words ≡ k * 6 → node_lines k (words ++ rest) ≡ node_lines k words
unfolding node_lines
nodes-read zero words rest e = refl
nodes-read (suc k) words rest e =
    rw (take-append-le 6 words rest (omega arith), drop-append-le 6 words rest (omega arith), nodes-read k (drop 6 words) rest (rw length-drop (omega arith)))

record-reads : (place : ℕ) (words : List ℕ) → length words ≡ suc place + get_or words place 0 * 6 → Reads (record_form place) words (record_lines place words)
unfolding record_lines
record-reads place words e =
    let g : (rest : List ℕ) → get_or (words ++ rest) place 0 ≡ get_or words place 0 = λ rest. get_or-append words rest 0 place (omega arith) in
    record {
      lines = λ rest. rw (g rest, take-append-le (suc place) words rest (omega arith), drop-append-le (suc place) words rest (omega arith), nodes-read (get_or words place 0) (drop (suc place) words) rest (rw length-drop (omega arith)));
      long = λ rest. rw (g rest) (sym e);
    }

type_reads : (rank : ℕ) (o : Outcome) → Reads (record_form 2) (rank ∷ outcome_words o) (record_lines 2 (rank ∷ outcome_words o))
unfolding outcome_words
type_reads rank (ok t) = record-reads 2 (rank ∷ outcome_words (ok t)) (omega (arith, flatten-length t))
type_reads rank none = record-reads 2 (rank ∷ outcome_words none) refl
type_reads rank large = record-reads 2 (rank ∷ outcome_words large) refl

variable-reads : (o : Outcome) → Reads (record_form 1) (outcome_words o) (record_lines 1 (outcome_words o))
unfolding outcome_words
variable-reads (ok t) = record-reads 1 (outcome_words (ok t)) (omega (arith, flatten-length t))
variable-reads none = record-reads 1 (outcome_words none) refl
variable-reads large = record-reads 1 (outcome_words large) refl

completed-reads : (c : Completed) → Reads (record_form 2) (completed_words c) (record_lines 2 (completed_words c))
unfolding completed_words
completed-reads (completed i t) = record-reads 2 (completed_words (completed i t)) (omega (arith, flatten-length t))
completed-reads left = record-reads 2 (completed_words left) refl

-- ---- sections, and the sheet
section-reads : (place : ℕ) (line : ℕ → List ℕ) (lines : ℕ → List (List ℕ)) → ((i : ℕ) → Reads (record_form place) (line i) (lines i)) → (n : ℕ)
    → Reads (section_form place) (n ∷ lines_from line 0 n) (section_lines lines n)
unfolding section_lines lines_in long_in
section-reads place line lines x n =
    let y = repeat-reads (record_form place) line lines x 0 n in
    record { lines = λ rest. rw (y.lines rest) (ap (λ (l : List (List ℕ)). (n ∷ []) ∷ l) (append-nil (records_from lines 0 n))); long = λ rest. rw (y.long rest) (omega arith) }

module _ (f : List ℕ) (rank : ℕ → ℕ) where
  pub sheet-reads : Reads sheet_form (sheet_with f rank) (lines_with f rank)
  unfolding sheet_with lines_with type_line variable_line completed_line
  sheet-reads =
      three-read (section_form 2) (section_form 1) (section_form 2)
      (section-reads 2 (λ t. rank t ∷ type_line f t) (λ t. record_lines 2 (rank t ∷ type_line f t)) (λ t. type_reads (rank t) (type_outcome f t)) (count f types))
      (section-reads 1 (variable_line f) (λ v. record_lines 1 (variable_line f v)) (λ v. variable-reads (variable_outcome f v)) (count f variables))
      (section-reads 2 (completed_line f) (λ v. record_lines 2 (completed_line f v)) (λ v. completed-reads (completion f v (variable_outcome f v))) (count f variables))
