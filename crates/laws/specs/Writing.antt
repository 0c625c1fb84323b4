-- A sheet of fixed words under ranks that rise is read again line by line, and passes. Assumes nothing.
use Rattle.std.specs.Prelude.{◌≡◌, leb, length, get_or, take, drop}
use Rattle.std.proofs.Math.Path.{refl}
use Rattle.std.proofs.Common.{ap, sym, ◌∙◌, arith, add-zero, length-append, take_at, drop_at, eq-eqb, le-leb}
use Rattle.std.proofs.Math.Bool.{true}
use mathlib.Core.List.{List, [], ◌∷◌, ◌++◌, append_assoc, append-nil}
use Prim.Native.Nat.{ℕ, zero, suc, ◌+◌, ◌*◌, ◌<◌, ◌≤◌}
use Rattle.std.proofs.Math.Nat.{zero-add}
use Rattle.definition.specs.Base.{every}
use Rattle.definition.specs.Layout.{count, types, variables}
use Rattle.definition.specs.Accept.{verdict}
use Rattle.definition.specs.Tree.{Tree, nodes, flatten}
use Rattle.definition.specs.Ask.{ok, none, large, Outcome}
use Rattle.definition.specs.Starting.{type_outcome, variable_outcome}
use Rattle.definition.specs.Complete.{Completed, completed, left, completion}
use Rattle.definition.specs.Lines.{outcome_words, completed_words, type_line, variable_line, completed_line}
use Rattle.definition.specs.Uses.{rising, uses}
use Rattle.definition.specs.Sheet.{lines_from, sheet_with, Cut, cut, tree_cut, empty_cut, type_cut, variable_cut, completed_cut, section, cut_lines, read_section, Sheet, read, read_sheet, sheet_rank, ranks_rise, same_words, lines_right, check_answer}
use Rattle.laws.specs.Asks.{OnOk}
use Rattle.laws.specs.Every.{each_two, true-every}
use Rattle.laws.specs.Ranks.{true-rising, rising-true}
use Rattle.laws.specs.Whole.{Good, flatten-length, tree-whole}
use Rattle.laws.specs.Values.{Small}
use Rattle.laws.specs.Accepted.{accepted}
use Rattle.laws.specs.Used.{uses-inside}
use Rattle.laws.specs.Completes.{OnCompleted, InPlaceOf, in-completion}
use Rattle.laws.specs.Sizes.{type-small, variable-small}

-- ---- a line is cut off where it ends
tree-cut : (front : List ℕ) (t : Tree) (m : List ℕ) → Good t → tree_cut front (nodes t) (flatten t ++ m) ≡ cut (front ++ flatten t) m
unfolding tree_cut
tree-cut front t m g =
    let long : length (flatten t) ≡ 6 * nodes t = flatten-length t in
    let first : take (6 * nodes t) (flatten t ++ m) ≡ flatten t = take_at (flatten t) m (6 * nodes t) long in
    let fits : 6 * nodes t ≤ length (flatten t ++ m) = rw length-append (omega (arith, long)) in
    let room : leb (6 * nodes t) (length (flatten t ++ m)) ≡ true = le-leb (6 * nodes t) (length (flatten t ++ m)) fits in
    rw (room, first, drop_at (flatten t) m (6 * nodes t) long, tree-whole t g)

pub type-cut : (rank : ℕ) (o : Outcome) (m : List ℕ) → OnOk Small o → type_cut ((rank ∷ outcome_words o) ++ m) ≡ cut (rank ∷ outcome_words o) m
unfolding type_cut outcome_words empty_cut
type-cut rank (ok t) m s = tree-cut (rank ∷ 0 ∷ nodes t ∷ []) t m s.good
type-cut rank none m s = refl
type-cut rank large m s = refl

pub variable-cut : (o : Outcome) (m : List ℕ) → OnOk Small o → variable_cut (outcome_words o ++ m) ≡ cut (outcome_words o) m
unfolding variable_cut outcome_words empty_cut
variable-cut (ok t) m s = tree-cut (0 ∷ nodes t ∷ []) t m s.good
variable-cut none m s = refl
variable-cut large m s = refl

pub completed-cut : (c : Completed) (m : List ℕ) → OnCompleted Good c → completed_cut (completed_words c ++ m) ≡ cut (completed_words c) m
unfolding completed_cut completed_words empty_cut
completed-cut (completed i t) m g = tree-cut (0 ∷ i ∷ nodes t ∷ []) t m g
completed-cut left m g = refl

-- ---- so are the lines of a section
unfoldable pub lines_of : (ℕ → List ℕ) → ℕ → ℕ → List (List ℕ)
lines_of g i zero = []
lines_of g i (suc k) = g i ∷ lines_of g (suc i) k

lines_at : (g : ℕ → List ℕ) (i k t : ℕ) → t < k → get_or (lines_of g i k) t [] ≡ g (i + t)
unfolding lines_of
lines_at g i zero t l = absurd (omega arith)
lines_at g i (suc k) zero l = ap g (sym (add-zero i))
lines_at g i (suc k) (suc t) l = let e : suc i + t ≡ i + suc t = omega arith in lines_at g (suc i) k t (omega arith) ∙ ap g e

module _ (line : List ℕ → Cut) (g : ℕ → List ℕ) (cuts : (t : ℕ) (m : List ℕ) → line (g t ++ m) ≡ cut (g t) m) where
  lines_cut : (i k : ℕ) (m : List ℕ) → cut_lines line k (lines_from g i k ++ m) ≡ section (lines_of g i k) m
  unfolding cut_lines lines_from lines_of
  lines_cut i zero m = refl
  lines_cut i (suc k) m = rw (append_assoc (g i) (lines_from g (suc i) k) m, cuts i (lines_from g (suc i) k ++ m), lines_cut (suc i) k m)

  section-cut : (n : ℕ) (m : List ℕ) → read_section line n ((n ∷ lines_from g 0 n) ++ m) ≡ section (lines_of g 0 n) m
  unfolding read_section
  section-cut n m = rw (eq-eqb n n refl) (lines_cut 0 n m)

  -- the last section
  section-end : (n : ℕ) → read_section line n (n ∷ lines_from g 0 n) ≡ section (lines_of g 0 n) []
  section-end n = ap (read_section line n) (sym (append-nil (n ∷ lines_from g 0 n))) ∙ section-cut n []

-- ---- the sheet
on-good : (t : Tree) (c : Completed) → OnCompleted (InPlaceOf t) c → OnCompleted Good c
on-good t (completed i u) p = p.good
on-good t left p = tt

good-completion : (f : List ℕ) (v : ℕ) (o : Outcome) → OnOk Small o → OnCompleted Good (completion f v o)
unfolding completion
good-completion f v (ok t) s = on-good t (completion f v (ok t)) (in-completion f v t s)
good-completion f v none s = tt
good-completion f v large s = tt

module _ (f : List ℕ) (rank : ℕ → ℕ) where
  unfoldable pub written : Sheet
  written = record {
    type_lines = lines_of (λ t. rank t ∷ type_line f t) 0 (count f types);
    variable_lines = lines_of (variable_line f) 0 (count f variables);
    completed_lines = lines_of (completed_line f) 0 (count f variables);
  }

  types-cut : (t : ℕ) (m : List ℕ) → type_cut ((rank t ∷ type_line f t) ++ m) ≡ cut (rank t ∷ type_line f t) m
  unfolding type_line
  types-cut t m = type-cut (rank t) (type_outcome f t) m (type-small f t)

  variables-cut : (v : ℕ) (m : List ℕ) → variable_cut (variable_line f v ++ m) ≡ cut (variable_line f v) m
  unfolding variable_line
  variables-cut v m = variable-cut (variable_outcome f v) m (variable-small f v)

  completed-cuts : (v : ℕ) (m : List ℕ) → completed_cut (completed_line f v ++ m) ≡ cut (completed_line f v) m
  unfolding completed_line
  completed-cuts v m = completed-cut (completion f v (variable_outcome f v)) m (good-completion f v (variable_outcome f v) (variable-small f v))

  pub written_read : read_sheet f (sheet_with f rank) ≡ read written
  unfolding read_sheet sheet_with written
  written_read =
      rw (
        append_assoc (count f types ∷ lines_from (λ t. rank t ∷ type_line f t) 0 (count f types)) (count f variables ∷ lines_from (variable_line f) 0 (count f variables)) (count f variables ∷ lines_from (completed_line f) 0 (count f variables)),
        section-cut type_cut (λ t. rank t ∷ type_line f t) types-cut (count f types) ((count f variables ∷ lines_from (variable_line f) 0 (count f variables)) ++ (count f variables ∷ lines_from (completed_line f) 0 (count f variables))),
        section-cut variable_cut (variable_line f) variables-cut (count f variables) (count f variables ∷ lines_from (completed_line f) 0 (count f variables)),
        section-end completed_cut (completed_line f) completed-cuts (count f variables),
      )

  written-rank : (t : ℕ) → t < count f types → sheet_rank written t ≡ rank t
  unfolding sheet_rank written
  written-rank t l = rw (lines_at (λ t. rank t ∷ type_line f t) 0 (count f types) t l, zero-add t)

  same_self : (w : List ℕ) → same_words w w ≡ true
  unfolding same_words
  same_self [] = refl
  same_self (x ∷ w) = rw (eq-eqb x x refl) (same_self w)

  -- a line is equal to itself
  same_at : (g : ℕ → List ℕ) (k t : ℕ) → t < k → same_words (get_or (lines_of g 0 k) t []) (g t) ≡ true
  same_at g k t l = rw (lines_at g 0 k t l, zero-add t) (same_self (g t))

  type_at : (t : ℕ) → t < count f types → same_words (drop 1 (get_or written.type_lines t [])) (type_line f t) ≡ true
  unfolding written
  type_at t l = rw (lines_at (λ t. rank t ∷ type_line f t) 0 (count f types) t l, zero-add t) (same_self (type_line f t))

  written-right : lines_right f written ≡ true
  unfolding lines_right written
  written-right =
      let a : every (λ t. same_words (drop 1 (get_or written.type_lines t [])) (type_line f t)) (count f types) ≡ true = true-every _ (count f types) type_at in
      let b : every (λ v. same_words (get_or written.variable_lines v []) (variable_line f v)) (count f variables) ≡ true = true-every _ (count f variables) (same_at (variable_line f) (count f variables)) in
      let c : every (λ v. same_words (get_or written.completed_lines v []) (completed_line f v)) (count f variables) ≡ true = true-every _ (count f variables) (same_at (completed_line f) (count f variables)) in
      rw (a, b, c)

  module _ (e : verdict f ≡ 0) (up : rising (count f types) (uses f) rank ≡ true) where
    written-rises : ranks_rise f written ≡ true
    unfolding ranks_rise
    written-rises =
        let r = true-rising (count f types) (uses f) rank up in
        rising-true (count f types) (uses f) (sheet_rank written) (record {
          rises = λ t l. each_two (λ d p q. omega (arith, written-rank t l, written-rank d p)) (uses f t) (uses-inside f (accepted f e) t l) (r.rises t l);
        })

    -- it passes
    pub right-passes : check_answer f (sheet_with f rank) ≡ 0
    unfolding check_answer
    right-passes = rw (e, written_read, written-rises, written-right)
