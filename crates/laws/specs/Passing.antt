-- What a sheet is that passes: the fixed words of every line, under ranks that rise along every use. Assumes nothing.
use Rattle.std.proofs.Math.Path.{◌≡◌, refl, ap}
use Rattle.std.proofs.Common.{sym, ◌∙◌, append_assoc, append-nil, arith, zero-add, eqb-true}
use Rattle.std.specs.Prelude.{Bool, List, [], ◌∷◌, ◌++◌, ℕ, suc, ◌<◌, length, get_or}
use Rattle.std.proofs.Math.Bool.{true, false}
use Rattle.std.proofs.Math.Dec.{eqb}
use Rattle.std.proofs.Math.ListN.{drop}
use Rattle.std.proofs.lemmas.Bool.{eqb-false}
use Rattle.definition.specs.Base.{pick, choose, every}
use Rattle.definition.specs.Layout.{count, types, variables}
use Rattle.definition.specs.Accept.{need, verdict}
use Rattle.definition.specs.Ask.{ok, none, large, Outcome}
use Rattle.definition.specs.Starting.{type_outcome}
use Rattle.definition.specs.Lines.{outcome_words, type_line, variable_line, completed_line}
use Rattle.definition.specs.Uses.{rising, uses}
use Rattle.definition.specs.Sheet.{lines_from, sheet_with, type_cut, variable_cut, completed_cut, Section, section, unreadable, on_section, read_section, Sheet, Read, read, no, read_sheet, sheet_rank, ranks_rise, same_words, lines_right, on_read, check_answer}
use Rattle.laws.specs.Cases.{both}
use Rattle.laws.specs.Every.{every_true}
use Rattle.laws.specs.Cuts.{all_words, type-back, variable-back, completed-back, section-back, lines_of}

-- ---- equal words
pub same-words : (v w : List ℕ) → same_words v w ≡ true → v ≡ w
unfolding same_words
same-words [] [] e = refl
same-words [] (y ∷ w) e = let z : ◌≡◌ {A = ℕ} 0 1 = cc in absurd (omega arith)
same-words (x ∷ v) [] e = let z : ◌≡◌ {A = ℕ} 0 1 = cc in absurd (omega arith)
same-words (x ∷ v) (y ∷ w) e = let p = both (eqb x y) (same_words v w) e in rw (eqb-true x y p.0, same-words v w p.1)

-- ---- what was read stood there
pub record Stands (f s : List ℕ) (sheet : Sheet) : Type 0 where
  pub words : s ≡ (count f types ∷ all_words sheet.type_lines) ++ (count f variables ∷ all_words sheet.variable_lines) ++ (count f variables ∷ all_words sheet.completed_lines)
  pub types_all : length sheet.type_lines ≡ count f types
  pub variables_all : length sheet.variable_lines ≡ count f variables
  pub completed_all : length sheet.completed_lines ≡ count f variables

nothing_left : (l : List ℕ) → eqb (length l) 0 ≡ true → l ≡ []
nothing_left [] e = refl
nothing_left (x ∷ l) e = absurd (omega (arith, eqb-true (suc (length l)) 0 e))

sheet_of : Sheet → Read → Sheet
sheet_of other (read sheet) = sheet
sheet_of other no = other

module _ (f s : List ℕ) (sheet : Sheet) where
  join-three : (n m : ℕ) (a b c d l₁ l₂ : List ℕ) → s ≡ n ∷ (a ++ l₁) → l₁ ≡ m ∷ (b ++ l₂) → l₂ ≡ m ∷ (c ++ d) → d ≡ [] → s ≡ (n ∷ a) ++ (m ∷ b) ++ (m ∷ c)
  join-three n m a b c d l₁ l₂ p q r e =
      p ∙ ap (λ x. n ∷ (a ++ x)) (q ∙ ap (λ x. m ∷ (b ++ x)) (r ∙ ap (λ x. m ∷ (c ++ x)) e ∙ ap (λ x. m ∷ x) (append-nil c)))
      ∙ sym (append_assoc (n ∷ a) (m ∷ b) (m ∷ c))

  third : (ts vs : List (List ℕ)) (l m : List ℕ) → read_section type_cut (count f types) s ≡ section ts l → read_section variable_cut (count f variables) l ≡ section vs m
      → (z : Section) → read_section completed_cut (count f variables) m ≡ z
      → on_section z no (λ cs n. pick (eqb (length n) 0) (read (record { type_lines = ts; variable_lines = vs; completed_lines = cs })) no) ≡ read sheet → Stands f s sheet
  unfolding sheet_of
  third ts vs l m p q (section cs n) r e₀ = go (eqb (length n) 0) refl e₀
    where
      go : (b : Bool) → eqb (length n) 0 ≡ b → pick b (read (record { type_lines = ts; variable_lines = vs; completed_lines = cs })) no ≡ read sheet → Stands f s sheet
      go true t e =
          let here : Sheet = record { type_lines = ts; variable_lines = vs; completed_lines = cs } in
          let a = section-back type_cut type-back (count f types) s ts l p in
          let b = section-back variable_cut variable-back (count f variables) l vs m q in
          let c = section-back completed_cut completed-back (count f variables) m cs n r in
          let same : here ≡ sheet = ap (sheet_of here) e in
          rw (← same) (record {
            words = join-three (count f types) (count f variables) (all_words ts) (all_words vs) (all_words cs) n l m a.0 b.0 c.0 (nothing_left n t);
            types_all = a.1;
            variables_all = b.1;
            completed_all = c.1;
          })
      go false t e = let z : ◌≡◌ {A = ℕ} 0 1 = cc in absurd (omega arith)
  third ts vs l m p q unreadable r e = let z : ◌≡◌ {A = ℕ} 0 1 = cc in absurd (omega arith)

  second : (ts : List (List ℕ)) (l : List ℕ) → read_section type_cut (count f types) s ≡ section ts l → (z : Section) → read_section variable_cut (count f variables) l ≡ z
      → on_section z no (λ vs m. on_section (read_section completed_cut (count f variables) m) no (λ cs n.
      pick (eqb (length n) 0) (read (record { type_lines = ts; variable_lines = vs; completed_lines = cs })) no)) ≡ read sheet → Stands f s sheet
  second ts l p (section vs m) q e = third ts vs l m p q (read_section completed_cut (count f variables) m) refl e
  second ts l p unreadable q e = let z : ◌≡◌ {A = ℕ} 0 1 = cc in absurd (omega arith)

  first : (z : Section) → read_section type_cut (count f types) s ≡ z
      → on_section z no (λ ts l. on_section (read_section variable_cut (count f variables) l) no (λ vs m. on_section (read_section completed_cut (count f variables) m) no (λ cs n.
      pick (eqb (length n) 0) (read (record { type_lines = ts; variable_lines = vs; completed_lines = cs })) no))) ≡ read sheet → Stands f s sheet
  first (section ts l) p e = second ts l p (read_section variable_cut (count f variables) l) refl e
  first unreadable p e = let z : ◌≡◌ {A = ℕ} 0 1 = cc in absurd (omega arith)

  pub sheet-stands : read_sheet f s ≡ read sheet → Stands f s sheet
  unfolding read_sheet
  sheet-stands e = first (read_section type_cut (count f types) s) refl e

-- ---- the lines that are right
-- a type's line is its rank and its fixed words
ranked-line : (w v : List ℕ) (x : ℕ) → drop 1 w ≡ x ∷ v → w ≡ get_or w 0 0 ∷ x ∷ v
ranked-line [] v x e = let z : ◌≡◌ {A = ℕ} 0 1 = cc in absurd (omega arith)
ranked-line (y ∷ w) v x e = ap (λ l. y ∷ l) e

type_line_words : (w : List ℕ) (o : Outcome) → drop 1 w ≡ outcome_words o → w ≡ get_or w 0 0 ∷ outcome_words o
unfolding outcome_words
type_line_words w (ok t) e = ranked-line w _ 0 e
type_line_words w none e = ranked-line w _ 1 e
type_line_words w large e = ranked-line w _ 2 e

module _ (f s : List ℕ) (sheet : Sheet) (stands : Stands f s sheet) (right : lines_right f sheet ≡ true) where
  parts : ((every (λ t. same_words (drop 1 (get_or sheet.type_lines t [])) (type_line f t)) (count f types) ≡ true)
      × (every (λ v. same_words (get_or sheet.variable_lines v []) (variable_line f v)) (count f variables) ≡ true))
      × (every (λ v. same_words (get_or sheet.completed_lines v []) (completed_line f v)) (count f variables) ≡ true)
  unfolding lines_right
  parts = let p = both _ _ right in (both _ _ p.0, p.1)

  type-words : all_words sheet.type_lines ≡ lines_from (λ t. sheet_rank sheet t ∷ type_line f t) 0 (count f types)
  unfolding type_line sheet_rank
  type-words =
      lines_of (λ t. sheet_rank sheet t ∷ type_line f t) 0 sheet.type_lines (λ t l.
      let i : t < count f types = omega (arith, stands.types_all) in
      let e : drop 1 (get_or sheet.type_lines t []) ≡ type_line f t = same-words _ _ (every_true _ (count f types) parts.0.0 t i) in
      rw (zero-add t) (type_line_words (get_or sheet.type_lines t []) (type_outcome f t) e))
      ∙ ap (lines_from (λ t. sheet_rank sheet t ∷ type_line f t) 0) stands.types_all

  variable-words : all_words sheet.variable_lines ≡ lines_from (variable_line f) 0 (count f variables)
  variable-words =
      lines_of (variable_line f) 0 sheet.variable_lines (λ v l.
      rw (zero-add v) (same-words _ _ (every_true _ (count f variables) parts.0.1 v (omega (arith, stands.variables_all)))))
      ∙ ap (lines_from (variable_line f) 0) stands.variables_all

  completed-words : all_words sheet.completed_lines ≡ lines_from (completed_line f) 0 (count f variables)
  completed-words =
      lines_of (completed_line f) 0 sheet.completed_lines (λ v l.
      rw (zero-add v) (same-words _ _ (every_true _ (count f variables) parts.1 v (omega (arith, stands.completed_all)))))
      ∙ ap (lines_from (completed_line f) 0) stands.completed_all

  pub right-words : s ≡ sheet_with f (sheet_rank sheet)
  unfolding sheet_with
  right-words = stands.words ∙ rw (type-words, variable-words, completed-words)

-- ---- a sheet that passes
pub record Right (f s : List ℕ) : Type 0 where
  pub accepted : verdict f ≡ 0
  pub rank : ℕ → ℕ
  pub rises : rising (count f types) (uses f) rank ≡ true
  pub words : s ≡ sheet_with f rank

module _ (f s : List ℕ) where
  needs-lines : (sheet : Sheet) → read_sheet f s ≡ read sheet → verdict f ≡ 0 → ranks_rise f sheet ≡ true → (b : Bool) → lines_right f sheet ≡ b
      → need b 13 (λ w. 0) ≡ 0 → Right f s
  unfolding ranks_rise
  needs-lines sheet r a up true q e = record { accepted = a; rank = sheet_rank sheet; rises = up; words = right-words f s sheet (sheet-stands f s sheet r) q }
  needs-lines sheet r a up false q e = absurd (omega (arith, e))

  needs-ranks : (sheet : Sheet) → read_sheet f s ≡ read sheet → verdict f ≡ 0 → (b : Bool) → ranks_rise f sheet ≡ b
      → need b 12 (λ v. need (lines_right f sheet) 13 (λ w. 0)) ≡ 0 → Right f s
  needs-ranks sheet r a true q e = needs-lines sheet r a q (lines_right f sheet) refl e
  needs-ranks sheet r a false q e = absurd (omega (arith, e))

  needs-sheet : verdict f ≡ 0 → (x : Read) → read_sheet f s ≡ x
      → on_read x (λ sheet. need (ranks_rise f sheet) 12 (λ v. need (lines_right f sheet) 13 (λ w. 0))) 11 ≡ 0 → Right f s
  needs-sheet a (read sheet) q e = needs-ranks sheet q a (ranks_rise f sheet) refl e
  needs-sheet a no q e = absurd (omega (arith, e))

  needs-file : (b : Bool) → eqb (verdict f) 0 ≡ b
      → choose b (λ u. on_read (read_sheet f s) (λ sheet. need (ranks_rise f sheet) 12 (λ v. need (lines_right f sheet) 13 (λ w. 0))) 11) (λ u. verdict f) ≡ 0 → Right f s
  needs-file true q e = needs-sheet (eqb-true (verdict f) 0 q) (read_sheet f s) refl e
  needs-file false q e = absurd (eqb-false (verdict f) 0 q e)

  pub passes-right : check_answer f s ≡ 0 → Right f s
  unfolding check_answer
  passes-right e = needs-file (eqb (verdict f) 0) refl e
