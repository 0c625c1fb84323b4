-- Refusal 13 by the places of a sheet: each line is compared with what the file and the other type lines give, and that is the definition's `lines_right`.
-- With it, one law for each answer of the check. Assumes nothing.
use mathlib.Core.Path.{◌≡◌, refl, ap, sym, ◌∙◌}
use mathlib.Core.Bool.{Bool, true, false, ◌&&◌}
use mathlib.Core.List.{List, [], ◌∷◌}
use Prim.Native.Nat.{ℕ, zero, suc, ◌+◌, ◌<◌}
use native.Mathlib.Omega.{arith}
use native.Mathlib.Numerals.{add-one}
use lib.ListN.{get_or, drop}
use lib.Seq.{slice, slice-cons}
use borrow.Author.Tests.{eq-eqb}
use Rattle.definition.specs.Base.{every}
use Rattle.definition.specs.Layout.{count, types, variables}
use Rattle.definition.specs.Accept.{verdict}
use Rattle.definition.specs.Tree.{flatten}
use Rattle.definition.specs.Ask.{ok, none, large, Outcome}
use Rattle.definition.specs.Starting.{body, declaration, type_outcome}
use Rattle.definition.specs.Peek.{look, got, peek}
use Rattle.definition.specs.Lines.{outcome_words, type_line, variable_line, completed_line}
use Rattle.definition.specs.Uses.{uses, rising}
use Rattle.definition.specs.Sheet.{Sheet, sheet_rank, ranks_rise, same_words, lines_right, check_answer}
use Rattle.laws.specs.Asks.{OnOk}
use Rattle.laws.specs.Cases.{both}
use Rattle.laws.specs.Every.{every_true, true-every}
use Rattle.laws.specs.Values.{Small}
use Rattle.laws.specs.Whole.{Good}
use Rattle.laws.specs.Readable.{flatten-only}
use Rattle.laws.specs.Peeking.{look-to, peek-look}
use Rattle.laws.specs.Falling.{declaration-asks}
use Rattle.laws.specs.Sizes.{type-small}
use Rattle.laws.specs.Passing.{same-words}
use Rattle.laws.specs.Demand.{falls, table-only, table-solves, variable-from}
use Rattle.sheet_lines.specs.declared.ends.Form.TheVariants.{Types}
use Rattle.std.specs.Prelude.{Some, None}
use Rattle.sheet_lines.specs.declared.find.Lines.{Lines}
use Rattle.sheet_lines.specs.Ends.{head_words, line_at}
use Rattle.sheet_lines.specs.Found.{found_of}
use Rattle.sheet_lines.specs.Read.{sheet_at}
use Rattle.sheet_lines.specs.Small.{small_at}
use Rattle.sheet_lines.specs.Said.{said_by}
use Rattle.sheet_lines.specs.Judged.{type_at, variable_at, completed_at, type_same, variable_same, completed_same, types_right, variables_right, judged}
use Rattle.sheet_lines.proofs.Reading.{found-sheet, found-no}
use Rattle.sheet_lines.proofs.Placed.{FoundAt, found_at, line-inside, types-end, type-line-is, variable-line-is, completed-line-is}
use Rattle.sheet_lines.proofs.Remembering.{sheet_memo, sheet-knows, said-line, said-sized, said-small}

-- ---- words
same_self : (w : List ℕ) → same_words w w ≡ true
unfolding same_words
same_self [] = refl
same_self (x ∷ w) = rw (eq-eqb x x refl) (same_self w)

same_of : {v w : List ℕ} → v ≡ w → same_words v w ≡ true
same_of {v} {w} e = rw e (same_self w)

small-good : (o : Outcome) → OnOk Small o → OnOk Good o
small-good (ok t) x = x.good
small-good none x = tt
small-good large x = tt

-- outcomes of whole trees have words of their own
pub words-only : (o p : Outcome) → OnOk Good o → OnOk Good p → outcome_words o ≡ outcome_words p → o ≡ p
unfolding outcome_words
words-only (ok t) (ok u) g h e = let w : flatten t ≡ flatten u = cc in ap ok (flatten-only t u g h w)
words-only (ok t) none g h e = let z : ◌≡◌ {A = ℕ} 0 1 = cc in absurd (omega arith)
words-only (ok t) large g h e = let z : ◌≡◌ {A = ℕ} 0 2 = cc in absurd (omega arith)
words-only none (ok u) g h e = let z : ◌≡◌ {A = ℕ} 1 0 = cc in absurd (omega arith)
words-only none none g h e = refl
words-only none large g h e = let z : ◌≡◌ {A = ℕ} 1 2 = cc in absurd (omega arith)
words-only large (ok u) g h e = let z : ◌≡◌ {A = ℕ} 2 0 = cc in absurd (omega arith)
words-only large none g h e = let z : ◌≡◌ {A = ℕ} 2 1 = cc in absurd (omega arith)
words-only large large g h e = refl

-- ---- tests
both_ways : (a b : Bool) → (a ≡ true → b ≡ true) → (b ≡ true → a ≡ true) → a ≡ b
both_ways true b f g = sym (f refl)
both_ways false true f g = g refl
both_ways false false f g = refl

every-same : (p q : ℕ → Bool) (n : ℕ) → ((t : ℕ) → t < n → p t ≡ q t) → every p n ≡ every q n
unfolding every
every-same p q zero h = refl
every-same p q (suc n) h = rw (every-same p q n (λ t l. h t (omega arith)), h n (omega arith))

-- ---- the types' lines
module _ {f s : List ℕ} {v c : ℕ} (x : FoundAt f s v c) where
  abbrev sheet : Sheet
  sheet = sheet_at f s v c

  behind-rank : (t : ℕ) → t < count f types → drop 1 (get_or sheet.type_lines t []) ≡ slice (line_at Types s 1 t + 1) (line_at Types s 1 (suc t)) s
  unfolding head_words
  behind-rank t l =
      let p : ℕ = line_at Types s 1 t in
      let q : ℕ = line_at Types s 1 (suc t) in
      let r = line-inside Types s 1 (types-end x) t l in
      let w : slice p q s ≡ get_or s p 0 ∷ slice (suc p) q s = slice-cons p q s 0 (omega (arith, r.0)) r.1 in
      ap (drop 1) (type-line-is x t l ∙ w) ∙ ap (λ (k : ℕ). slice k q s) (sym (add-one p))

  said-words : (t : ℕ) → t < count f types → slice (line_at Types s 1 t + 1) (line_at Types s 1 (suc t)) s ≡ outcome_words (said_by s t)
  said-words t l = (said-line x t l).stands.is

  pub line-words : (t : ℕ) → t < count f types → drop 1 (get_or sheet.type_lines t []) ≡ outcome_words (said_by s t)
  line-words t l = behind-rank t l ∙ said-words t l

  module _ (e : verdict f ≡ 0) (up : ranks_rise f sheet ≡ true) where
    rises : rising (count f types) (uses f) (sheet_rank sheet) ≡ true
    unfolding ranks_rise
    rises = up

    -- the tests of the definition, as facts
    right-said : every (λ t. same_words (drop 1 (get_or sheet.type_lines t [])) (type_line f t)) (count f types) ≡ true → (t : ℕ) → t < count f types → said_by s t ≡ type_outcome f t
    unfolding type_line
    right-said h t l =
        words-only (said_by s t) (type_outcome f t) (said-line x t l).good (small-good (type_outcome f t) (type-small f t))
        (sym (line-words t l) ∙ same-words _ _ (every_true _ (count f types) h t l))

    -- those of the check
    judged-said : every (small_at s) (count f types) ≡ true → types_right f s ≡ true → (t : ℕ) → t < count f types → said_by s t ≡ type_outcome f t
    unfolding type_same type_at types_right
    judged-said h k = table-only f e (sheet_rank sheet) rises (said_by s) (λ t l.
        let o : OnOk Small (look (said_by s) (body f t)) =
        look-to _ (λ d o. OnOk Small o) (OnOk Small) (said_by s) (λ d p. said-small x h d p.0) (body f t) (falls f e (sheet_rank sheet) rises t l) in
        words-only (said_by s t) (look (said_by s) (body f t)) (said-line x t l).good (small-good (look (said_by s) (body f t)) o)
        (sym (said-words t l) ∙ same-words _ _ (every_true (type_same f s) (count f types) k t l)))

    module _ (right : (t : ℕ) → t < count f types → said_by s t ≡ type_outcome f t) where
      all_small : every (small_at s) (count f types) ≡ true
      all_small = true-every (small_at s) (count f types) (λ t l. said-sized x t l (rw (right t l) (type-small f t)))

      all_same : types_right f s ≡ true
      unfolding type_same type_at types_right
      all_same = true-every (type_same f s) (count f types) (λ t l.
          same_of (said-words t l ∙ ap outcome_words (table-solves f e (sheet_rank sheet) rises (said_by s) right t l)))

      all_right : every (λ t. same_words (drop 1 (get_or sheet.type_lines t [])) (type_line f t)) (count f types) ≡ true
      unfolding type_line
      all_right = true-every _ (count f types) (λ t l. same_of (line-words t l ∙ ap outcome_words (right t l)))

      variables-same : every (λ u. same_words (get_or sheet.variable_lines u []) (variable_line f u)) (count f variables) ≡ every (variable_same f s v) (count f variables)
      unfolding variable_same variable_at variable_line
      variables-same = every-same _ (variable_same f s v) (count f variables) (λ u l.
          rw (variable-line-is x u l, variable-from f e (sheet_rank sheet) rises (said_by s) right u l))

      completed-same : every (λ u. same_words (get_or sheet.completed_lines u []) (completed_line f u)) (count f variables) ≡ every (completed_same f s c) (count f variables)
      unfolding completed_same completed_at completed_line
      completed-same = every-same _ (completed_same f s c) (count f variables) (λ u l.
          rw (completed-line-is x u l, variable-from f e (sheet_rank sheet) rises (said_by s) right u l))

    types-judged : every (λ t. same_words (drop 1 (get_or sheet.type_lines t [])) (type_line f t)) (count f types) ≡ every (small_at s) (count f types) && types_right f s
    types-judged =
        both_ways _ _ (λ h. let r = right-said h in rw (all_small r, all_same r))
        (λ h. let b = both (every (small_at s) (count f types)) (types_right f s) h in all_right (judged-said b.0 b.1))

    -- refusal 13: the definition's test is the check's
    pub judged-right : lines_right f sheet ≡ judged f s v c
    unfolding lines_right judged variables_right
    judged-right = rw types-judged (go (every (small_at s) (count f types) && types_right f s) refl)
      where
        go : (b : Bool) → every (small_at s) (count f types) && types_right f s ≡ b
            → b && every (λ u. same_words (get_or sheet.variable_lines u []) (variable_line f u)) (count f variables) && every (λ u. same_words (get_or sheet.completed_lines u []) (completed_line f u)) (count f variables)
            ≡ b && (every (variable_same f s v) (count f variables) && every (completed_same f s c) (count f variables))
        go true q =
            let b = both (every (small_at s) (count f types)) (types_right f s) q in
            let r = judged-said b.0 b.1 in
            rw (variables-same r, completed-same r)
        go false q = refl

-- ---- what a computation gets that reads the type lines of the sheet: the sheet's memo wants nothing
module _ {f s : List ℕ} {v c : ℕ} (x : FoundAt f s v c) (e : verdict f ≡ 0) (h : every (small_at s) (count f types) ≡ true) where
  pub type-peek : ranks_rise f (sheet_at f s v c) ≡ true → (t : ℕ) → t < count f types → peek (sheet_memo s (count f types)) (body f t) ≡ got (look (said_by s) (body f t))
  type-peek up t l =
      peek-look _ (λ d o. OnOk Small o) (OnOk Small) (sheet_memo s (count f types)) (said_by s) (λ d p. sheet-knows s (count f types) d p.0) (λ d p. said-small x h d p.0) (body f t)
      (falls f e (sheet_rank (sheet_at f s v c)) (rises x e up) t l)

  pub variable-peek : (u : ℕ) → u < count f variables → peek (sheet_memo s (count f types)) (declaration f u) ≡ got (look (said_by s) (declaration f u))
  variable-peek u l =
      peek-look (λ d. d < count f types) (λ d o. OnOk Small o) (OnOk Small) (sheet_memo s (count f types)) (said_by s) (λ d p. sheet-knows s (count f types) d p) (λ d p. said-small x h d p)
      (declaration f u) (declaration-asks f e u l)

-- ---- the answers of the check
module _ (f s : List ℕ) (e : verdict f ≡ 0) where
  pub check-unreadable : found_of f s ≡ None → check_answer f s ≡ 11
  unfolding check_answer
  check-unreadable i = rw (e, found-no f s i)

  module _ {x : Lines} (i : found_of f s ≡ Some x) where
    pub check-ranks : ranks_rise f (sheet_at f s x.variables x.completed) ≡ false → check_answer f s ≡ 12
    unfolding check_answer
    check-ranks r = rw (e, found-sheet f s i, r)

    module _ (r : ranks_rise f (sheet_at f s x.variables x.completed) ≡ true) where
      judged-is : (b : Bool) → judged f s x.variables x.completed ≡ b → lines_right f (sheet_at f s x.variables x.completed) ≡ b
      judged-is b j = judged-right (found_at f s x i) e r ∙ j

      pub check-lines : judged f s x.variables x.completed ≡ false → check_answer f s ≡ 13
      unfolding check_answer
      check-lines j = rw (e, found-sheet f s i, r, judged-is false j)

      pub check-passes : judged f s x.variables x.completed ≡ true → check_answer f s ≡ 0
      unfolding check_answer
      check-passes j = rw (e, found-sheet f s i, r, judged-is true j)
