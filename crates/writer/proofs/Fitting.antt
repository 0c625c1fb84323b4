-- A law for each call and each return of resolved.rt. Assumes nothing.
use mathlib.Core.Path.{◌≡◌, ap, sym, subst, ◌∙◌}
use mathlib.Core.Bool.{true, false}
use mathlib.Core.List.{List, [], ◌∷◌, ◌++◌, append_assoc}
use Prim.Native.Nat.{ℕ, ◌+◌, ◌^◌, ◌≤◌, ◌<◌}
use native.Mathlib.Omega.{arith}
use mir.Syntax.{w64}
use mir.Val.{Fits}
use lib.Dec.{leb, lit<}
use lib.ListN.{length, drop, length-append}
use borrow.Author.Rules.{rules}
use borrow.Author.Tests.{le-leb, lt-leb}
use Rattle.std.specs.Prelude.{Ok, Err}
use Rattle.definition.specs.declared.answers.Refusal.TheVariants as refusal
use Rattle.definition.specs.Layout.{count, types, variables, most_records, limits_of_records}
use Rattle.definition.specs.Lines.{variable_line, completed_line}
use Rattle.definition.specs.Answers.{says, number_of, words_say, over, written_answer}
use Rattle.definition.specs.Uses.{rank_at}
use Rattle.definition.specs.Sheet.{sheet_with}
use Rattle.laws.specs.Accepted.{Accepted, count_most, few-types}
use Rattle.sheet_parts.specs.declared.variables.Both.{Both}
use Rattle.laws.specs.Puts.{Puts, puts-long, puts_then}
use Rattle.sheet_parts.specs.Resolved.{Resolved, ranked_line}
use Rattle.sheet_parts.specs.Section.{section_of, TypesLong, SectionRoom, SectionsLong, SectionsRoom}
use Rattle.writer.specs.Sheets.{SheetLong, Answers}
use Rattle.writer.specs.declared.resolved.Places.{Places}

-- ---- the three sections
abbrev typed : List ℕ → List ℕ → List ℕ
typed f ranks = section_of (ranked_line f (rank_at ranks)) (count f types)

abbrev valued : List ℕ → List ℕ
valued f = section_of (variable_line f) (count f variables)

abbrev filled : List ℕ → List ℕ
filled f = section_of (completed_line f) (count f variables)

sheet-is : (f ranks : List ℕ) → sheet_with f (rank_at ranks) ≡ typed f ranks ++ (valued f ++ filled f)
unfolding sheet_with section_of
sheet-is f ranks = append_assoc (typed f ranks) (valued f) (filled f)

-- ---- `count_sheet`
few-variables : (f : List ℕ) → Accepted f → count f variables ≤ 4096
unfolding most_records limits_of_records
few-variables f a = count_most f a variables (lit< tt)

module _ {f : List ℕ} {t : ℕ} (x : TypesLong f (count f types) t) {w : Both} (y : SectionsLong f (count f variables) w) where
  module _ {tables store : List ℕ} (k : Resolved f tables store) where
    most : t + w.value + w.completed < 2 ^ 32
    most = omega (arith, x.most, y.value.most, y.completed.most, few-types f k.ready.accepted, few-variables f k.ready.accepted)

    pub two-fit : Fits w64 (t + w.value)
    two-fit = record { fits = omega (arith, most) }

    pub three-fit : Fits w64 (t + w.value + w.completed)
    three-fit = record { fits = omega (arith, most) }

  pub sheet-counted : SheetLong f (record { sections = record { value = t; completed = t + w.value }; end = t + w.value + w.completed })
  sheet-counted = record { types = λ ranks. x.is (rank_at ranks); value = omega (arith, y.value.is); completed = omega (arith, y.completed.is) }

-- ---- `put_sheet`
module _ {f : List ℕ} {at : Places} (x : SheetLong f at) where
  pub room-types : {out : ℕ} → at.end ≤ out → (ranks : List ℕ) → SectionRoom (ranked_line f (rank_at ranks)) (count f types) 0 out
  room-types h ranks = record { room = omega (arith, x.types ranks, x.value, x.completed) }

  pub room-variables : {old : List ℕ} → at.end ≤ length old → {ws : List ℕ} {a b : ℕ} {mid : List ℕ} → Puts ws old a b mid
      → SectionsRoom f at.sections (length mid)
  room-variables h p = record { next = sym x.value; room = omega (arith, x.completed, puts-long p) }

  pub sheet-put : (ranks : List ℕ) {old : List ℕ} {a : ℕ} {mid : List ℕ} → Puts (typed f ranks) old 0 a mid → {r : ℕ} {new : List ℕ} → Puts (valued f ++ filled f) mid at.sections.value r new
      → Puts (sheet_with f (rank_at ranks)) old 0 at.end new
  sheet-put ranks {old} {a} {mid} p {r} {new} q =
      let e : at.sections.value ≡ a = omega (arith, x.types ranks, p.ends) in
      let l : length (valued f ++ filled f) ≡ length (valued f) + length (filled f) = length-append (valued f) (filled f) in
      let i : r ≡ at.end = omega (arith, x.value, x.completed, q.ends) in
      rw (sheet-is f ranks) (subst (λ (n : ℕ). Puts (typed f ranks ++ (valued f ++ filled f)) old 0 n new) i (puts_then p (subst (λ (b : ℕ). Puts (valued f ++ filled f) mid b r new) e q)))

-- ---- `write_resolved`
module _ {f : List ℕ} {at : Places} (x : SheetLong f at) (ranks : List ℕ) where
  sheet-long : at.end ≡ length (sheet_with f (rank_at ranks))
  sheet-long = rw (sheet-is f ranks) (simp length-append (omega (arith, x.types ranks, x.value, x.completed)))

  pub sheet-short : {old : List ℕ} → length old < at.end → Answers (sheet_with f (rank_at ranks)) old (Err refusal.Short) old
  unfolding number_of words_say written_answer over
  sheet-short {old} h =
      let g : leb (length (sheet_with f (rank_at ranks))) (length old) ≡ false = lt-leb (length (sheet_with f (rank_at ranks))) (length old) (omega (arith, sheet-long)) in
      record { says = rw g; is = rw g }

  pub sheet-written : {old : List ℕ} → at.end ≤ length old → {new : List ℕ} → Puts (sheet_with f (rank_at ranks)) old 0 at.end new → Answers (sheet_with f (rank_at ranks)) old (Ok at.end) new
  unfolding number_of words_say written_answer over
  sheet-written {old} h {new} p =
      let s : List ℕ = sheet_with f (rank_at ranks) in
      let g : leb (length s) (length old) ≡ true = le-leb (length s) (length old) (omega (arith, sheet-long)) in
      record { says = rw g (ap (λ (n : ℕ). says 0 (n ∷ [])) sheet-long); is = rw g (p.is ∙ ap (λ (n : ℕ). s ++ drop n old) sheet-long) }

pub ruleset sheets = (rules, two-fit, three-fit, sheet-counted, room-types, room-variables, sheet-put, sheet-short, sheet-written)
