-- A sheet whose lines are right has at most 113,280,000 words: a word of the index holds 2 and any place in it. Assumes nothing.
use mathlib.Core.Path.{◌≡◌, refl, ap}
use mathlib.Core.Bool.{Bool, true, false}
use mathlib.Core.List.{List}
use Prim.Native.Nat.{ℕ, zero, suc, ◌+◌, ◌*◌, ◌≤◌, ◌<◌}
use native.Mathlib.Omega.{arith}
use lib.Dec.{lit<}
use lib.ListN.{length}
use lib.Seq.{length-slice}
use Rattle.definition.specs.Base.{every}
use Rattle.definition.specs.Layout.{count, types, variables, most_records, limits_of_records}
use Rattle.definition.specs.Accept.{verdict}
use Rattle.definition.specs.Tree.{Tree}
use Rattle.definition.specs.Ask.{ok, none, large, Outcome}
use Rattle.definition.specs.Starting.{declaration}
use Rattle.definition.specs.Peek.{look}
use Rattle.definition.specs.Complete.{Completed, completed, left, completion}
use Rattle.definition.specs.Lines.{outcome_words, completed_words}
use Rattle.definition.specs.Sheet.{ranks_rise, check_answer}
use Rattle.laws.specs.Accepted.{accepted, count_most, few-types}
use Rattle.laws.specs.Asks.{OnOk}
use Rattle.laws.specs.Cases.{both}
use Rattle.laws.specs.Completes.{OnCompleted, InPlaceOf, in-completion}
use Rattle.laws.specs.Every.{every_true}
use Rattle.laws.specs.Falling.{declaration-asks}
use Rattle.laws.specs.Passing.{same-words}
use Rattle.laws.specs.Peeking.{look-to}
use Rattle.laws.specs.Values.{Small}
use Rattle.laws.specs.Whole.{flatten-length}
use Rattle.sheet_lines.specs.declared.ends.Form.{Form}
use Rattle.sheet_lines.specs.declared.ends.Form.TheVariants as form
use Rattle.sheet_lines.specs.Ends.{line_at, lines_end}
use Rattle.std.specs.Prelude.{Some}
use Rattle.sheet_lines.specs.declared.find.Lines.{Lines}
use Rattle.sheet_lines.specs.Found.{found_of}
use Rattle.sheet_lines.specs.Read.{sheet_at}
use Rattle.sheet_lines.specs.Small.{small_at}
use Rattle.sheet_lines.specs.Said.{said_by}
use Rattle.sheet_lines.specs.Judged.{variable_at, completed_at, variable_same, completed_same, variables_right, judged}
use Rattle.sheet_lines.proofs.Placed.{FoundAt, found_at, line-inside, variables-end, completed-end}
use Rattle.sheet_lines.proofs.Shapes.{place_is}
use Rattle.sheet_lines.proofs.Remembering.{said-line, said-small}
use Rattle.sheet_lines.proofs.Judging.{check-lines}

-- ---- a line of a small tree has at most 12,291 words
outcome-short : (o : Outcome) → OnOk Small o → length (outcome_words o) ≤ 12290
unfolding outcome_words
outcome-short (ok t) x = omega (arith, flatten-length t, x.few)
outcome-short none x = omega arith
outcome-short large x = omega arith

on-completed-short : (t : Tree) → Small t → (d : Completed) → OnCompleted (InPlaceOf t) d → length (completed_words d) ≤ 12291
unfolding completed_words
on-completed-short t x (completed i w) k = omega (arith, flatten-length w, k.same_nodes, x.few)
on-completed-short t x left k = omega arith

completed-short : (f : List ℕ) (u : ℕ) (o : Outcome) → OnOk Small o → length (completed_words (completion f u o)) ≤ 12291
unfolding completion completed_words
completed-short f u (ok t) x = on-completed-short t x (completion f u (ok t)) (in-completion f u t x)
completed-short f u none x = omega arith
completed-short f u large x = omega arith

-- ---- so the places of lines go up by so much
places-most : (kind : Form) (s : List ℕ) (at k : ℕ) → ((t : ℕ) → t < k → line_at kind s at (suc t) ≤ line_at kind s at t + 12291) → line_at kind s at k ≤ at + k * 12291
unfolding line_at lines_end
places-most kind s at zero h = omega arith
places-most kind s at (suc k) h = omega (arith, places-most kind s at k (λ t l. h t (omega arith)), h k (omega arith))

module _ {f s : List ℕ} {v c : ℕ} (x : FoundAt f s v c) (e : verdict f ≡ 0) (j : judged f s v c ≡ true) where
  parts : (every (small_at s) (count f types) ≡ true) × (every (variable_same f s v) (count f variables) ≡ true) × (every (completed_same f s c) (count f variables) ≡ true)
  unfolding judged variables_right
  parts = let a = both _ _ j in let b = both _ _ a.1 in ((both _ _ a.0).0, b.0, b.1)

  types-most : v ≤ 1 + count f types * 12291
  types-most =
      let p : line_at form.Types s 1 (count f types) ≡ v = place_is (record { ends = x.types_there.lines }) in
      omega (
        arith,
        p,
        places-most form.Types s 1 (count f types) (λ t l.
            omega (arith, (said-line x t l).stands.long, outcome-short (said_by s t) (said-small x parts.0 t l))),
      )

  variable-small : (u : ℕ) → u < count f variables → OnOk Small (look (said_by s) (declaration f u))
  variable-small u l = look-to (λ d. d < count f types) (λ d o. OnOk Small o) (OnOk Small) (said_by s) (said-small x parts.0) (declaration f u) (declaration-asks f e u l)

  variables-most : c ≤ v + 1 + count f variables * 12291
  unfolding variable_same variable_at
  variables-most =
      let p : line_at form.Variables s (v + 1) (count f variables) ≡ c = place_is (record { ends = x.variables_there.lines }) in
      omega (
        arith,
        p,
        places-most form.Variables s (v + 1) (count f variables) (λ u l.
            let w = same-words _ _ (every_true (variable_same f s v) (count f variables) parts.1 u l) in
            let r = line-inside form.Variables s (v + 1) (variables-end x) u l in
            omega (arith, r.0, length-slice (line_at form.Variables s (v + 1) u) (line_at form.Variables s (v + 1) (suc u)) s r.1, ap length w, outcome-short (look (said_by s) (declaration f u)) (variable-small u l))),
      )

  completed-most : length s ≤ c + 1 + count f variables * 12291
  unfolding completed_same completed_at
  completed-most =
      let p : line_at form.Completed s (c + 1) (count f variables) ≡ length s = place_is (record { ends = x.completed_there.lines }) in
      omega (
        arith,
        p,
        places-most form.Completed s (c + 1) (count f variables) (λ u l.
            let w = same-words _ _ (every_true (completed_same f s c) (count f variables) parts.2 u l) in
            let r = line-inside form.Completed s (c + 1) (completed-end x) u l in
            omega (arith, r.0, length-slice (line_at form.Completed s (c + 1) u) (line_at form.Completed s (c + 1) (suc u)) s r.1, ap length w, completed-short f u (look (said_by s) (declaration f u)) (variable-small u l))),
      )

  few-variables : count f variables ≤ 4096
  unfolding most_records limits_of_records
  few-variables = count_most f (accepted f e) variables (lit< tt)

  pub right-short : length s ≤ 113280000
  right-short = omega (arith, types-most, variables-most, completed-most, few-types f (accepted f e), few-variables)

-- a longer sheet is refusal 13 where 11 and 12 are not met, so its places need not fit a word
pub check-long : (f s : List ℕ) → verdict f ≡ 0 → {x : Lines} → found_of f s ≡ Some x → ranks_rise f (sheet_at f s x.variables x.completed) ≡ true → 113280000 < length s → check_answer f s ≡ 13
check-long f s e {x} i r h = check-lines f s e i r (go (judged f s x.variables x.completed) refl)
  where
    go : (b : Bool) → judged f s x.variables x.completed ≡ b → b ≡ false
    go true j = absurd (omega (arith, right-short (found_at f s x i) e j))
    go false j = refl
