-- What is built for a line from the file and the sheet's own type lines, and that the line is compared with it. Assumes nothing.
use mathlib.Core.Path.{◌≡◌, refl, sym, subst, ◌∙◌}
use mathlib.Core.Bool.{Bool, true, false, ◌&&◌}
use mathlib.Core.List.{List}
use Prim.Native.Nat.{ℕ, ◌+◌, ◌^◌, ◌≤◌, ◌<◌}
use native.Mathlib.Omega.{arith}
use lib.ListN.{length}
use borrow.Author.Rules.{rules}
use borrow.Author.Tests.{not-true, not-false}
use mir.Syntax.{w64}
use mir.Val.{Fits}
use Rattle.definition.specs.Layout.{count, types, variables}
use Rattle.definition.specs.Tree.{flatten}
use Rattle.definition.specs.Ask.{Outcome}
use Rattle.definition.specs.Starting.{body, declaration}
use Rattle.definition.specs.Peek.{Peek, look}
use Rattle.definition.specs.Uses.{uses, rising}
use Rattle.definition.specs.Sheet.{sheet_rank, ranks_rise}
use Rattle.definition.specs.Answers.{room_words}
use Rattle.laws.specs.Asks.{OnOk}
use Rattle.laws.specs.Values.{Small}
use Rattle.laws.specs.Peeking.{look-to}
use Rattle.laws.specs.Falling.{declaration-asks}
use Rattle.laws.specs.Demand.{falls}
use Rattle.build.specs.Built.{Built}
use Rattle.build.specs.Built.{index_in, Gives, Memory, Builds, Ready}
use Rattle.driver.specs.Told.{Tells}
use Rattle.driver.proofs.Tabling.{front_same}
use Rattle.driver.proofs.Settling as settling
use Rattle.sheet_lines.specs.declared.ends.Form.TheVariants as form
use Rattle.sheet_lines.specs.Ends.{line_end}
use Rattle.sheet_lines.specs.Judged.{type_at, variable_at, completed_at}
use Rattle.sheet_lines.specs.Read.{sheet_at}
use Rattle.sheet_lines.specs.Said.{said_by}
use Rattle.sheet_lines.proofs.Checking.{type-in, variable-in, completed-in}
use Rattle.sheet_lines.proofs.Judging.{type-peek, variable-peek}
use Rattle.sheet_lines.proofs.Placed.{FoundAt, found_at}
use Rattle.sheet_lines.proofs.Remembering.{sheet_memo, sheet-long, said-small}
use Rattle.sheet_lines.proofs.Testing.{comparable-remembers}
use Rattle.sheet.specs.Checks.{Checks}
use Rattle.sheet.specs.Same.{Shown, SameOutcome, SameCompleted}
use Rattle.std.specs.Prelude.{Some}

pub rank-fits : (s : List ℕ) (at end : ℕ) → line_end form.Types s at ≡ Some end → length s < 2 ^ 64 → Fits w64 (at + 1)
rank-fits s at end q h = let w = type-in s at end q in record { fits = omega (arith, w.starts, w.inside) }

module _ {f known s : List ℕ} {room : ℕ} (x : Checks f known s room) where
  found : FoundAt f s x.lines.variables x.lines.completed
  found = found_at f s x.lines x.comparable.found

  memory : Memory f (index_in known) s (sheet_memo s (count f types))
  memory = record { remembers = comparable-remembers x.comparable; all = omega (arith, sheet-long s (count f types)) }

  -- ---- what the functions that are called want
  pub checks-ready : Ready f known (index_in known) s
  checks-ready =
      record {
        accepted = x.given.accepted;
        classed = x.given.classed;
        memo = sheet_memo s (count f types);
        memory = memory;
      }

  pub checks-kept : {more : ℕ} → more ≡ room → Checks f known s more
  checks-kept {more} e =
      record { given = settling.given-kept x.given (front_same known) more e; accepted = x.accepted; lines = x.lines; comparable = x.comparable }

  pub checks-roomy : {more : ℕ} → more ≡ room → room_words f ≤ more
  checks-roomy e = omega (arith, x.given.roomy)

  -- ---- what is built
  rises : rising (count f types) (uses f) (sheet_rank (sheet_at f s x.lines.variables x.lines.completed)) ≡ true
  unfolding ranks_rise
  rises = x.comparable.rises

  module _ {t : ℕ} (l : t < count f types) where
    type-small : OnOk Small (look (said_by s) (body f t))
    type-small =
        look-to _ (λ d o. OnOk Small o) (OnOk Small) (said_by s) (λ d p. said-small found x.comparable.small d p.0) (body f t)
        (falls f x.accepted (sheet_rank (sheet_at f s x.lines.variables x.lines.completed)) rises t l)

    module _ {old : List ℕ} {b : Built} {new : List ℕ} (y : Builds f (index_in known) s flatten (body f t) 0 old b new) where
      type-tells : Tells (look (said_by s) (body f t)) b new
      type-tells =
          record {
            gives =
                subst (λ (p : Peek Outcome). Gives flatten p 0 b new) (type-peek found x.accepted x.comparable.small x.comparable.rises t l)
                (y.gives (sheet_memo s (count f types)) memory);
          }

      pub type-shown : Shown b new
      type-shown = record { outcome = look (said_by s) (body f t); tells = type-tells; small = type-small }

      pub type-says : (at : ℕ) {end : ℕ} {r : Bool} → SameOutcome s (at + 1) end b new r → r ≡ type_at f s t at end
      unfolding type_at
      type-says at z = z.says (look (said_by s) (body f t)) type-tells

  module _ {v : ℕ} (l : v < count f variables) where
    variable-small : OnOk Small (look (said_by s) (declaration f v))
    variable-small =
        look-to (λ d. d < count f types) (λ d o. OnOk Small o) (OnOk Small) (said_by s) (λ d p. said-small found x.comparable.small d p) (declaration f v)
        (declaration-asks f x.accepted v l)

    module _ {old : List ℕ} {b : Built} {new : List ℕ} (y : Builds f (index_in known) s flatten (declaration f v) 0 old b new) where
      variable-tells : Tells (look (said_by s) (declaration f v)) b new
      variable-tells =
          record {
            gives =
                subst (λ (p : Peek Outcome). Gives flatten p 0 b new) (variable-peek found x.accepted x.comparable.small v l)
                (y.gives (sheet_memo s (count f types)) memory);
          }

      pub variable-shown : Shown b new
      variable-shown = record { outcome = look (said_by s) (declaration f v); tells = variable-tells; small = variable-small }

      module _ {at end : ℕ} {p : Bool} (z : SameOutcome s at end b new p) where
        variable-is : p ≡ variable_at f s v at end
        unfolding variable_at
        variable-is = z.says (look (said_by s) (declaration f v)) variable-tells

        completed-is : {from stop : ℕ} {r : Bool} → SameCompleted f v s from stop b new r → r ≡ completed_at f s v from stop
        unfolding completed_at
        completed-is w = w.says (look (said_by s) (declaration f v)) variable-tells

        pub variable-stops : p ≡ false → (from stop : ℕ) → p ≡ variable_at f s v at end && completed_at f s v from stop
        variable-stops e from stop = e ∙ rw (sym variable-is ∙ e) refl

        pub variable-says : p ≡ true → {from stop : ℕ} {r : Bool} → SameCompleted f v s from stop b new r → r ≡ variable_at f s v at end && completed_at f s v from stop
        variable-says e w = rw (sym variable-is ∙ e) (completed-is w)

pub ruleset telling = (rules, not-true, not-false, type-in, variable-in, completed-in, rank-fits, checks-ready, checks-roomy, type-shown, type-says, variable-shown, variable-stops, variable-says)
