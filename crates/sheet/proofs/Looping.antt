-- The loops over lines: each goes on while lines are the same and stops at the first that differs. Assumes nothing.
use mathlib.Core.Path.{◌≡◌, refl, ap, sym, ◌∙◌}
use mathlib.Core.Bool.{Bool, true, false, ◌&&◌}
use mathlib.Core.List.{List}
use Prim.Native.Nat.{ℕ, zero, suc, ◌+◌, ◌^◌, ◌≤◌, ◌<◌}
use native.Mathlib.Omega.{arith}
use lib.ListN.{length}
use borrow.Author.Rules.{rules}
use borrow.Author.Tests.{not-true, not-false}
use mir.Syntax.{w64}
use mir.Val.{Fits}
use Rattle.definition.specs.Base.{every}
use Rattle.definition.specs.Layout.{count, types, variables}
use Rattle.records.proofs.Scanning.{Passed, none_yet, passes, all-counted, fails-counted}
use Rattle.sheet_lines.specs.declared.ends.Form.TheVariants as form
use Rattle.sheet_lines.specs.declared.find.Lines.{Lines}
use Rattle.sheet_lines.specs.Ends.{line_end}
use Rattle.sheet_lines.specs.Found.{found_of}
use Rattle.sheet_lines.specs.Judged.{type_at, variable_at, completed_at, type_same, variable_same, completed_same, types_right, variables_right}
use Rattle.sheet_lines.specs.There.{LineThere}
use Rattle.sheet_lines.proofs.Checking.{type-same-at, variable-same-at, completed-same-at}
use Rattle.sheet_lines.proofs.Ending.{EndsAt, no_lines}
use Rattle.sheet_lines.proofs.Placed.{found_at, types-end, variables-end, completed-end}
use Rattle.sheet_lines.proofs.Shapes.{line-there, line-next}
use Rattle.sheet.specs.Checks.{Checks}
use Rattle.sheet.proofs.Telling.{checks-kept}
use Rattle.std.specs.Prelude.{Some}

-- ---- types
-- t lines are the same, and the next is at a place
pub record Typing (f s : List ℕ) (many t at : ℕ) : Type 0 where
  pub most : t ≤ many
  pub all : many ≡ count f types
  pub ends : EndsAt form.Types s 1 t at
  pub so_far : Passed (type_same f s) t

pub typing-starts : {f : List ℕ} (s : List ℕ) {many : ℕ} → many ≡ count f types → Typing f s many 0 1
typing-starts {f} s e = record { most = omega arith; all = e; ends = no_lines form.Types s 1; so_far = none_yet (type_same f s) }

module _ {f s : List ℕ} {many t at : ℕ} (x : Typing f s many t at) where
  pub typing-there : t < many → {known : List ℕ} {room : ℕ} → Checks f known s room → LineThere form.Types s at
  typing-there h g =
      line-there x.ends (record { there = types-end (found_at f s g.lines g.comparable.found) }) (omega (arith, x.all))

  pub typing-type : t < many → t < count f types
  typing-type h = omega (arith, x.all)

  module _ {e : ℕ} (q : line_end form.Types s at ≡ Some e) {b : Bool} (p : b ≡ type_at f s t at e) where
    type-here : b ≡ type_same f s t
    type-here = p ∙ sym (type-same-at f x.ends q)

    pub typing-on : t < many → b ≡ true → Typing f s many (t + 1) e
    typing-on h r = record { most = omega arith; all = x.all; ends = line-next x.ends q; so_far = passes x.so_far type-here r }

    pub typing-stops : t < many → b ≡ false → false ≡ types_right f s
    unfolding types_right
    typing-stops h r = fails-counted x.so_far h x.all type-here r

  pub typing-all : many ≤ t → true ≡ types_right f s
  unfolding types_right
  typing-all h = all-counted x.so_far h x.most x.all

pub ruleset typing = (rules, not-true, not-false, checks-kept, typing-starts, typing-there, typing-type, typing-on, typing-stops, typing-all)

-- ---- variables
unfoldable pub pair_same : List ℕ → List ℕ → ℕ → ℕ → ℕ → Bool
pair_same f s v c u = variable_same f s v u && completed_same f s c u

and-four : (a b c d : Bool) → (a && c) && (b && d) ≡ (a && b) && (c && d)
and-four true true c d = refl
and-four true false true d = refl
and-four true false false d = refl
and-four false b c d = refl

every_two : (p q : ℕ → Bool) (n : ℕ) → every p n && every q n ≡ every (λ u. p u && q u) n
unfolding every
every_two p q zero = refl
every_two p q (suc n) = and-four (every p n) (every q n) (p n) (q n) ∙ ap (λ (b : Bool). b && (p n && q n)) (every_two p q n)

pairs-right : (f s : List ℕ) (v c : ℕ) → every (pair_same f s v c) (count f variables) ≡ variables_right f s v c
unfolding pair_same variables_right
pairs-right f s v c = sym (every_two (variable_same f s v) (completed_same f s c) (count f variables))

-- u variables' lines are the same, and their next lines are at two places
pub record Pairing (f s : List ℕ) (x : Lines) (many u at from : ℕ) : Type 0 where
  pub most : u ≤ many
  pub all : many ≡ count f variables
  pub found : found_of f s ≡ Some x
  pub ends : EndsAt form.Variables s (x.variables + 1) u at
  pub others : EndsAt form.Completed s (x.completed + 1) u from
  pub so_far : Passed (pair_same f s x.variables x.completed) u

module _ (f s : List ℕ) {x : Lines} (i : found_of f s ≡ Some x) where
  pub pairing-starts : {many : ℕ} → many ≡ count f variables → Pairing f s x many 0 (x.variables + 1) (x.completed + 1)
  pairing-starts e =
      record {
        most = omega arith;
        all = e;
        found = i;
        ends = no_lines form.Variables s (x.variables + 1);
        others = no_lines form.Completed s (x.completed + 1);
        so_far = none_yet (pair_same f s x.variables x.completed);
      }

  pub second_fits : length s < 2 ^ 64 → Fits w64 (x.variables + 1)
  second_fits h = record { fits = omega (arith, (found_at f s x i).variables_there.inside) }

  pub third-fits : length s < 2 ^ 64 → Fits w64 (x.completed + 1)
  third-fits h = record { fits = omega (arith, (found_at f s x i).completed_there.inside) }

module _ {f s : List ℕ} {l : Lines} {many u at from : ℕ} (x : Pairing f s l many u at from) where
  pub pairing-there : u < many → LineThere form.Variables s at
  pairing-there h = line-there x.ends (record { there = variables-end (found_at f s l x.found) }) (omega (arith, x.all))

  pub pairing-other : u < many → LineThere form.Completed s from
  pairing-other h = line-there x.others (record { there = completed-end (found_at f s l x.found) }) (omega (arith, x.all))

  pub pairing-variable : u < many → u < count f variables
  pairing-variable h = omega (arith, x.all)

  module _ {e : ℕ} (q : line_end form.Variables s at ≡ Some e) {d : ℕ} (z : line_end form.Completed s from ≡ Some d) {b : Bool} (p : b ≡ variable_at f s u at e && completed_at f s u from d) where
    pair-here : b ≡ pair_same f s l.variables l.completed u
    unfolding pair_same
    pair-here = rw (variable-same-at f l.variables x.ends q, completed-same-at f l.completed x.others z) p

    pub pairing-on : u < many → b ≡ true → Pairing f s l many (u + 1) e d
    pairing-on h r =
        record {
          most = omega arith;
          all = x.all;
          found = x.found;
          ends = line-next x.ends q;
          others = line-next x.others z;
          so_far = passes x.so_far pair-here r;
        }

    pub pairing-stops : u < many → b ≡ false → false ≡ variables_right f s l.variables l.completed
    pairing-stops h r = fails-counted x.so_far h x.all pair-here r ∙ pairs-right f s l.variables l.completed

  pub pairing-all : many ≤ u → true ≡ variables_right f s l.variables l.completed
  pairing-all h = all-counted x.so_far h x.most x.all ∙ pairs-right f s l.variables l.completed

pub ruleset pairing = (rules, not-true, not-false, checks-kept, pairing-starts, second_fits, third-fits, pairing-there, pairing-other, pairing-variable, pairing-on, pairing-stops, pairing-all)
