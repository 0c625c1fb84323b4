-- Type lines tested one after the other. Assumes nothing.
use mathlib.Core.Path.{◌≡◌, ap, sym, ◌∙◌}
use mathlib.Core.Bool.{Bool, true, false}
use mathlib.Core.List.{List}
use Prim.Native.Nat.{ℕ, ◌+◌, ◌^◌, ◌≤◌, ◌<◌}
use native.Mathlib.Omega.{arith}
use lib.Dec.{eqb}
use lib.ListN.{length, get_or}
use borrow.Author.Rules.{rules}
use borrow.Author.Tests.{not-true, not-false, eq-eqb, ne_eqb, le-leb, lt-leb}
use mir.Syntax.{w64}
use mir.Val.{Fits}
use Rattle.definition.specs.Base.{every}
use Rattle.definition.specs.Tree.{most_nodes}
use Rattle.records.proofs.Scanning.{Passed, none_yet, all-passed, passes, fails}
use Rattle.sheet_lines.specs.declared.ends.Form.TheVariants.{Types}
use Rattle.sheet_lines.specs.Ends.{head_words, line_end}
use Rattle.sheet_lines.specs.There.{LineThere, LinesThere}
use Rattle.sheet_lines.specs.Small.{small_line, small_at}
use Rattle.sheet_lines.proofs.Ending.{EndsAt, no_lines}
use Rattle.sheet_lines.proofs.Shapes.{there-shape, line-there, line-next, place_is}
use Rattle.std.specs.Prelude.{Some}

-- ---- one line
module _ (s : List ℕ) (at : ℕ) {a : ℕ} (p : a ≡ get_or s (at + 1) 0) where
  pub small-other : (a ≡ 0 → ⊥) → true ≡ small_line s at
  unfolding small_line
  small-other n = rw (← p, ne_eqb a 0 n)

  module _ (z : a ≡ 0) {b : ℕ} (q : b ≡ get_or s (at + 2) 0) where
    pub small-long : most_nodes < b → false ≡ small_line s at
    unfolding small_line
    small-long h = rw (← p, eq-eqb a 0 z, ← q, lt-leb b most_nodes h)

    pub small-tree : b ≤ most_nodes → {c : ℕ} → c ≡ get_or s (at + 3) 0 → eqb c 0 ≡ small_line s at
    unfolding small_line
    small-tree h r = rw (← p, eq-eqb a 0 z, ← q, le-leb b most_nodes h, ← r)

module _ {s : List ℕ} {at : ℕ} (x : LineThere Types s at) (h : length s < 2 ^ 64) where
  head-inside : at + 3 ≤ length s
  unfolding head_words
  head-inside = omega (arith, (there-shape x).within)

  pub first_fits : Fits w64 (at + 1)
  first_fits = record { fits = omega (arith, head-inside) }

  pub second_fits : Fits w64 (at + 2)
  second_fits = record { fits = omega (arith, head-inside) }

  pub third-fits : Fits w64 (at + 3)
  third-fits = record { fits = omega (arith, head-inside) }

pub ruleset sizes = (rules, first_fits, second_fits, third-fits, small-other, small-long, small-tree)

-- ---- the loop
pub record Sizing (s : List ℕ) (many t place : ℕ) : Type 0 where
  pub most : t ≤ many
  pub all : LinesThere Types s many 1
  pub ends : EndsAt Types s 1 t place
  pub so_far : Passed (small_at s) t

pub size-starts : {s : List ℕ} {many : ℕ} → LinesThere Types s many 1 → Sizing s many 0 1
size-starts {s} x = record { most = omega arith; all = x; ends = no_lines Types s 1; so_far = none_yet (small_at s) }

module _ {s : List ℕ} {many t place : ℕ} (x : Sizing s many t place) where
  pub size-there : t < many → LineThere Types s place
  size-there h = line-there x.ends x.all h

  here : small_line s place ≡ small_at s t
  unfolding small_at
  here = ap (small_line s) (sym (place_is x.ends))

  pub size-on : t < many → {b : Bool} → b ≡ small_line s place → b ≡ true → {e : ℕ} → line_end Types s place ≡ Some e → Sizing s many (t + 1) e
  size-on h p q r = record { most = omega arith; all = x.all; ends = line-next x.ends r; so_far = passes x.so_far (p ∙ here) q }

  pub size-stops : t < many → {b : Bool} → b ≡ small_line s place → b ≡ false → false ≡ every (small_at s) many
  size-stops h p q = fails x.so_far (p ∙ here) q many h

  pub size-all : many ≤ t → true ≡ every (small_at s) many
  size-all h = all-passed x.so_far many x.most h

pub ruleset sizing = (rules, not-true, not-false, size-starts, size-there, size-on, size-stops, size-all)
