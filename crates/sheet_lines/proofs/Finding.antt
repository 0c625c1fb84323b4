-- What `find_lines` answers at each return. Assumes nothing.
use mathlib.Core.Path.{◌≡◌}
use mathlib.Core.List.{List}
use Prim.Native.Nat.{ℕ}
use lib.ListN.{length}
use borrow.Author.Rules.{rules}
use borrow.Author.Tests.{eq-eqb, ne_eqb}
use Rattle.definition.specs.Layout.{count, types, variables}
use Rattle.sheet_lines.specs.declared.ends.Form.TheVariants as form
use Rattle.sheet_lines.specs.Ends.{section_end}
use Rattle.sheet_lines.specs.Found.{lines, last_of, variables_of, found_of}
use Rattle.std.specs.Prelude.{None, Option, Some}

module _ (f s : List ℕ) {n m : ℕ} (k : n ≡ count f types) (l : m ≡ count f variables) {x : Option ℕ} (p : x ≡ section_end form.Types s n 0) where
  pub first-not : x ≡ None → None ≡ found_of f s
  unfolding found_of
  first-not h = rw (← k, ← p, h)

  module _ {v : ℕ} (i : x ≡ Some v) {y : Option ℕ} (q : y ≡ section_end form.Variables s m v) where
    pub second-not : y ≡ None → None ≡ found_of f s
    unfolding found_of variables_of
    second-not h = rw (← k, ← p, i, ← l, ← q, h)

    module _ {c : ℕ} (j : y ≡ Some c) {z : Option ℕ} (r : z ≡ section_end form.Completed s m c) where
      pub last-not : z ≡ None → None ≡ found_of f s
      unfolding found_of variables_of last_of
      last-not h = rw (← k, ← p, i, ← l, ← q, j, ← r, h)

      module _ {e : ℕ} (g : z ≡ Some e) where
        pub last-so : e ≡ length s → Some (lines v c) ≡ found_of f s
        unfolding found_of variables_of last_of
        last-so h = rw (← k, ← p, i, ← l, ← q, j, ← r, g, eq-eqb e (length s) h)

        pub last_more : (e ≡ length s → ⊥) → None ≡ found_of f s
        unfolding found_of variables_of last_of
        last_more h = rw (← k, ← p, i, ← l, ← q, j, ← r, g, ne_eqb e (length s) h)

pub ruleset finds = (rules, first-not, second-not, last-not, last-so, last_more)
