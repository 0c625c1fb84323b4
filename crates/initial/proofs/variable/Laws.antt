-- The returns of variable.rt that computing does not close, and what its calls require. Assumes nothing.
use mathlib.Core.Path.{◌≡◌, ap, ◌∙◌}
use mathlib.Core.Bool.{Bool, false, ◌||◌}
use mathlib.Core.List.{List}
use Prim.Native.Nat.{ℕ, ◌+◌, ◌*◌, ◌≤◌, ◌<◌}
use lib.Dec.{eqb}
use borrow.Author.Rules.{rules}
use Rattle.definition.specs.declared.records.Place.{Place}
use Rattle.definition.specs.Layout.{word, count, variables, initializers}
use Rattle.definition.specs.Tree.{flatten}
use Rattle.definition.specs.Ask.{done, ◌>>=◌}
use Rattle.definition.specs.Places.{variable_place}
use Rattle.definition.specs.Defaults as Defaults
use Rattle.definition.specs.Starting.{initializer, declaration}
use Rattle.laws.specs.Accepted.{Accepted, variable-points}
use Rattle.places.specs.Inside.{PlaceIn, variable-found}
use Rattle.definition.specs.Ask.{result_of}
use Rattle.laws.specs.Steps.{peek-nothing}
use Rattle.build.specs.declared.built.Unbuilt.{Unbuilt}
use Rattle.build.specs.declared.built.Unbuilt.TheVariants as unbuilt
use Rattle.build.proofs.Peeks.{some-of, none-of}
use Rattle.build.specs.Built.{Built, Builds}
use Rattle.initial.specs.Rooms.{init_levels, variable_levels}
use Rattle.initial.proofs.Alike.{no_value_lem, at-found, at_none}
use Rattle.build.proofs.defaults.Laws.{same}
use Rattle.std.specs.Prelude.{Err, Ok, Option}
use Rattle.std.specs.Prelude as std
use Rattle.std.specs.Option.{ok_or}

pub variable-init : (f : List ℕ) (v : ℕ) {i : ℕ} → i ≡ word f variables v 3 → Accepted f → v < count f variables → i < count f initializers
variable-init f v q y l = rw q (variable-points f y v l).1

-- ---- `declaration`
module _ (f : List ℕ) (v : ℕ) {i : ℕ} (q : i ≡ word f variables v 3) (w : Option Place) (k : result_of w ≡ variable_place f v i) where
  module _ {b : Bool} (o : b ≡ (eqb (word f variables v 1) 2 || eqb (word f variables v 1) 3)) (e : b ≡ false) where
    inside : declaration f v ≡ done (result_of w) >>= initializer f i
    unfolding Defaults.declaration
    inside = rw (← o, e, ← q, ← k)

    module _ {a : std.Result Place Unbuilt} (h : a ≡ ok_or w unbuilt.None) where
      pub declared-none : {u : Unbuilt} → a ≡ Err u → {r : Built} → r ≡ Err u → {index store : List ℕ} {at : ℕ} {old : List ℕ} → Builds f index store flatten (declaration f v) at old r old
      declared-none j y =
          let n = none-of h j y in
          rw n.1 (no_value_lem (declaration f v) (inside ∙ at_none (initializer f i) (result_of w) (ap result_of n.0)))

      pub declared-at : {p : Place} → a ≡ Ok p → {index store : List ℕ} {at : ℕ} {old : List ℕ} {r : Built} {new : List ℕ} → Builds f index store flatten (initializer f i p) at old r new → Builds f index store flatten (declaration f v) at old r new
      declared-at {p} z x = same (initializer f i p) (declaration f v) (inside ∙ at-found (initializer f i) (result_of w) (ap result_of (some-of h z))) x

  module _ {a : std.Result Place Unbuilt} (h : a ≡ ok_or w unbuilt.None) {p : Place} (z : a ≡ Ok p) where
    pub variable-place : Accepted f → v < count f variables → PlaceIn f p
    variable-place y l = variable-found f y v i (variable-points f y v l).0 (variable-init f v q y l) k (some-of h z)

    levels : variable_levels f v ≡ init_levels f i p
    unfolding variable_levels
    levels = let e = some-of h z in rw (← q, ← k, e)

    pub variable-room : (at n : ℕ) → at + variable_levels f v * 12288 ≤ n → at + init_levels f i p * 12288 ≤ n
    variable-room at n y = rw levels at y

pub ruleset laws = (rules, peek-nothing)
