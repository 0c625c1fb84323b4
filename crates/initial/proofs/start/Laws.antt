-- The returns of start.rt that computing does not close, and what its calls require. Assumes nothing.
use mathlib.Core.Path.{◌≡◌, ap, sym, subst, ◌∙◌}
use mathlib.Core.Logic.{◌⊎◌, inl, inr}
use mathlib.Core.List.{List}
use Prim.Native.Nat.{ℕ, zero, suc, ◌+◌, ◌*◌, ◌≤◌, ◌<◌, max}
use native.Mathlib.Omega.{arith}
use lib.Dec.{eqb}
use borrow.Author.Rules.{rules}
use Rattle.definition.specs.declared.records.Constant.{Constant}
use Rattle.definition.specs.declared.records.Initializer.{Initializer}
use Rattle.definition.specs.declared.records.Initializer.TheVariants as init
use Rattle.definition.specs.declared.records.Place.{Place}
use Rattle.definition.specs.Ask.{ok, done, result_of, give, nothing}
use Rattle.definition.specs.Base.{pick}
use Rattle.definition.specs.Layout.{word, count, initializers, entries, constants, expressions}
use Rattle.definition.specs.Records.{initializer_at, constant_at}
use Rattle.definition.specs.Scalar.{as_tree, constant_value, enumerated_value}
use Rattle.definition.specs.Parts.{if_stated, enumerated_as, reference_as}
use Rattle.definition.specs.Tree.{flatten, null_tree, reference_tree}
use Rattle.definition.specs.Defaults as Defaults
use Rattle.definition.specs.Starting.{constant_as, default_of, initializer, initializer_by}
use Rattle.laws.specs.Accepted.{Accepted}
use Rattle.laws.specs.Links.{Link, link-to}
use Rattle.laws.specs.Pointed.{ConstantOf, InitializerPointed, initializer-pointed}
use Rattle.laws.specs.Steps.{peek-nothing}
use Rattle.std.specs.Prelude.{None, Option}
use Rattle.build.specs.Built.{Built, Builds}
use Rattle.build.specs.Parts.{start_levels}
use Rattle.gather.proofs.Single.{place-shape}
use Rattle.initial.specs.Stated.{StatedBy, ConstantIn, ArrayIn, MembersIn, members_over, array_or}
use Rattle.initial.specs.Rooms.{entry_levels, init_levels_by, init_levels}
use Rattle.build.proofs.defaults.Laws.{same}

-- ---- room
pub max-left : (at a b n : ℕ) → at + max a b * 12288 ≤ n → at + a * 12288 ≤ n
max-left at a b n h = omega arith

pub max-right : (at a b n : ℕ) → at + max a b * 12288 ≤ n → at + b * 12288 ≤ n
max-right at a b n h = omega arith

module _ (f : List ℕ) (place : Place) (at n : ℕ) where
  start-by : (v : Initializer) → at + init_levels_by f place v * 12288 ≤ n → at + start_levels f place * 12288 ≤ n
  unfolding init_levels_by
  start-by init.Nothing h = h
  start-by init.Interface h = h
  start-by (init.Subrange value) h = h
  start-by (init.Simple value) h = h
  start-by (init.String value long width) h = h
  start-by (init.EnumeratedValues value) h = h
  start-by (init.EnumeratedType value) h = h
  start-by (init.FunctionBlock first many) h = max-left at (start_levels f place) (entry_levels f first many place) n h
  start-by (init.Structure first many) h = max-left at (start_levels f place) (entry_levels f first many place) n h
  start-by (init.Array first many) h = max-left at (start_levels f place) (entry_levels f first many place) n h
  start-by (init.Reference value) h = h
  start-by (init.LateResolved value) h = h
  start-by init.Call h = h
  start-by init.SimpleExpression h = h
  start-by init.StringExpression h = h
  start-by init.Unknown h = h

  module _ (i : ℕ) (h : at + init_levels f i place * 12288 ≤ n) where
    pub start-room : at + start_levels f place * 12288 ≤ n
    unfolding init_levels
    start-room = start-by (initializer_at f i) h

    module _ {v : Initializer} (q : v ≡ initializer_at f i) {first many : ℕ} where
      pub array-room : v ≡ init.Array first many → at + entry_levels f first many place * 12288 ≤ n
      unfolding init_levels init_levels_by
      array-room e = max-right at (start_levels f place) (entry_levels f first many place) n (rw (← q, e) at h)

      pub members-room : (v ≡ init.FunctionBlock first many) ⊎ (v ≡ init.Structure first many) → at + entry_levels f first many place * 12288 ≤ n
      unfolding init_levels init_levels_by
      members-room (inl e) = max-right at (start_levels f place) (entry_levels f first many place) n (rw (← q, e) at h)
      members-room (inr e) = max-right at (start_levels f place) (entry_levels f first many place) n (rw (← q, e) at h)

-- ---- what the file has
pub constants-in : (f : List ℕ) (kind value : ℕ) → Link (ConstantOf f kind) value → ConstantIn f value
constants-in f kind zero p = record { constant = tt }
constants-in f kind (suc c) p = record { constant = p.0 }

module _ {f : List ℕ} (a : Accepted f) {i : ℕ} (l : i < count f initializers) {v : Initializer} (q : v ≡ initializer_at f i) where
  points : {w : Initializer} → v ≡ w → InitializerPointed f w
  points e = subst (InitializerPointed f) (sym q ∙ e) (initializer-pointed f a i l)

  pub string-value : {value long width : ℕ} → v ≡ init.String value long width → ConstantIn f value
  string-value {value} e = constants-in f 8 value (points e)

  pub simple-value : {value : ℕ} → v ≡ init.Simple value → ConstantIn f value
  simple-value e = record { constant = points e }

  pub constant-value : {value : ℕ} → (v ≡ init.Subrange value) ⊎ ((v ≡ init.Simple value) ⊎ ((long : ℕ) × (width : ℕ) × (v ≡ init.String value long width))) → ConstantIn f value
  constant-value {value} (inl e) = constants-in f 1 value (points e)
  constant-value (inr (inl e)) = simple-value e
  constant-value (inr (inr e)) = string-value e.2

  pub array-in : {first many : ℕ} → v ≡ init.Array first many → ArrayIn f first many
  array-in e = let p = points e in record { inside = p.0; entries = p.1 }

  pub members-in : {first many : ℕ} → (v ≡ init.FunctionBlock first many) ⊎ (v ≡ init.Structure first many) → MembersIn f first many
  members-in (inl e) = let p = points e in record { inside = p.0; entries = p.1 }
  members-in (inr e) = let p = points e in record { inside = p.0; entries = p.1 }

  -- a constant that an initializer states
  pub constant-inside : {value c : ℕ} → (v ≡ init.Subrange value) ⊎ ((v ≡ init.Simple value) ⊎ ((long : ℕ) × (width : ℕ) × (v ≡ init.String value long width))) → value ≡ suc c → c < count f constants
  constant-inside {value} {c} e z = link-to (λ c. c < count f constants) value c z (constant-value e).constant

-- ---- what an initializer comes to
module _ (f : List ℕ) (place : Place) (i : ℕ) {v : Initializer} (q : v ≡ initializer_at f i) where
  is-by : {w : Initializer} → v ≡ w → initializer f i place ≡ initializer_by f place w
  unfolding Defaults.initializer
  is-by e = ap (initializer_by f place) (sym q ∙ e)

  module _ {value : ℕ} where
    states-constant : (v ≡ init.Subrange value) ⊎ ((v ≡ init.Simple value) ⊎ ((long : ℕ) × (width : ℕ) × (v ≡ init.String value long width)))
        → initializer f i place ≡ if_stated value (λ u. default_of f place) (constant_as f place)
    unfolding Defaults.initializer_by
    states-constant (inl e) = is-by e
    states-constant (inr (inl e)) = is-by e
    states-constant (inr (inr e)) = is-by e.2

    states-enumerated : (v ≡ init.EnumeratedValues value) ⊎ (v ≡ init.EnumeratedType value) → initializer f i place ≡ if_stated value (λ u. default_of f place) (enumerated_as f place)
    unfolding Defaults.initializer_by
    states-enumerated (inl e) = is-by e
    states-enumerated (inr e) = is-by e

    states-reference : v ≡ init.Reference value → initializer f i place ≡ if_stated value (λ u. default_of f place) (reference_as f)
    unfolding Defaults.initializer_by
    states-reference e = is-by e

    states-late : v ≡ init.LateResolved value → initializer f i place ≡ if_stated value (λ u. default_of f place) (λ c. nothing)
    unfolding Defaults.initializer_by
    states-late e = is-by e

  module _ {index store : List ℕ} {at : ℕ} {old : List ℕ} {r : Built} {new : List ℕ} where
    module _ {answers : ℕ → Option Constant → Type 0} {value : ℕ} (x : StatedBy answers f index store value (default_of f place) at old r new) where
      pub starts-constant : (v ≡ init.Subrange value) ⊎ ((v ≡ init.Simple value) ⊎ ((long : ℕ) × (width : ℕ) × (v ≡ init.String value long width)))
          → ((n : ℕ) (w : Option Constant) → answers n w → as_tree (result_of w) ≡ constant_value f place.shape (constant_at f n)) → Builds f index store flatten (initializer f i place) at old r new
      unfolding Defaults.constant_as
      starts-constant e h = same _ _ (states-constant e) (x.is (constant_as f place) (λ n w z p. ap done (sym (h n w p))))

      pub starts-enumerated : (v ≡ init.EnumeratedValues value) ⊎ (v ≡ init.EnumeratedType value)
          → ((n : ℕ) (w : Option Constant) → answers n w → as_tree (result_of w) ≡ enumerated_value f place.shape (word f entries n 2) (word f entries n 3)) → Builds f index store flatten (initializer f i place) at old r new
      unfolding enumerated_as
      starts-enumerated e h = same _ _ (states-enumerated e) (x.is (enumerated_as f place) (λ n w z p. ap done (sym (h n w p))))

      pub starts-reference : v ≡ init.Reference value
          → ((n : ℕ) (w : Option Constant) → answers n w → as_tree (result_of w) ≡ ok (pick (eqb (word f expressions n 0) 4) null_tree (reference_tree n))) → Builds f index store flatten (initializer f i place) at old r new
      unfolding reference_as give
      starts-reference e h = same _ _ (states-reference e) (x.is (reference_as f) (λ n w z p. ap done (sym (h n w p))))

      pub starts-late : v ≡ init.LateResolved value → ((n : ℕ) (w : Option Constant) → answers n w → w ≡ None) → Builds f index store flatten (initializer f i place) at old r new
      unfolding nothing as_tree
      starts-late e h = same _ _ (states-late e) (x.is (λ c. nothing) (λ n w z p. ap (λ (y : Option Constant). done (as_tree (result_of y))) (sym (h n w p))))

    module _ {first many : ℕ} where
      pub starts-members : (v ≡ init.FunctionBlock first many) ⊎ (v ≡ init.Structure first many) → Builds f index store flatten (members_over f place first many (default_of f place)) at old r new
          → Builds f index store flatten (initializer f i place) at old r new
      unfolding Defaults.initializer_by members_over
      starts-members (inl e) x = same _ _ (is-by e) x
      starts-members (inr e) x = same _ _ (is-by e) x

      pub starts-array : v ≡ init.Array first many → Builds f index store flatten (array_or f place first many (default_of f place)) at old r new → Builds f index store flatten (initializer f i place) at old r new
      unfolding Defaults.initializer_by array_or
      starts-array e x = same _ _ (is-by e) x

pub ruleset laws = (rules, peek-nothing)

pub ruleset asked = (rules, place-shape, start-room, constant-value)
