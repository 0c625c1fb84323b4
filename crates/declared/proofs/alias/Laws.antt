-- The returns of alias.rt that computing does not close, and what its calls require. Assumes nothing.
use borrow.Enum.Refused.{opened}
use mathlib.Core.Path.{◌≡◌, refl, ap, sym, subst, ◌∙◌}
use mathlib.Core.Logic.{◌⊎◌, inl, inr}
use mathlib.Core.List.{List}
use Prim.Native.Nat.{ℕ, suc, ◌+◌, ◌-◌, ◌*◌, ◌≤◌, ◌<◌}
use native.Mathlib.Omega.{arith}
use lib.ListN.{length}
use borrow.Author.Rules.{rules}
use borrow.Author.Tests.{ne_eqb}
use Rattle.definition.specs.declared.records.Constant.{Constant}
use Rattle.definition.specs.declared.records.Initializer.{Initializer}
use Rattle.definition.specs.declared.records.Initializer.TheVariants as init
use Rattle.definition.specs.declared.records.Place.{Place}
use Rattle.definition.specs.Base.{on_link}
use Rattle.definition.specs.Layout.{word, count, initializers}
use Rattle.definition.specs.Records.{initializer_at, constant_at, named_type}
use Rattle.definition.specs.Scalar.{as_tree, constant_value}
use Rattle.definition.specs.Tree.{flatten}
use Rattle.definition.specs.Ask.{ok, none, large, Outcome, Ask, done, result_of, give, nothing, type_default}
use Rattle.definition.specs.Resolve.{Memo}
use Rattle.definition.specs.Peek.{Peek, got, wants, peek}
use Rattle.definition.specs.Parts.{if_stated, name_default}
use Rattle.definition.specs.Defaults as Defaults
use Rattle.definition.specs.Starting.{alias_default_by, constant_as, implicit, spec_default, over_base, subrange_default}
use Rattle.laws.specs.Links.{Link, Naming, link-to}
use Rattle.laws.specs.Used.{IsType}
use Rattle.laws.specs.Peeking.{on_got, peek-bind}
use Rattle.laws.specs.Steps.{peek-done, peek-give, peek-nothing}
use Rattle.places.proofs.field.Laws.{linked-type}
use Rattle.std.specs.Prelude.{Err, None, Ok, Option, Some}
use Rattle.std.specs.Prelude as std
use Rattle.std.specs.Option.{SomeIff, ok_or}
use Rattle.build.specs.declared.built.Unbuilt.{Unbuilt}
use Rattle.build.specs.declared.built.Unbuilt.TheVariants as unbuilt
use Rattle.build.specs.Built.{Built, Gives, Builds}
use Rattle.build.specs.Leaves.{PutsLeaf}
use Rattle.build.specs.Parts.{implicit_levels}
use Rattle.build.proofs.Peeks.{some-of, none-of, link-some, link-none}
use Rattle.build.proofs.defaults.Laws.{same, tree-room}
use Rattle.gather.proofs.Single.{place-shape}
use Rattle.initial.specs.Stated.{alias_default, simple_default, base_default, members_over, AliasIn, SpecIn, StartIn, Over}
use Rattle.initial.specs.Rooms.{entry_levels, alias_levels_by, alias_levels, simple_levels}
use Rattle.initial.proofs.Alike.{no_value_lem}
use Rattle.initial.proofs.stated.Laws.{implicit-some, constant-in, stated, unstated}
use Rattle.initial.proofs.start.Laws.{max-left, max-right, simple-value, string-value, array-in, members-in}

-- ---- room
module _ (f : List ℕ) (place : Place) (at n : ℕ) where
  implicit-by : (v : Initializer) → at + alias_levels_by f place v * 12288 ≤ n → at + implicit_levels f place * 12288 ≤ n
  unfolding alias_levels_by
  implicit-by init.Nothing h = h
  implicit-by init.Interface h = h
  implicit-by (init.Subrange value) h = h
  implicit-by (init.Simple value) h = h
  implicit-by (init.String value long width) h = h
  implicit-by (init.EnumeratedValues value) h = h
  implicit-by (init.EnumeratedType value) h = h
  implicit-by (init.FunctionBlock first many) h = max-left at (implicit_levels f place) (entry_levels f first many place) n h
  implicit-by (init.Structure first many) h = max-left at (implicit_levels f place) (entry_levels f first many place) n h
  implicit-by (init.Array first many) h = max-left at (implicit_levels f place) (entry_levels f first many place) n h
  implicit-by (init.Reference value) h = h
  implicit-by (init.LateResolved value) h = h
  implicit-by init.Call h = h
  implicit-by init.SimpleExpression h = h
  implicit-by init.StringExpression h = h
  implicit-by init.Unknown h = h

  module _ (i : ℕ) (h : at + alias_levels f i place * 12288 ≤ n) where
    pub implicit-room : at + implicit_levels f place * 12288 ≤ n
    unfolding alias_levels
    implicit-room = implicit-by (initializer_at f i) h

    pub alias-tree : at + 12288 ≤ n
    alias-tree = tree-room f place at n implicit-room

    module _ {v : Initializer} (q : v ≡ initializer_at f i) {first many : ℕ} where
      pub array-room : v ≡ init.Array first many → at + entry_levels f first many place * 12288 ≤ n
      unfolding alias_levels alias_levels_by
      array-room e = max-right at (implicit_levels f place) (entry_levels f first many place) n (rw (← q, e) at h)

      pub members-room : (v ≡ init.FunctionBlock first many) ⊎ (v ≡ init.Structure first many) → at + entry_levels f first many place * 12288 ≤ n
      unfolding alias_levels alias_levels_by
      members-room (inl e) = max-right at (implicit_levels f place) (entry_levels f first many place) n (rw (← q, e) at h)
      members-room (inr e) = max-right at (implicit_levels f place) (entry_levels f first many place) n (rw (← q, e) at h)

-- ---- names
module _ {f : List ℕ} {i : ℕ} (l : AliasIn f i) where
  pub alias-inside : i < count f initializers
  alias-inside = l.inside

  module _ {name : ℕ} (w : name ≡ word f initializers i 1) where
    pub alias-spec : SpecIn f name
    unfolding named_type
    alias-spec = rw w l.spec

    module _ {v : Initializer} (q : v ≡ initializer_at f i) where
      linked : {u : Initializer} → v ≡ u → Naming u → Link (IsType f) name
      unfolding named_type
      linked e k = rw w (l.named (subst Naming (sym e ∙ q) k))

      pub simple-linked : {value : ℕ} → v ≡ init.Simple value → Link (IsType f) name
      simple-linked e = linked e tt

      pub members-linked : {first many : ℕ} → (v ≡ init.FunctionBlock first many) ⊎ (v ≡ init.Structure first many) → Link (IsType f) name
      members-linked (inl e) = linked e tt
      members-linked (inr e) = linked e tt

-- ---- `over_base`
own-is : (f : List ℕ) (place : Place) (c : ℕ) (v : Option Constant) → as_tree (result_of v) ≡ constant_value f place.shape (constant_at f c) → constant_as f place c ≡ done (as_tree (result_of v))
unfolding Defaults.constant_as
own-is f place c v h = ap done (sym h)

module _ {f : List ℕ} {place : Place} {start at : ℕ} {old : List ℕ} where
  pub over_none : (base : Built) → start ≡ 0 → Over f place start at base old base old
  over_none base e = record { gives = go; kept = refl }
    where
      go : (M : Memo) (p : Peek Outcome) → Gives flatten p at base old → Gives flatten (on_got p (λ o. peek M (over_base f place start o))) at base old
      go M (got (ok t)) h = rw (e, peek-give M t) h
      go M (got none) h = rw (e, peek-nothing M) h
      go M (got large) h = let o : Outcome = large in rw (peek-done M o) h
      go M (wants d) h = h

  pub over-unstated : (base : Built) (o : Option ℕ) → SomeIff o (1 ≤ start) (start - 1) → ((c : ℕ) → o ≡ Some c → ⊥) → Over f place start at base old base old
  over-unstated base None q n = over_none base (link-none {o = None} q refl)
  over-unstated base (Some c) q n = absurd (n c refl)

  pub over-large : (base : Built) → base ≡ Err unbuilt.TooLarge → Over f place start at base old (Err unbuilt.TooLarge) old
  over-large base e = record { gives = go; kept = refl }
    where
      go : (M : Memo) (p : Peek Outcome) → Gives flatten p at base old → Gives flatten (on_got p (λ o. peek M (over_base f place start o))) at (Err unbuilt.TooLarge) old
      go M (got (ok t)) h = let s = h.says in let z : ◌≡◌ {A = ℕ} 0 1 = cc in absurd (omega arith)
      go M (got none) h = let s = h.says in let z : ◌≡◌ {A = ℕ} 0 1 = cc in absurd (omega arith)
      go M (got large) h = let o : Outcome = large in rw (peek-done M o) (record { says = refl; stands = tt })
      go M (wants d) h = let s = h.says in let z : ◌≡◌ {A = ℕ} 0 1 = cc in absurd (omega arith)

  pub over-wanted : (base : Built) {d : ℕ} → base ≡ Err (unbuilt.Wanted d) → Over f place start at base old (Err (unbuilt.Wanted d)) old
  over-wanted base {d} e = record { gives = go; kept = refl }
    where
      go : (M : Memo) (p : Peek Outcome) → Gives flatten p at base old → Gives flatten (on_got p (λ o. peek M (over_base f place start o))) at (Err (unbuilt.Wanted d)) old
      go M (got (ok t)) h = let s = h.says in let z : ◌≡◌ {A = ℕ} 0 1 = cc in absurd (omega arith)
      go M (got none) h = let s = h.says in let z : ◌≡◌ {A = ℕ} 0 1 = cc in absurd (omega arith)
      go M (got large) h = let s = h.says in let z : ◌≡◌ {A = ℕ} 0 1 = cc in absurd (omega arith)
      go M (wants c) h = record { says = sym e ∙ h.says; stands = tt }

  module _ (base : Built) {o : Option ℕ} (q : SomeIff o (1 ≤ start) (start - 1)) {c : ℕ} (e : o ≡ Some c) (l : base ≡ Err unbuilt.TooLarge → ⊥) (w : (d : ℕ) → base ≡ Err (unbuilt.Wanted d) → ⊥)
      {v : Option Constant} (h : as_tree (result_of v) ≡ constant_value f place.shape (constant_at f c)) (b : at + 6 ≤ length old) {r : Built} {new : List ℕ} (x : PutsLeaf v at old r new) where
    pub over-own : Over f place start at base old r new
    over-own = record { gives = go; kept = x.kept }
      where
        own : (M : Memo) (other : Unit {0} → Ask Outcome) → Gives flatten (peek M (if_stated start other (constant_as f place))) at r new
        own M other = rw (link-some q e, own-is f place c v h, peek-done M (as_tree (result_of v))) (x.gives b)

        go : (M : Memo) (p : Peek Outcome) → Gives flatten p at base old → Gives flatten (on_got p (λ o. peek M (over_base f place start o))) at r new
        go M (got (ok t)) y = own M (λ u. give t)
        go M (got none) y = own M (λ u. nothing)
        go M (got large) y = absurd (l y.says)
        go M (wants d) y = absurd (w d y.says)

-- ---- `subrange_default`
module _ (f : List ℕ) (place : Place) (name start : ℕ) where
  pub subrange-over : {index store : List ℕ} {at : ℕ} {old : List ℕ} {base : Built} {mid : List ℕ} {r : Built} {new : List ℕ} → (name ≡ 0 → ⊥)
      → Builds f index store flatten (spec_default f place name) at old base mid → Over f place start at base mid r new → Builds f index store flatten (subrange_default f place name start) at old r new
  unfolding Defaults.subrange_default
  subrange-over n x y =
      record {
        gives = λ M m. rw (ne_eqb name 0 n, peek-bind M (spec_default f place name) (over_base f place start)) (y.gives M (peek M (spec_default f place name)) (x.gives M m));
        kept = y.kept ∙ x.kept;
      }

-- ---- `alias_default`
module _ (f : List ℕ) (place : Place) (i : ℕ) {v : Initializer} (q : v ≡ initializer_at f i) where
  is-by : {u : Initializer} → v ≡ u → alias_default f i place ≡ alias_default_by f place i u
  unfolding alias_default
  is-by e = ap (alias_default_by f place i) (sym q ∙ e)

  module _ {name : ℕ} (w : name ≡ word f initializers i 1) {index store : List ℕ} {at : ℕ} {old : List ℕ} {r : Built} {new : List ℕ} where
    pub alias-simple : {value : ℕ} → v ≡ init.Simple value → Builds f index store flatten (if_stated value (λ u. name_default name) (constant_as f place)) at old r new → Builds f index store flatten (alias_default f i place) at old r new
    unfolding Defaults.alias_default_by named_type
    alias-simple {value} e x = same _ _ (is-by e) (rw w at x)

    pub alias-members : {first many : ℕ} → (v ≡ init.FunctionBlock first many) ⊎ (v ≡ init.Structure first many) → Builds f index store flatten (members_over f place first many (name_default name)) at old r new
        → Builds f index store flatten (alias_default f i place) at old r new
    unfolding Defaults.alias_default_by named_type members_over
    alias-members (inl e) x = same _ _ (is-by e) (rw w at x)
    alias-members (inr e) x = same _ _ (is-by e) (rw w at x)

-- ---- `base_default`
module _ (f : List ℕ) (place : Place) (base : ℕ) {o : Option ℕ} (q : SomeIff o (1 ≤ base) (base - 1)) where
  pub base-type : {t : ℕ} → o ≡ Some t → Link (IsType f) base → IsType f t
  base-type {t} e l = link-to (IsType f) base t (link-some q e) l

  module _ {index store : List ℕ} {at : ℕ} {old : List ℕ} {r : Built} {new : List ℕ} where
    pub base-typed : {t : ℕ} → o ≡ Some t → Builds f index store flatten (type_default t) at old r new → Builds f index store flatten (base_default f place base) at old r new
    unfolding base_default
    base-typed e x = stated base q (implicit f place) type_default e x

    pub base-implicit : o ≡ None → Builds f index store flatten (implicit f place) at old r new → Builds f index store flatten (base_default f place base) at old r new
    unfolding base_default
    base-implicit e x = unstated base q (implicit f place) type_default e x

-- ---- `simple_default`
module _ (f : List ℕ) (place : Place) (start : ℕ) (o : Option ℕ) (q : SomeIff o (1 ≤ start) (start - 1)) {a : std.Result ℕ Unbuilt} (k : a ≡ ok_or o unbuilt.None) where
  module _ {index store : List ℕ} {at : ℕ} {old : List ℕ} {r : Built} where
    pub simple-none : {u : Unbuilt} → a ≡ Err u → r ≡ Err u → Builds f index store flatten (simple_default f place start) at old r old
    unfolding simple_default
    simple-none i e = let n = none-of k i e in rw n.1 (no_value_lem (simple_default f place start) (ap (λ (l : ℕ). on_link l nothing (λ i. alias_default f i place)) (link-none q n.0)))

  module _ {i : ℕ} (e : a ≡ Ok i) where
    spent : start ≡ suc i
    spent = link-some q (some-of k e)

    pub simple-room : (at n : ℕ) → at + simple_levels f start place * 12288 ≤ n → at + alias_levels f i place * 12288 ≤ n
    unfolding simple_levels
    simple-room at n h =
        let s : on_link start 1 (λ i. alias_levels f i place) ≡ alias_levels f i place = ap (λ (l : ℕ). on_link l 1 (λ i. alias_levels f i place)) spent in
        rw s at h

    pub simple-in : StartIn f start → AliasIn f i
    simple-in s =
        let n : start ≡ 0 → ⊥ = λ z. omega (arith, z, spent) in
        let d : start - 1 ≡ i = omega (arith, spent) in
        rw d at s.alias n

    pub simple-some : {index store : List ℕ} {at : ℕ} {old : List ℕ} {r : Built} {new : List ℕ} → Builds f index store flatten (alias_default f i place) at old r new → Builds f index store flatten (simple_default f place start) at old r new
    unfolding simple_default
    simple-some x = same (alias_default f i place) (simple_default f place start) (ap (λ (l : ℕ). on_link l nothing (λ i. alias_default f i place)) spent) x

pub ruleset laws =
    (rules, opened, peek-nothing, place-shape, constant-in, linked-type, implicit-some, tree-room, alias-inside, alias-spec, over-large, over-wanted)

pub ruleset asked =
    (rules, place-shape, constant-in, linked-type, simple-value, string-value, implicit-some, tree-room, implicit-room, alias-tree, array-room, members-room, array-in, members-in, alias-inside, alias-spec, simple-linked, members-linked, subrange-over)
