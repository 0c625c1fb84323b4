-- The returns of parts.rt that computing does not close, and what its calls require. Assumes nothing.
use mathlib.Core.Path.{◌≡◌, refl, ap, sym, ◌∙◌}
use mathlib.Core.Bool.{Bool, true, false}
use mathlib.Core.Logic.{◌⊎◌, inl, inr}
use mathlib.Core.List.{List}
use Prim.Native.Nat.{ℕ, zero, suc, ◌+◌, ◌-◌, ◌*◌, ◌≤◌, ◌<◌}
use native.Mathlib.Omega.{arith}
use lib.Dec.{eqb, ltb}
use lib.ListN.{length, take, set}
use lib.Seq.{take-set-le}
use borrow.Author.Rules.{rules}
use borrow.Author.Tests.{ne_eqb, ltb-true, ltb-false}
use Rattle.definition.specs.declared.records.Place.{Place}
use Rattle.definition.specs.Base.{pick}
use Rattle.definition.specs.Layout.{word, count, elements, variables, initializers}
use Rattle.definition.specs.Tree.{nodes, flatten, flatten_all, most_nodes, tree_words}
use Rattle.definition.specs.Ask.{ok, Outcome, Ask}
use Rattle.definition.specs.Resolve.{Memo}
use Rattle.definition.specs.Peek.{peek}
use Rattle.definition.specs.Places.{field_place}
use Rattle.definition.specs.Parts.{field, is_instance}
use Rattle.definition.specs.Starting.{initializer}
use Rattle.laws.specs.Accepted.{Accepted, element-points}
use Rattle.laws.specs.Depths.{deepest-at}
use Rattle.laws.specs.Steps.{peek-nothing}
use Rattle.laws.specs.Whole.{flatten-length, nodes-some}
use Rattle.tree.proofs.Standing.{named-there}
use Rattle.tree.proofs.Fields.{stands-long}
use Rattle.places.specs.Inside.{PlaceIn, field_found}
use Rattle.definition.specs.Ask.{result_of}
use Rattle.build.specs.declared.built.Unbuilt.{Unbuilt}
use Rattle.build.specs.declared.built.Unbuilt.TheVariants as unbuilt
use Rattle.build.specs.Built.{Built, Builds, Ready}
use Rattle.build.specs.Fields.{NamesField}
use Rattle.build.proofs.Peeks.{then_peek, peek-then, gives-err, EndsAt, gives-ends, built-ends, some-of, none-of}
use Rattle.build.proofs.defaults.Laws.{peek-named, peek-over, one-gives}
use Rattle.initial.specs.Stated.{element_start, variable_start, part_start, is_part, part_ask, BuildsPart, PartIn}
use Rattle.initial.specs.Rooms.{init_levels, variable_levels, element_levels, part_levels, parts_levels}
use Rattle.initial.proofs.Alike.{no_value_lem, at-found, at_none}
use Rattle.build.proofs.defaults.Laws.{same}
use Rattle.std.specs.Prelude.{Err, None, Ok, Option, Some}
use Rattle.std.specs.Prelude as std
use Rattle.std.specs.Option.{ok_or}

-- ---- an element of a structure's declaration
module _ (f : List ℕ) (place : Place) (e : ℕ) {name : ℕ} (q : name ≡ word f elements e 0) (w : Option Place) (h : result_of w ≡ field_place f place name) where
  found-is : result_of w ≡ field_place f place (word f elements e 0)
  found-is = h ∙ ap (field_place f place) q

  module _ {a : std.Result Place Unbuilt} (k : a ≡ ok_or w unbuilt.None) where
    pub element-none : {u : Unbuilt} → a ≡ Err u → {r : Built} → r ≡ Err u → {index store : List ℕ} {at : ℕ} {old : List ℕ} → Builds f index store flatten (part_start f place elements e) at old r old
    unfolding part_start element_start
    element-none i y =
        let n = none-of k i y in
        rw n.1 (no_value_lem (part_start f place elements e) (at_none (initializer f (word f elements e 1)) (field_place f place (word f elements e 0)) (sym found-is ∙ ap result_of n.0)))

    module _ {p : Place} (z : a ≡ Ok p) where
      found_ok : field_place f place (word f elements e 0) ≡ ok p
      found_ok = sym found-is ∙ ap result_of (some-of k z)

      pub element_place_lem : Accepted f → PlaceIn f place → PlaceIn f p
      element_place_lem y i = field_found f y place name i h (some-of k z)

      module _ {i : ℕ} (j : i ≡ word f elements e 1) where
        pub element-at : {index store : List ℕ} {at : ℕ} {old : List ℕ} {r : Built} {new : List ℕ} → Builds f index store flatten (initializer f i p) at old r new
            → Builds f index store flatten (part_start f place elements e) at old r new
        unfolding part_start element_start
        element-at x = same (initializer f i p) (part_start f place elements e) (at-found (initializer f (word f elements e 1)) (field_place f place (word f elements e 0)) found_ok ∙ rw (← j)) x

        levels : part_levels f place elements e ≡ init_levels f i p
        unfolding part_levels element_levels
        levels = rw (found_ok, ← j)

        pub element-room : (at n : ℕ) → at + part_levels f place elements e * 12288 ≤ n → at + init_levels f i p * 12288 ≤ n
        element-room at n y = rw levels at y

pub element-init : (f : List ℕ) (e : ℕ) {i : ℕ} → i ≡ word f elements e 1 → Accepted f → PartIn f elements e → i < count f initializers
element-init f e j a l = rw j (element-points f a e (l.element refl))

pub all-elements : (f : List ℕ) (k : ℕ) → true ≡ is_part f elements k
unfolding is_part
all-elements f k = refl

-- ---- a variable
pub variable-inside : (f : List ℕ) (v : ℕ) → PartIn f variables v → v < count f variables
variable-inside f v i = i.variable (λ z. absurd (omega arith))

module _ (f : List ℕ) (place : Place) (v : ℕ) where
  pub variable-room : (at n : ℕ) → at + part_levels f place variables v * 12288 ≤ n → at + variable_levels f v * 12288 ≤ n
  unfolding part_levels
  variable-room at n h = h

  pub variable-at : {index store : List ℕ} {at : ℕ} {old : List ℕ} {r : Built} {new : List ℕ} → Builds f index store flatten (variable_start f v) at old r new → Builds f index store flatten (part_start f place variables v) at old r new
  unfolding part_start
  variable-at x = x

module _ (f : List ℕ) (v : ℕ) {kind : ℕ} (q : kind ≡ word f variables v 1) where
  by_kind : is_part f variables v ≡ is_instance kind
  unfolding is_part
  by_kind = rw (← q)

  pub variable-listed : (kind ≡ 0) ⊎ ((kind ≡ 1) ⊎ (kind ≡ 4)) → true ≡ is_part f variables v
  unfolding is_instance
  variable-listed (inl e) = sym (by_kind ∙ rw e)
  variable-listed (inr (inl e)) = sym (by_kind ∙ rw e)
  variable-listed (inr (inr e)) = sym (by_kind ∙ rw e)

  pub variable-left_out : (kind ≡ 0 → ⊥) → (kind ≡ 1 → ⊥) → (kind ≡ 4 → ⊥) → false ≡ is_part f variables v
  unfolding is_instance
  variable-left_out a b c = sym (by_kind ∙ rw (ne_eqb kind 0 a, ne_eqb kind 1 b, ne_eqb kind 4 c))

-- ---- `part_field`
module _ (f : List ℕ) (place : Place) (section k : ℕ) {name : ℕ} (w : name ≡ word f section k 0) where
  peek-part : (M : Memo) (size : ℕ) → peek M (part_ask f place section k size) ≡ then_peek (peek M (part_start f place section k)) (λ t. peek M (field size name t))
  unfolding part_ask
  peek-part M size = peek-then M (part_start f place section k) (field size (word f section k 0)) ∙ rw (← w)

  module _ {index store : List ℕ} {at to : ℕ} {old : List ℕ} {r : Built} {mid : List ℕ} where
    -- what `?` hands on
    pub part-fails : {u : Unbuilt} → Builds f index store flatten (part_start f place section k) to old (Err u) mid → r ≡ Err u → BuildsPart f index store place section k at to old r mid
    part-fails x q =
        record {
          gives = λ size u M m. rw (peek-part M size) (gives-err flatten_all to mid (peek M (part_start f place section k)) (x.gives M m) _ q);
          ends = λ e z. let n : ◌≡◌ {A = ℕ} 0 1 = cc in absurd (omega arith);
          kept = x.kept;
        }

    module _ (x : Builds f index store flatten (part_start f place section k) to old r mid) {end : ℕ} (q : r ≡ Ok end) (h : at ≤ to) (l : to ≤ end) {r' : Built} {new : List ℕ} (y : NamesField at to end name mid r' new) where
      pub part-all : BuildsPart f index store place section k at to old r' new
      part-all = go (ltb tree_words (end - at)) refl y.says y.is
        where
          go : (b : Bool) → ltb tree_words (end - at) ≡ b → r' ≡ pick b (Err unbuilt.TooLarge) (Ok end) → new ≡ pick b mid (set mid to name) → BuildsPart f index store place section k at to old r' new
          go true t s d =
              record {
                gives = λ size u M m.
                    let v = gives-ends (peek M (part_start f place section k)) (x.gives M m) q in
                    let c = stands-long mid to v.value end v.stands in
                    let g : most_nodes < suc (size + nodes v.value) = omega (arith, ltb-true tree_words (end - at) t) in
                    rw (peek-part M size, v.is, peek-over M size name v.value g) (record { says = s; stands = tt });
                ends = λ e z. let z : ◌≡◌ {A = ℕ} 0 1 = cc in absurd (omega arith);
                kept = ap (take to) d ∙ x.kept;
              }
          go false t s d =
              record {
                gives = λ size u M m.
                    let v = gives-ends (peek M (part_start f place section k)) (x.gives M m) q in
                    let c = stands-long mid to v.value end v.stands in
                    let g : suc (size + nodes v.value) ≤ most_nodes = omega (arith, ltb-false tree_words (end - at) t) in
                    rw (peek-part M size, v.is, peek-named M size name v.value g, s) (one-gives to name v.value end new (named-there mid to v.value end name v.stands d));
                ends = λ e z. let c : end ≡ e = cc in (omega arith, omega (arith, ltb-false tree_words (end - at) t));
                kept = ap (take to) d ∙ take-set-le to mid to name (omega arith) ∙ x.kept;
              }

-- where a default ends, a tree stands
module _ {f classes index store : List ℕ} (y : Ready f classes index store)
    {m : Ask Outcome} {to : ℕ} {old : List ℕ} {r : Built} {new : List ℕ} (x : Builds f index store flatten m to old r new) {end : ℕ} (q : r ≡ Ok end) where
  there : EndsAt flatten (peek y.memo m) to end new
  there = built-ends x y.memory q

  pub part-after : to ≤ end
  part-after = omega (arith, there.ends)

  pub part-inside : to < length new
  part-inside = let s = stands-long new to there.value end there.stands in omega (arith, there.stands.fits, there.stands.long, flatten-length there.value, nodes-some there.value)

-- ---- `parts`
pub parts-room : (f : List ℕ) (place : Place) (section first many at n k to : ℕ) → at + parts_levels f place section first many * 12288 ≤ n → first ≤ k → k < first + many → to ≤ at + 12288
    → to + part_levels f place section k * 12288 ≤ n
unfolding parts_levels
parts-room f place section first many at n k to h l b t =
    omega (arith, deepest-at (part_levels f place section) first many k l b)

pub parts-head : (f : List ℕ) (place : Place) (section first many at n : ℕ) → at + parts_levels f place section first many * 12288 ≤ n → at + 6 ≤ n
unfolding parts_levels
parts-head f place section first many at n h = omega arith

pub ruleset laws =
    (rules, peek-nothing, element-init, all-elements, variable-inside, variable-room, variable-at, variable-listed, variable-left_out, part-after, part-inside)
