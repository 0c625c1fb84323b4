-- A law for each return of field.rt, and what its calls require. Assumes nothing.
use mathlib.Core.Path.{◌≡◌, refl, ap, sym, ◌∙◌}
use mathlib.Core.List.{List}
use Prim.Native.Nat.{ℕ, suc, ◌+◌, ◌-◌, ◌^◌, ◌<◌}
use native.Mathlib.Omega.{arith}
use lib.Dec.{lit<}
use borrow.Author.Rules.{rules}
use borrow.Author.Tests.{eq-eqb, ne_eqb}
use Rattle.std.specs.Prelude.{Option}
use Rattle.definition.specs.declared.records.Shape.{Shape}
use Rattle.definition.specs.declared.records.Shape.TheVariants as shape
use Rattle.definition.specs.declared.records.Place.{Place}
use Rattle.definition.specs.Base.{on_link, inline}
use Rattle.definition.specs.Layout.{word, count, shapes, shape_fields, variables, initializers, most_records, limits_of_records}
use Rattle.definition.specs.Records.{shape_at, initializer_kind}
use Rattle.definition.specs.Ask.{Result, ok, none}
use Rattle.definition.specs.Shapes.{on_shape}
use Rattle.definition.specs.Places.{bare, place_of, typed_place, first_named, block_field_type, field_declaration, declared_type, declared_element, structure_field_place, field_place, string_place, variable_place}
use Rattle.definition.specs.Uses.{initializer_uses}
use Rattle.laws.specs.Pointed.{named-of}
use Rattle.laws.specs.Cases.{on-link}
use Rattle.laws.specs.Every.{Each}
use Rattle.laws.specs.Links.{Link, link-to, declared-type}
use Rattle.laws.specs.Accepted.{Accepted, count_most}
use Rattle.laws.specs.Nearby.{declared-field}
use Rattle.laws.specs.Used.{IsType, leads-inside}
use Rattle.places.specs.Found.{linked_place, structure_field, block_field, string_of}
use Rattle.places.specs.Inside.{PlaceIn, FieldsIn, structure-fields}
use Rattle.places.specs.Links.{link_of}
use Rattle.places.proofs.Others.{NoFields, no_fields}

-- ---- types of a place
pub linked-type : (f : List ℕ) (l : ℕ) → Link (IsType f) l → (l ≡ 0 → ⊥) → IsType f (l - 1)
linked-type f l h n = link-to (IsType f) l (l - 1) (let z : l ≡ suc (l - 1) = omega (arith, n) in z) h

pub place-linked : {f : List ℕ} {place : Place} → PlaceIn f place → Link (IsType f) place.id
place-linked i = i.types.type

-- the type that a link leads to
pub led-type : (f : List ℕ) {l : ℕ} → Link (IsType f) l → {t : ℕ} → suc t ≡ l → IsType f t
led-type f {l} h {t} z = link-to (IsType f) l t (sym z) h

-- ---- `place_declaration`
module _ (f : List ℕ) (place : Place) (name : ℕ) where
  pub no_type : 0 ≡ place.id → 0 ≡ on_link place.id 0 (field_declaration f name)
  no_type z = rw (← z)

  pub a_type : {t : ℕ} → suc t ≡ place.id → (r : Option ℕ) → link_of r ≡ field_declaration f name t → link_of r ≡ on_link place.id 0 (field_declaration f name)
  a_type z r h = rw (← z) h

-- ---- `structure_field_place`
module _ (f : List ℕ) (place : Place) (name s : ℕ) where
  pub undeclared : 0 ≡ on_link place.id 0 (field_declaration f name) → {sh : Shape} → sh ≡ shape_at f s → {r : Place} → r ≡ bare sh → r ≡ structure_field_place f place name s
  unfolding structure_field_place
  undeclared z e h = rw (← z, ← e) h

  module _ {i : ℕ} (z : suc i ≡ on_link place.id 0 (field_declaration f name)) (type : Option ℕ) (p : link_of type ≡ declared_type f i) where
    pub declared : (element : Option ℕ) → link_of element ≡ declared_element f i → {r : Place} → r ≡ typed_place f s (link_of type) (link_of element) → r ≡ structure_field_place f place name s
    unfolding structure_field_place
    declared element q {r} h = rw (← z, ← p, ← q) h

    pub declared-linked : Accepted f → PlaceIn f place → Link (IsType f) (link_of type)
    declared-linked a at =
        let u : Each (IsType f) (initializer_uses f i) = link-to (λ i. Each (IsType f) (initializer_uses f i)) _ i (sym z)
        (on-link (Link (λ i. Each (IsType f) (initializer_uses f i))) place.id 0 (field_declaration f name) tt
        (λ t q. declared-field f (IsType f) (IsType f) (leads-inside f a) name t (link-to (IsType f) place.id t q at.types.type))) in
        rw p (declared-type (IsType f) f i u)

-- ---- `structure_field`
pub fields_fit : {f : List ℕ} → Accepted f → {first many : ℕ} → FieldsIn f first many → first + many < 2 ^ 32
unfolding most_records limits_of_records
fields_fit {f} a i = omega (arith, i.inside, count_most f a shape_fields (lit< tt))

module _ (f : List ℕ) (name first many : ℕ) where
  pub no_field : (place : Place) → 0 ≡ first_named f shape_fields name first many → none ≡ structure_field f place name first many
  unfolding structure_field
  no_field place z = rw (← z)

  module _ {k : ℕ} (z : suc k ≡ first_named f shape_fields name first many) {s : ℕ} (e : s ≡ word f shape_fields k 1) where
    pub a-field : (place : Place) {p : Place} → p ≡ structure_field_place f place name s → ok p ≡ structure_field f place name first many
    unfolding structure_field
    a-field place h = rw (← z, h, e)

    pub field-shape : FieldsIn f first many → s < count f shapes
    field-shape i =
        rw e (link-to (λ k. word f shape_fields k 1 < count f shapes) (first_named f shape_fields name first many) k (sym z)
        (named-of f shape_fields name (λ k. word f shape_fields k 1 < count f shapes) first many i.lower))

-- ---- `block_field`
module _ (f : List ℕ) (name : ℕ) {l : ℕ} where
  pub no-block : 0 ≡ l → none ≡ block_field f l name
  unfolding block_field
  no-block z = rw (← z)

  module _ {t : ℕ} (z : suc t ≡ l) where
    pub no-block-field : 0 ≡ block_field_type f t name → none ≡ block_field f l name
    unfolding block_field linked_place
    no-block-field q = rw (← z, ← q)

    pub a-block-field : {d : ℕ} → suc d ≡ block_field_type f t name → {p : Place} → p ≡ place_of f d → ok p ≡ block_field f l name
    unfolding block_field linked_place
    a-block-field q h = rw (← z, ← q, h)

-- ---- `field_place`
module _ (f : List ℕ) (place : Place) (name : ℕ) where
  -- by the place's shape alone
  abbrev field_by : Shape → Result Place
  field_by s =
      on_shape s (λ a b. none) (λ a b. none) (structure_field f place name) (λ s a b. none) (λ u. block_field f place.id name) (λ u. none) (λ u. none)

  by_shape : field_place f place name ≡ field_by place.shape
  unfolding field_place structure_field block_field linked_place
  by_shape = refl

  module _ {r : Result Place} where
    pub of-structure : {first many : ℕ} → place.shape ≡ shape.Structure first many → r ≡ structure_field f place name first many → r ≡ field_place f place name
    of-structure e h = h ∙ sym (by_shape ∙ ap field_by e)

    pub of-block : {n : ℕ} → place.shape ≡ shape.FunctionBlock n → r ≡ block_field f place.id name → r ≡ field_place f place name
    of-block e h = h ∙ sym (by_shape ∙ ap field_by e)

  pub of_other : NoFields place.shape → none ≡ field_place f place name
  of_other h = no_fields none place.shape _ _ h ∙ sym by_shape

-- ---- `string_place`, `type_place`, `variable_place`
pub no_length : (length width : ℕ) → length ≡ inline → none ≡ string_of length width
unfolding string_of
no_length length width e = rw (eq-eqb length inline e)

pub a-length : (length width : ℕ) → (length ≡ inline → ⊥) → {p : Place} → p ≡ bare (shape.String length width) → ok p ≡ string_of length width
unfolding string_of
a-length length width n h = rw (ne_eqb length inline n, h)

module _ (f : List ℕ) {l : ℕ} where
  pub no_place : 0 ≡ l → none ≡ linked_place f l
  unfolding linked_place
  no_place z = rw (← z)

  pub a-place : {t : ℕ} → suc t ≡ l → {p : Place} → p ≡ place_of f t → ok p ≡ linked_place f l
  unfolding linked_place
  a-place z h = rw (← z, h)

module _ (f : List ℕ) (v i : ℕ) {kind : ℕ} (is : kind ≡ word f initializers i 0) {r : Result Place} where
  pub by-string : kind ≡ 4 → {length width : ℕ} → length ≡ word f initializers i 6 → width ≡ word f initializers i 7 → r ≡ string_of length width → r ≡ variable_place f v i
  unfolding variable_place string_place string_of initializer_kind
  by-string k l w h = rw (← is, eq-eqb kind 4 k, ← l, ← w) h

  pub by-type : (kind ≡ 4 → ⊥) → r ≡ linked_place f (word f variables v 2) → r ≡ variable_place f v i
  unfolding variable_place linked_place initializer_kind
  by-type n h = rw (← is, ne_eqb kind 4 n) h

pub ruleset laws =
    (rules, led-type, place-linked, no_type, a_type, undeclared, declared, declared-linked, fields_fit, no_field, a-field, field-shape, no-block, no-block-field, a-block-field, structure-fields, of-structure, of-block, of_other, no_length, a-length, no_place, a-place, by-string, by-type)
