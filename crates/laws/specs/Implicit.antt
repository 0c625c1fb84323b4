-- The implicit default of a place in an accepted file, from those of the places inside, which have lower shapes: as soon as it suffices, fuel does not matter.
-- Assumes nothing.
use Rattle.std.specs.Prelude.{◌≡◌}
use Rattle.std.proofs.Math.Path.{refl, ap, subst, fun_ext}
use Rattle.std.proofs.Common.{sym, ◌∙◌, arith}
use mathlib.Core.List.{List, [], ◌∷◌}
use Prim.Native.Nat.{ℕ, zero, suc, ◌<◌}
use Rattle.definition.specs.declared.records.Shape.{Shape}
use Rattle.definition.specs.declared.records.Shape.TheVariants as shape
use Rattle.definition.specs.declared.records.Place.{Place}
use Rattle.definition.specs.Base.{on_link}
use Rattle.definition.specs.Layout.{count, word, shapes, shape_fields}
use Rattle.definition.specs.Records.{shape_at}
use Rattle.definition.specs.Accept.{elements_of}
use Rattle.definition.specs.Tree.{tnil}
use Rattle.definition.specs.Ask.{Result, ok, none, large, Outcome, Ask, done, bind, ◌>>=◌, give, nothing, type_default}
use Rattle.definition.specs.Scalar.{built_in}
use Rattle.definition.specs.Shapes.{on_shape, on_array}
use Rattle.definition.specs.Places.{bare, place_of, typed_place, element_place, first_named, block_field_type, field_declaration, declared_type, declared_element, structure_field_place, field_place, names_in, block_field_names}
use Rattle.definition.specs.Parts.{Starts, if_stated, flat, repeated_defaults, element_defaults, array_by, fields_by, structured, default_by}
use Rattle.definition.specs.Defaults as Defaults
use Rattle.definition.specs.Starting.{implicit_by, implicit_up_to, implicit, default_of}
use Rattle.laws.specs.Links.{Link}
use Rattle.laws.specs.Accepted.{Accepted}
use Rattle.laws.specs.Pointed.{ShapePointed, shape-pointed, named-of}

-- ---- two ways for the places inside to start that agree there
module _ (f : List ℕ) (P : Place → Type 0) (d g : Starts) (same : (p : Place) → P p → d p ≡ g p) (place : Place) where
  same-field : (name : ℕ) → ((p : Place) → field_place f place name ≡ ok p → P p) → done (field_place f place name) >>= d ≡ done (field_place f place name) >>= g
  unfolding ◌>>=◌ bind
  same-field name h = go (field_place f place name) h
    where
      go : (r : Result Place) → ((p : Place) → r ≡ ok p → P p) → done r >>= d ≡ done r >>= g
      go (ok p) h = same p (h p refl)
      go none h = refl
      go large h = refl

  same-fields : (names : List ℕ) → ((name : ℕ) (p : Place) → field_place f place name ≡ ok p → P p)
      → (made size : ℕ) → fields_by f d place names made size ≡ fields_by f g place names made size
  unfolding fields_by
  same-fields [] h made size = refl
  same-fields (name ∷ names) h made size =
      rw (same-field name (h name), fun_ext (λ m. fun_ext (λ s. same-fields names h m s)))

  same-structured : (names : List ℕ) → ((name : ℕ) (p : Place) → field_place f place name ≡ ok p → P p)
      → structured (fields_by f d place names) ≡ structured (fields_by f g place names)
  unfolding structured
  same-structured names h = rw (same-fields names h 0 0)

  same-defaults : (s first many : ℕ) → place.shape ≡ shape.Array s first many → P (element_place f place s) → element_defaults f d place ≡ element_defaults f g place
  unfolding element_defaults
  same-defaults s first many e h =
      subst
      (λ x. on_array x nothing (λ s first count. d (element_place f place s) >>= λ t. repeated_defaults (elements_of f first count) (flat t))
      ≡ on_array x nothing (λ s first count. g (element_place f place s) >>= λ t. repeated_defaults (elements_of f first count) (flat t)))
      (sym e) (rw (same (element_place f place s) h))

  -- the implicit default of the place, which has the shape s
  abbrev implicit_as : Starts → Shape → Ask Outcome
  implicit_as default s =
      let single : Unit {0} → Ask Outcome = λ u. done (built_in f place.shape) in
      on_shape s
      (λ length width. single tt)
      (λ first many. single tt)
      (λ first many. structured (fields_by f default place (names_in f first many)))
      (λ s first many. array_by f default place (λ leaf defaults made size. give tnil))
      (λ u. done (block_field_names f place) >>= λ names. structured (fields_by f default place names))
      single
      single

  module _ (array : (s first many : ℕ) → place.shape ≡ shape.Array s first many → P (element_place f place s))
      (inside : (name : ℕ) (p : Place) → field_place f place name ≡ ok p → P p) where
    same-as : (s : Shape) → place.shape ≡ s → implicit_as d s ≡ implicit_as g s
    unfolding array_by
    same-as shape.Bool e = refl
    same-as (shape.Int bits) e = refl
    same-as (shape.UInt bits) e = refl
    same-as (shape.Real bits) e = refl
    same-as (shape.Bytes bits) e = refl
    same-as (shape.Time bits) e = refl
    same-as (shape.Date bits) e = refl
    same-as (shape.TimeOfDay bits) e = refl
    same-as (shape.DateAndTime bits) e = refl
    same-as (shape.String length width) e = refl
    same-as (shape.Enumeration first many default underlying) e = refl
    same-as (shape.Structure first many) e = same-structured (names_in f first many) inside
    same-as (shape.Array s first many) e = rw (same-defaults s first many e (array s first many e))
    same-as (shape.Subrange base least greatest) e = refl
    same-as (shape.FunctionBlock name) e = ap (λ h. done (block_field_names f place) >>= h) (fun_ext (λ names. same-structured names inside))
    same-as (shape.Interface name) e = refl
    same-as (shape.Reference target) e = refl
    same-as shape.Unknown e = refl

    same-implicit : implicit_by f d place ≡ implicit_by f g place
    unfolding Defaults.implicit_by
    same-implicit = same-as place.shape refl

-- ---- the places inside a place of shape n have a type or a lower shape
abbrev Lower : List ℕ → ℕ → Place → Type 0
Lower f n p = p.id ≡ 0 → (s : ℕ) × (s < n) × (p.shape ≡ shape_at f s)

module _ (f : List ℕ) (place : Place) where
  element-shape : (s : ℕ) → (element_place f place s).shape ≡ shape_at f s
  unfolding element_place typed_place
  element-shape s = refl

  field-shape : (name s : ℕ) → (structure_field_place f place name s).shape ≡ shape_at f s
  unfolding structure_field_place bare typed_place
  field-shape name s = go (on_link place.id 0 (field_declaration f name))
    where
      go : (l : ℕ) → (on_link l (bare (shape_at f s)) (λ i. typed_place f s (declared_type f i) (declared_element f i))).shape ≡ shape_at f s
      go zero = refl
      go (suc i) = refl

  -- the place of a field, where the place has the shape v
  abbrev field_as : ℕ → Shape → Result Place
  field_as name v =
      on_shape v (λ a b. none) (λ a b. none)
      (λ first many. on_link (first_named f shape_fields name first many) none (λ k. ok (structure_field_place f place name (word f shape_fields k 1))))
      (λ s a b. none)
      (λ u. on_link place.id none (λ t. on_link (block_field_type f t name) none (λ d. ok (place_of f d))))
      (λ u. none) (λ u. none)

  no_place : {X : Type 0} (p : Place) → ◌≡◌ {A = Result Place} none (ok p) → X
  no_place p e = let z : ◌≡◌ {A = ℕ} 0 1 = cc in absurd (omega arith)

  module _ (n name : ℕ) (p : Place) where
    field-lower : (l : ℕ) → Link (λ k. word f shape_fields k 1 < n) l
        → on_link l none (λ k. ok (structure_field_place f place name (word f shape_fields k 1))) ≡ ok p → Lower f n p
    field-lower zero i e = no_place p e
    field-lower (suc k) i e =
        let q : structure_field_place f place name (word f shape_fields k 1) ≡ p = cc in
        λ z. (word f shape_fields k 1, i, rw (← q) (field-shape name (word f shape_fields k 1)))

    typed-lower : (l : ℕ) → on_link l none (λ d. ok (place_of f d)) ≡ ok p → Lower f n p
    unfolding place_of
    typed-lower zero e = no_place p e
    typed-lower (suc d) e = let q : place_of f d ≡ p = cc in λ z. let y : suc d ≡ 0 = ap (λ x. x.id) q ∙ z in absurd (omega arith)

    block-lower : (l : ℕ) → on_link l none (λ t. on_link (block_field_type f t name) none (λ d. ok (place_of f d))) ≡ ok p → Lower f n p
    block-lower zero e = no_place p e
    block-lower (suc t) e = typed-lower (block_field_type f t name) e

    lower-as : (v : Shape) → ShapePointed f n v → field_as name v ≡ ok p → Lower f n p
    lower-as shape.Bool r e = no_place p e
    lower-as (shape.Int bits) r e = no_place p e
    lower-as (shape.UInt bits) r e = no_place p e
    lower-as (shape.Real bits) r e = no_place p e
    lower-as (shape.Bytes bits) r e = no_place p e
    lower-as (shape.Time bits) r e = no_place p e
    lower-as (shape.Date bits) r e = no_place p e
    lower-as (shape.TimeOfDay bits) r e = no_place p e
    lower-as (shape.DateAndTime bits) r e = no_place p e
    lower-as (shape.String length width) r e = no_place p e
    lower-as (shape.Enumeration first many default underlying) r e = no_place p e
    lower-as (shape.Structure first many) r e =
        field-lower (first_named f shape_fields name first many) (named-of f shape_fields name (λ k. word f shape_fields k 1 < n) first many r.1) e
    lower-as (shape.Array s first many) r e = no_place p e
    lower-as (shape.Subrange base least greatest) r e = no_place p e
    lower-as (shape.FunctionBlock block) r e = block-lower place.id e
    lower-as (shape.Interface interface) r e = no_place p e
    lower-as (shape.Reference target) r e = no_place p e
    lower-as shape.Unknown r e = absurd r

-- ---- the places inside a place whose shape points below n
module _ (f : List ℕ) (n : ℕ) (place : Place) (pointed : ShapePointed f n place.shape) where
  inner-field : (name : ℕ) (p : Place) → field_place f place name ≡ ok p → Lower f n p
  unfolding field_place
  inner-field name p e = lower-as f place n name p place.shape pointed e

  inner-element : (s first many : ℕ) → place.shape ≡ shape.Array s first many → Lower f n (element_place f place s)
  inner-element s first many e =
      let r : ShapePointed f n (shape.Array s first many) = subst (ShapePointed f n) e pointed in
      λ z. (s, r.0, element-shape f place s)

-- ---- an accepted file
module _ (f : List ℕ) (a : Accepted f) where
  -- places start the same way where implicit defaults of lower shapes do
  same-default : (n k m : ℕ) → ((s : ℕ) → s < n → (p : Place) → p.shape ≡ shape_at f s → implicit_up_to f k p ≡ implicit_up_to f m p)
      → (p : Place) → Lower f n p → default_by (implicit_up_to f k) p ≡ default_by (implicit_up_to f m) p
  unfolding default_by
  same-default n k m ih p l = go p.id refl
    where
      go : (i : ℕ) → p.id ≡ i → if_stated i (λ u. implicit_up_to f k p) type_default ≡ if_stated i (λ u. implicit_up_to f m p) type_default
      go zero e = let x = l e in ih x.0 x.1 p x.2
      go (suc t) e = refl

  -- one level more on both sides
  same_next : (n k m : ℕ) → ((s : ℕ) → s < n → (p : Place) → p.shape ≡ shape_at f s → implicit_up_to f k p ≡ implicit_up_to f m p)
      → (place : Place) → ShapePointed f n place.shape → implicit_by f (default_by (implicit_up_to f k)) place ≡ implicit_by f (default_by (implicit_up_to f m)) place
  same_next n k m ih place i =
      same-implicit f (Lower f n) (default_by (implicit_up_to f k)) (default_by (implicit_up_to f m)) (same-default n k m ih) place (inner-element f n place i) (inner-field f n place i)

  implicit-fuel : (k m n : ℕ) → n < k → n < m → n < count f shapes → (place : Place) → place.shape ≡ shape_at f n → implicit_up_to f k place ≡ implicit_up_to f m place
  unfolding Defaults.implicit_up_to
  implicit-fuel zero m n h l i place e = absurd (omega arith)
  implicit-fuel (suc k) zero n h l i place e = absurd (omega arith)
  implicit-fuel (suc k) (suc m) n h l i place e =
      same_next n k m (λ s b p q. implicit-fuel k m s (omega arith) (omega arith) (omega arith) p q) place (subst (ShapePointed f n) (sym e) (shape-pointed f a n i))

  -- the implicit default of a place whose shape points into the file, where the places inside start at their defaults
  pub implicit-is : (place : Place) → ShapePointed f (count f shapes) place.shape → implicit f place ≡ implicit_by f (default_of f) place
  unfolding Defaults.implicit Defaults.implicit_up_to Defaults.default_of
  implicit-is place i =
      same_next (count f shapes) (count f shapes) (suc (count f shapes))
      (λ s b p q. implicit-fuel (count f shapes) (suc (count f shapes)) s b (omega arith) b p q) place i
