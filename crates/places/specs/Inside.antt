-- A place of a file: its types are types of the file, and its shape points at records of the file. In an accepted file every place that is made from one is one.
-- Assumes nothing.
use Rattle.std.specs.Prelude.{◌≡◌, List, eqb}
use Prim.Native.Nat.{ℕ, zero, suc, ◌+◌, ◌≤◌, ◌<◌}
use Rattle.std.proofs.Common.{arith, eqb-true}
use Rattle.definition.specs.declared.records.Shape.{Shape}
use Rattle.definition.specs.declared.records.Shape.TheVariants as shape
use Rattle.definition.specs.declared.records.Place.{Place}
use Rattle.definition.specs.Base.{on_link, inline}
use Rattle.definition.specs.Layout.{word, count, shapes, shape_fields, variables, initializers, constants}
use Rattle.definition.specs.Records.{shape_at, type_shape, initializer_kind, constant_at}
use Rattle.definition.specs.Ask.{none}
use Rattle.definition.specs.Places.{bare, place_of, typed_place, element_place, innermost, leaf_place, first_named, block_field_type, field_declaration, structure_field_place, field_place, string_place, variable_place}
use Rattle.laws.specs.Asks.{OnOk}
use Rattle.laws.specs.Cases.{on-pick, on-link}
use Rattle.laws.specs.Links.{Link, link-to}
use Rattle.laws.specs.Accepted.{Accepted, number-in, type-points}
use Rattle.laws.specs.Bits.{Bits, shape-bits}
use Rattle.laws.specs.Strings.{width_in, shape-width, initializer-width, literal-length}
use Rattle.scalar.specs.Convert.{Counts}
use Rattle.laws.specs.Pointed.{Run, ShapePointed, shape-pointed, named-of}
use Rattle.laws.specs.Nearby.{Below, placed-bare, below_of, below-typed, below-element, below-structure, block-field}
use Rattle.laws.specs.Used.{IsType, leads-inside}
use Rattle.definition.specs.Ask.{result_of}
use Rattle.std.specs.Prelude.{Option, Some}
use Rattle.places.specs.Shapes.{on-kind}

-- a shape whose numbers and runs lie inside their sections; a string's width is 0 or 1, a number has 8, 16, 32 or 64 bits
pub record ShapeIn (f : List ℕ) (s : Shape) : Type 0 where
  pub points : ShapePointed f (count f shapes) s
  pub width : width_in s ≤ 1
  pub bits : Bits s

pub record PlaceIn (f : List ℕ) (place : Place) : Type 0 where
  pub types : Below (IsType f) place
  pub shape : ShapeIn f place.shape

-- the fields of a structure: records of the file, whose shapes are the file's
pub record FieldsIn (f : List ℕ) (first many : ℕ) : Type 0 where
  pub inside : first + many ≤ count f shape_fields
  pub lower : Run (λ k. word f shape_fields k 1 < count f shapes) first many

-- ---- what points below a shape's own number points below every higher one
link_up : {n m : ℕ} → n ≤ m → (l : ℕ) → Link (λ s. s < n) l → Link (λ s. s < m) l
link_up h zero p = tt
link_up h (suc s) p = omega (arith, p)

pointed-up : (f : List ℕ) (n m : ℕ) → n ≤ m → (s : Shape) → ShapePointed f n s → ShapePointed f m s
pointed-up f n m h shape.Bool p = tt
pointed-up f n m h (shape.Int bits) p = tt
pointed-up f n m h (shape.UInt bits) p = tt
pointed-up f n m h (shape.Real bits) p = tt
pointed-up f n m h (shape.Bytes bits) p = tt
pointed-up f n m h (shape.Time bits) p = tt
pointed-up f n m h (shape.Date bits) p = tt
pointed-up f n m h (shape.TimeOfDay bits) p = tt
pointed-up f n m h (shape.DateAndTime bits) p = tt
pointed-up f n m h (shape.String length width) p = tt
pointed-up f n m h (shape.Enumeration first many default underlying) p = (p.0, link_up h underlying p.1)
pointed-up f n m h (shape.Structure first many) p = (p.0, λ j l. omega (arith, p.1 j l))
pointed-up f n m h (shape.Array element first many) p = (omega (arith, p.0), p.1, p.2)
pointed-up f n m h (shape.Subrange base least greatest) p = (omega (arith, p.0), p.1, p.2)
pointed-up f n m h (shape.FunctionBlock name) p = tt
pointed-up f n m h (shape.Interface name) p = tt
pointed-up f n m h (shape.Reference target) p = omega (arith, p)
pointed-up f n m h shape.Unknown p = p

-- the shape of an array's elements
pub element-shape : {f : List ℕ} {place : Place} → PlaceIn f place → {s first many : ℕ} → place.shape ≡ shape.Array s first many → s < count f shapes
element-shape i e = (rw e at i.shape.points).0

pub structure-fields : {f : List ℕ} {place : Place} → PlaceIn f place → {first many : ℕ} → place.shape ≡ shape.Structure first many → FieldsIn f first many
structure-fields i e = let p = rw e at i.shape.points in record { inside = p.0; lower = p.1 }

module _ (f : List ℕ) (a : Accepted f) where
  pub shape-in : (s : ℕ) → s < count f shapes → ShapeIn f (shape_at f s)
  shape-in s h = record { points = pointed-up f s (count f shapes) (omega arith) (shape_at f s) (shape-pointed f a s h); width = shape-width f a s h; bits = shape-bits f a s h }

  pub type-shape : (t : ℕ) → IsType f t → type_shape f t < count f shapes
  unfolding type_shape
  type-shape t h = number-in f shapes (type_shape f t) (type-points f a t h).shape

  pub bare-in : (s : ℕ) → s < count f shapes → PlaceIn f (bare (shape_at f s))
  unfolding bare
  bare-in s h = record { types = placed-bare (IsType f) (IsType f) (shape_at f s); shape = shape-in s h }

  pub of-in : (t : ℕ) → IsType f t → PlaceIn f (place_of f t)
  unfolding place_of
  of-in t h = record { types = below_of f (IsType f) (IsType f) (leads-inside f a) t h; shape = shape-in (type_shape f t) (type-shape t h) }

  pub typed-in : (s type element : ℕ) → s < count f shapes → Link (IsType f) type → Link (IsType f) element → PlaceIn f (typed_place f s type element)
  unfolding typed_place
  typed-in s type element h t e =
      record { types = below-typed f (IsType f) (IsType f) (leads-inside f a) s type element t e; shape = shape-in s h }

  pub element-in : (place : Place) (s : ℕ) → PlaceIn f place → s < count f shapes → PlaceIn f (element_place f place s)
  unfolding element_place typed_place
  element-in place s i h =
      record { types = below-element f (IsType f) (IsType f) (leads-inside f a) place s i.types; shape = shape-in s h }

  inner-in : (k : ℕ) (place : Place) → PlaceIn f place → PlaceIn f (innermost f k place)
  unfolding innermost
  inner-in zero place i = i
  inner-in (suc k) place i =
      on-kind (PlaceIn f) place.shape _ _ _ _ _ _ _ (λ a b. i) (λ a b c d e. i) (λ a b e. i)
      (λ s a b e. inner-in k (element_place f place s) (element-in place s i (element-shape i e))) (λ n e. i) (λ n e. i) i

  pub leaf-in : (place : Place) → PlaceIn f place → PlaceIn f (leaf_place f place)
  unfolding leaf_place
  leaf-in place i = inner-in (count f shapes) place i

  pub structure-in : (place : Place) (name s : ℕ) → PlaceIn f place → s < count f shapes → PlaceIn f (structure_field_place f place name s)
  unfolding structure_field_place bare typed_place
  structure-in place name s i h =
      record {
        types = below-structure f (IsType f) (IsType f) (leads-inside f a) place name s i.types;
        shape = on-link (λ p. ShapeIn f p.shape) (on_link place.id 0 (field_declaration f name)) (bare (shape_at f s)) _ (shape-in s h) (λ n e. shape-in s h);
      }

  pub field_in : (place : Place) (name : ℕ) → PlaceIn f place → OnOk (PlaceIn f) (field_place f place name)
  unfolding field_place
  field_in place name i =
      on-kind (OnOk (PlaceIn f)) place.shape _ _ _ _ _ _ _ (λ a b. tt) (λ a b c d e. tt)
      (λ first many e. on-link (OnOk (PlaceIn f)) (first_named f shape_fields name first many) none _ tt
      (λ k q. structure-in place name (word f shape_fields k 1) i
      (link-to (λ k. word f shape_fields k 1 < count f shapes) _ k q (named-of f shape_fields name _ first many (structure-fields i e).lower))))
      (λ s a b e. tt)
      (λ n e. on-link (OnOk (PlaceIn f)) place.id none _ tt
      (λ t q. on-link (OnOk (PlaceIn f)) (block_field_type f t name) none _ tt
      (λ d r. of-in d
      (link-to (IsType f) _ d r (block-field f (IsType f) (IsType f) (leads-inside f a) t name (link-to (IsType f) place.id t q i.types.type))))))
      (λ n e. tt) tt

  -- the place that `field_place` finds
  pub field_found : (place : Place) (name : ℕ) → PlaceIn f place → {r : Option Place} → result_of r ≡ field_place f place name → {p : Place} → r ≡ Some p → PlaceIn f p
  field_found place name i {r} h {p} e = let o : OnOk (PlaceIn f) (result_of r) = rw h (field_in place name i) in rw e at o

  pub variable-in : (v i : ℕ) → Link (IsType f) (word f variables v 2) → i < count f initializers → OnOk (PlaceIn f) (variable_place f v i)
  unfolding variable_place string_place bare
  variable-in v i h l =
      on-pick (OnOk (PlaceIn f)) (eqb (initializer_kind f i) 4) (string_place f i) _
      (λ e. on-pick (OnOk (PlaceIn f)) (eqb (word f initializers i 6) inline) none _ (λ q. tt)
      (λ q. record { types = placed-bare (IsType f) (IsType f) _; shape = record { points = tt; width = initializer-width f a i l (eqb-true (initializer_kind f i) 4 e); bits = tt } }))
      (λ e. on-link (OnOk (PlaceIn f)) (word f variables v 2) none _ tt (λ t q. of-in t (link-to (IsType f) _ t q h)))

  -- the place that `variable_place` finds
  pub variable-found : (v i : ℕ) → Link (IsType f) (word f variables v 2) → i < count f initializers
      → {r : Option Place} → result_of r ≡ variable_place f v i → {p : Place} → r ≡ Some p → PlaceIn f p
  variable-found v i l b {r} h {p} e = let o : OnOk (PlaceIn f) (result_of r) = rw h (variable-in v i l b) in rw e at o

  -- the characters that a place of the file cuts of a literal of the file are counted in a word
  pub counts-in : (s : Shape) (n : ℕ) → ShapeIn f s → n < count f constants → Counts s (constant_at f n)
  counts-in s n i h =
      record { of_string = λ length width e k. let w : width ≤ 1 = rw e at i.width in record { fits = omega (arith, w, literal-length f a n h k) } }
