-- A law for each return of parts.rt, and what its calls require. Assumes nothing.
use mathlib.Core.Path.{◌≡◌, refl, ap, sym, ◌∙◌, subst}
use mathlib.Core.List.{List, [], ◌∷◌}
use Prim.Native.Nat.{ℕ, ◌+◌}
use lib.Dec.{eqb}
use types.Run.{OneOf, miss}
use denote.Enum.Declared.{tag_of}
use borrow.Author.Rules.{rules}
use borrow.Author.Tests.{eq-eqb, ne_eqb}
use Rattle.definition.specs.contracts.records.Shape.{the_type}
use Rattle.definition.specs.declared.records.Shape.{Shape}
use Rattle.definition.specs.declared.records.Shape.TheVariants as shape
use Rattle.definition.specs.declared.records.Place.{Place}
use Rattle.definition.specs.Base.{pick}
use Rattle.definition.specs.Layout.{word, shape_fields}
use Rattle.definition.specs.Shapes.{on_shape}
use Rattle.definition.specs.Places.{bare, leaf_place, field_place}
use Rattle.laws.specs.Cases.{never}
use Rattle.laws.specs.Accepted.{Accepted}
use Rattle.definition.specs.Ask.{result_of}
use Rattle.places.specs.Inside.{PlaceIn, leaf-in, field_found}
use Rattle.places.specs.Shapes.{on-kind}
use Rattle.places.proofs.Others.{NoArray, no-array}
use Rattle.memory_definition.specs.Cells.{nowhere, place_or, part_place}
use Rattle.memory_layout.specs.Parts.{Located, entries_place}
use Rattle.std.specs.Prelude.{None, Option, Some}
use Rattle.std.specs.Option.{unwrap_or}

-- ---- places of the file, and nowhere
pub nowhere-is : {r : Place} → r ≡ bare shape.Unknown → r ≡ nowhere
unfolding nowhere
nowhere-is e = e

pub nowhere-located : (f : List ℕ) {r : Place} → r ≡ nowhere → Located f r
unfolding nowhere bare
nowhere-located f e = rw e (record { inside = λ h. never h })

pub place-located : {f : List ℕ} {place : Place} → PlaceIn f place → Located f place
place-located i = record { inside = λ h. i }

module _ {f : List ℕ} {place : Place} (l : Located f place) where
  pub structure-inside : {first many : ℕ} → place.shape ≡ shape.Structure first many → PlaceIn f place
  structure-inside e = l.inside (rw e refl)

  pub array-inside : {element first many : ℕ} → place.shape ≡ shape.Array element first many → PlaceIn f place
  array-inside e = l.inside (rw e refl)

  pub block_inside : {name : ℕ} → place.shape ≡ shape.FunctionBlock name → PlaceIn f place
  block_inside e = l.inside (rw e refl)

-- ---- `named_part`
module _ (f : List ℕ) (place : Place) (name : ℕ) {n : Place} (lost : n ≡ nowhere) {p : Place} where
  pub field-there : (r : Option Place) → result_of r ≡ field_place f place name → p ≡ unwrap_or r n → p ≡ place_or (field_place f place name)
  field-there (Some q) h e = e ∙ rw (← h) refl
  field-there None h e = e ∙ lost ∙ rw (← h) refl

  pub field-located : Accepted f → PlaceIn f place → (r : Option Place) → result_of r ≡ field_place f place name → p ≡ unwrap_or r n → Located f p
  field-located a i (Some q) h e = subst (Located f) (sym e) (place-located (field_found f a place name i {r = Some q} h refl))
  field-located a i None h e = nowhere-located f (e ∙ lost)

-- ---- `entries_place`
module _ (f : List ℕ) (place : Place) where
  pub entries-array : {element first many : ℕ} → place.shape ≡ shape.Array element first many → {r : Place} → r ≡ leaf_place f place → r ≡ entries_place f place
  unfolding entries_place
  entries-array e h = h ∙ rw e refl

  pub entries-other : NoArray place.shape → place ≡ entries_place f place
  unfolding entries_place
  entries-other h = no-array place place.shape (λ e first many. leaf_place f place) h

-- ---- `part_place`
-- every shape but the structure, the array and the function block
abbrev partless : List ℕ
partless = 0 ∷ 1 ∷ 2 ∷ 3 ∷ 4 ∷ 5 ∷ 6 ∷ 7 ∷ 8 ∷ 9 ∷ 10 ∷ 13 ∷ 15 ∷ 16 ∷ 17 ∷ []

module _ (f : List ℕ) (place : Place) (k name : ℕ) where
  -- by the place's shape alone
  abbrev part_by : Shape → Place
  part_by s =
      on_shape s (λ a b. nowhere) (λ a b. nowhere)
      (λ first many. pick (eqb (word f shape_fields (first + k) 0) name) (place_or (field_place f place name)) nowhere)
      (λ e first many. leaf_place f place) (λ u. place_or (field_place f place name)) (λ u. nowhere) (λ u. nowhere)

  by_shape : part_place f place k name ≡ part_by place.shape
  unfolding part_place
  by_shape = refl

  module _ {r : Place} where
    module _ {first many : ℕ} (e : place.shape ≡ shape.Structure first many) {w : ℕ} (i : w ≡ word f shape_fields (first + k) 0) where
      pub of_field : w ≡ name → r ≡ place_or (field_place f place name) → r ≡ part_place f place k name
      of_field q h = h ∙ sym (by_shape ∙ ap part_by e ∙ rw (← i, eq-eqb w name q) refl)

      pub of-another : (w ≡ name → ⊥) → r ≡ nowhere → r ≡ part_place f place k name
      of-another q h = h ∙ sym (by_shape ∙ ap part_by e ∙ rw (← i, ne_eqb w name q) refl)

    pub of-block : {n : ℕ} → place.shape ≡ shape.FunctionBlock n → r ≡ place_or (field_place f place name) → r ≡ part_place f place k name
    of-block e h = h ∙ sym (by_shape ∙ ap part_by e)

    pub of_other : OneOf partless (tag_of the_type place.shape) → r ≡ nowhere → r ≡ part_place f place k name
    of_other h q =
        q
        ∙ on-kind (λ y. nowhere ≡ y) place.shape _ _ _ _ _ _ _ (λ a b. refl) (λ a b c d e. refl) (λ a b e. absurd (miss partless 11 tt (rw e at h)))
        (λ n a b e. absurd (miss partless 12 tt (rw e at h))) (λ n e. absurd (miss partless 14 tt (rw e at h))) (λ n e. refl) refl
        ∙ sym by_shape

  module _ {element first many : ℕ} (e : place.shape ≡ shape.Array element first many) {r : Place} (h : r ≡ entries_place f place) where
    pub entry-is : r ≡ leaf_place f place
    unfolding entries_place
    entry-is = h ∙ rw e refl

    pub of_array : r ≡ part_place f place k name
    of_array = entry-is ∙ sym (by_shape ∙ ap part_by e)

    pub entry-located : Accepted f → Located f place → Located f r
    entry-located a l = rw entry-is (place-located (leaf-in f a place (array-inside l e)))

pub ruleset laws =
    (rules, nowhere-is, nowhere-located, place-located, structure-inside, array-inside, block_inside, field-there, field-located, entries-array, entries-other, of_field, of-another, of-block, of_other, of_array, entry-located)
