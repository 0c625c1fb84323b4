-- How deep places nest: what a place holds starts in fewer levels. Assumes nothing.
use mathlib.Core.Path.{◌≡◌, refl, ap}
use mathlib.Core.List.{List}
use Prim.Native.Nat.{ℕ, zero, suc, ◌+◌, ◌*◌, ◌≤◌, ◌<◌}
use native.Mathlib.Omega.{arith}
use Rattle.definition.specs.declared.records.Shape.{Shape}
use Rattle.definition.specs.declared.records.Shape.TheVariants as shape
use Rattle.definition.specs.declared.records.Place.{Place}
use Rattle.definition.specs.Base.{on_link}
use Rattle.definition.specs.Layout.{word, count, shapes, shape_fields}
use Rattle.definition.specs.Records.{shape_at}
use Rattle.definition.specs.Ask.{none}
use Rattle.definition.specs.Places.{bare, place_of, typed_place, element_place, first_named, block_field_type, field_declaration, structure_field_place, field_place}
use Rattle.definition.specs.Parts.{if_stated}
use Rattle.definition.specs.Depth.{deepest, shape_depth_from, shape_depth, levels}
use Rattle.laws.specs.Asks.{OnOk}
use Rattle.laws.specs.Cases.{on-link}
use Rattle.laws.specs.Links.{link-to}
use Rattle.laws.specs.Accepted.{Accepted}
use Rattle.laws.specs.Pointed.{run_at, named-of}
use Rattle.laws.specs.Depths.{deepest-at, deepest-most, shape-depth-is}
use Rattle.places.specs.Inside.{ShapeIn, PlaceIn, element-shape, structure-fields}
use Rattle.places.specs.Shapes.{on-kind}
use Rattle.definition.specs.Ask.{result_of}
use Rattle.definition.specs.Tree.{tree_words}
use Rattle.build.specs.Parts.{place_depth, implicit_levels, start_levels}
use Rattle.std.specs.Prelude.{Option, Some}

-- ---- the levels of a place
pub levels-implicit : (f : List ℕ) (place : Place) → place.id ≡ 0 → start_levels f place ≡ implicit_levels f place
unfolding start_levels
levels-implicit f place e = rw e

pub levels-typed : (f : List ℕ) (place : Place) → (place.id ≡ 0 → ⊥) → start_levels f place ≡ 1
unfolding start_levels
levels-typed f place n = go place.id n
  where
    go : (i : ℕ) → (i ≡ 0 → ⊥) → if_stated i (λ u. implicit_levels f place) (λ t. 1) ≡ 1
    go zero n = absurd (n refl)
    go (suc i) n = refl

-- at most the levels of the implicit default, which are two at least
pub levels-most : (f : List ℕ) (place : Place) (most : ℕ) → 1 ≤ most → (place.id ≡ 0 → implicit_levels f place ≤ most) → start_levels f place ≤ most
unfolding start_levels
levels-most f place most l h = go place.id h
  where
    go : (i : ℕ) → (i ≡ 0 → implicit_levels f place ≤ most) → if_stated i (λ u. implicit_levels f place) (λ t. 1) ≤ most
    go zero h = h refl
    go (suc i) h = l

module _ (f : List ℕ) where
  depth-some : (s : Shape) → 1 ≤ shape_depth_from f (shape_depth f) s
  unfolding shape_depth_from
  depth-some s =
      on-kind (λ n. 1 ≤ n) s _ _ _ _ _ _ _ (λ a b. omega arith) (λ a b c d e. omega arith) (λ a b e. omega arith) (λ n a b e. omega arith) (λ n e. omega arith) (λ n e. omega arith) (omega arith)

  pub levels-some : (place : Place) → 2 ≤ implicit_levels f place
  unfolding implicit_levels place_depth
  levels-some place = omega (arith, depth-some place.shape)

-- ---- the places inside
module _ (f : List ℕ) (a : Accepted f) where
  -- a place of a shape of the file nests as that does
  place-levels : (p : Place) (s : ℕ) → s < count f shapes → p.shape ≡ shape_at f s → implicit_levels f p ≡ suc (shape_depth f s)
  unfolding implicit_levels place_depth
  place-levels p s h e = rw (e, ← shape-depth-is f a s h)

  pub element-levels : (place : Place) (s first many : ℕ) → PlaceIn f place → place.shape ≡ shape.Array s first many → suc (start_levels f (element_place f place s)) ≤ implicit_levels f place
  unfolding implicit_levels place_depth shape_depth_from element_place typed_place
  element-levels place s first many i e =
      let l = levels-most f (element_place f place s) (suc (shape_depth f s)) (omega arith) (λ z. let q = place-levels (element_place f place s) s (element-shape i e) refl in omega arith) in
      rw e (omega arith)

  field-shape : (place : Place) (name s : ℕ) → (structure_field_place f place name s).shape ≡ shape_at f s
  unfolding structure_field_place bare typed_place
  field-shape place name s = on-link (λ p. p.shape ≡ shape_at f s) (on_link place.id 0 (field_declaration f name)) (bare (shape_at f s)) _ refl (λ n e. refl)

  structure-depth : (place : Place) (first many : ℕ) → place.shape ≡ shape.Structure first many → implicit_levels f place ≡ suc (suc (deepest (λ j. shape_depth f (word f shape_fields j 1)) first many))
  unfolding implicit_levels place_depth shape_depth_from
  structure-depth place first many e = ap (λ (s : Shape). suc (shape_depth_from f (shape_depth f) s)) e

  structure-levels : (place : Place) (name first many : ℕ) → PlaceIn f place → place.shape ≡ shape.Structure first many → (k : ℕ) → first_named f shape_fields name first many ≡ suc k
      → suc (start_levels f (structure_field_place f place name (word f shape_fields k 1))) ≤ implicit_levels f place
  structure-levels place name first many i e k q =
      let s : ℕ = word f shape_fields k 1 in
      let d : ℕ → ℕ = λ j. shape_depth f (word f shape_fields j 1) in
      let b : word f shape_fields k 1 < count f shapes = link-to (λ j. word f shape_fields j 1 < count f shapes) (first_named f shape_fields name first many) k q (named-of f shape_fields name (λ j. word f shape_fields j 1 < count f shapes) first many (structure-fields i e).lower) in
      let m : shape_depth f (word f shape_fields k 1) ≤ deepest (λ j. shape_depth f (word f shape_fields j 1)) first many =
      link-to (λ j. shape_depth f (word f shape_fields j 1) ≤ deepest (λ j. shape_depth f (word f shape_fields j 1)) first many) (first_named f shape_fields name first many) k q
      (named-of f shape_fields name _ first many (λ j h. deepest-at (λ j. shape_depth f (word f shape_fields j 1)) first many (first + j) (omega arith) (omega arith))) in
      let l = levels-most f (structure_field_place f place name (word f shape_fields k 1)) (suc (shape_depth f (word f shape_fields k 1))) (omega arith)
      (λ z. let q = place-levels (structure_field_place f place name (word f shape_fields k 1)) (word f shape_fields k 1) b (field-shape place name (word f shape_fields k 1)) in omega arith) in
      omega (arith, structure-depth place first many e)

  typed-levels : (place : Place) (d : ℕ) → suc (start_levels f (place_of f d)) ≤ implicit_levels f place
  unfolding start_levels place_of
  typed-levels place d = levels-some f place

  inside-levels : (place : Place) (name : ℕ) → PlaceIn f place → OnOk (λ p. suc (start_levels f p) ≤ implicit_levels f place) (field_place f place name)
  unfolding field_place
  inside-levels place name i =
      let P : Place → Type 0 = λ p. suc (start_levels f p) ≤ implicit_levels f place in
      on-kind (OnOk (λ p. suc (start_levels f p) ≤ implicit_levels f place)) place.shape _ _ _ _ _ _ _ (λ a b. tt) (λ a b c d e. tt)
      (λ first many e. on-link (OnOk (λ p. suc (start_levels f p) ≤ implicit_levels f place)) (first_named f shape_fields name first many) none _ tt
      (λ k q. structure-levels place name first many i e k q))
      (λ s a b e. tt)
      (λ n e. on-link (OnOk (λ p. suc (start_levels f p) ≤ implicit_levels f place)) place.id none _ tt
      (λ t q. on-link (OnOk (λ p. suc (start_levels f p) ≤ implicit_levels f place)) (block_field_type f t name) none _ tt (λ d r. typed-levels place d)))
      (λ n e. tt) tt

  -- the place that `field_place` finds
  pub field-levels : (place : Place) (name : ℕ) → PlaceIn f place → {r : Option Place} → result_of r ≡ field_place f place name → {p : Place} → r ≡ Some p
      → suc (start_levels f p) ≤ implicit_levels f place
  field-levels place name i {r} h {p} e =
      let o : OnOk (λ p. suc (start_levels f p) ≤ implicit_levels f place) (result_of r) = rw h (inside-levels place name i) in rw e at o

  -- ---- the work words have room for every place of the file
  shape-under : (s : ℕ) → s < count f shapes → shape_depth f s ≤ deepest (shape_depth f) 0 (count f shapes)
  shape-under s h = deepest-at (shape_depth f) 0 (count f shapes) s (omega arith) (omega arith)

  pub depth-under : (v : Shape) → ShapeIn f v → shape_depth_from f (shape_depth f) v ≤ suc (deepest (shape_depth f) 0 (count f shapes))
  unfolding shape_depth_from
  depth-under v i =
      on-kind (λ n. n ≤ suc (deepest (shape_depth f) 0 (count f shapes))) v _ _ _ _ _ _ _ (λ a b. omega arith) (λ a b c d e. omega arith)
      (λ first many e.
      let p = rw e at i.points in
      let m = deepest-most (λ k. shape_depth f (word f shape_fields k 1)) first many (deepest (shape_depth f) 0 (count f shapes))
      (λ k l h. shape-under (word f shape_fields k 1) (run_at (λ k. word f shape_fields k 1 < count f shapes) first many p.1 k l h)) in
      omega arith)
      (λ s first many e. let p = rw e at i.points in omega (arith, shape-under s p.0))
      (λ n e. omega arith) (λ n e. omega arith) (omega arith)

  -- half of them, where no entries nest
  pub levels-room : (place : Place) → PlaceIn f place → implicit_levels f place * tree_words ≤ levels f * 24576
  unfolding implicit_levels place_depth levels
  levels-room place i = omega (arith, depth-under place.shape i.shape)

  -- and an element of an array starts in at most one more than shapes nest
  pub element-under : (place : Place) (s first many : ℕ) → PlaceIn f place → place.shape ≡ shape.Array s first many → start_levels f (element_place f place s) ≤ suc (deepest (shape_depth f) 0 (count f shapes))
  unfolding implicit_levels place_depth
  element-under place s first many i e = omega (arith, element-levels place s first many i e, depth-under place.shape i.shape)
