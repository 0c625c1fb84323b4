-- The work words have room for every variable and every type, where they have for every run of entries and one tree more. Assumes nothing.
use mathlib.Core.List.{List}
use Prim.Native.Nat.{ℕ, zero, suc, ◌+◌, ◌-◌, ◌*◌, ◌≤◌, ◌<◌, max}
use native.Mathlib.Omega.{arith}
use Rattle.definition.specs.declared.records.Place.{Place}
use Rattle.definition.specs.declared.records.Initializer.{Initializer}
use Rattle.definition.specs.declared.records.Initializer.TheVariants as init
use Rattle.definition.specs.declared.records.Declaration.{Declaration}
use Rattle.definition.specs.declared.records.Declaration.TheVariants as decl
use Rattle.definition.specs.Layout.{word, count, elements, variables, initializers, entries, shapes}
use Rattle.definition.specs.Records.{initializer_at, declaration_at, type_shape}
use Rattle.definition.specs.Ask.{Result, ok, none, large}
use Rattle.definition.specs.Places.{place_of, field_place, variable_place}
use Rattle.definition.specs.Depth.{deepest, shape_depth, levels}
use Rattle.laws.specs.Asks.{OnOk}
use Rattle.laws.specs.Accepted.{Accepted, element-points, variable-points}
use Rattle.laws.specs.Pointed.{InitializerPointed, initializer-pointed, DeclarationPointed, declaration-pointed}
use Rattle.laws.specs.Depths.{deepest-at, deepest-most, shape-depth-least}
use Rattle.laws.specs.Used.{IsType}
use Rattle.places.specs.Inside.{PlaceIn, of-in, field_in, variable-in, type-shape}
use Rattle.definition.specs.Tree.{tree_words}
use Rattle.build.specs.Parts.{place_depth, implicit_levels, start_levels}
use Rattle.build.proofs.Levels.{levels-most, depth-under}
use Rattle.gather.specs.Room.{shapes_deep}
use Rattle.entries.proofs.Levels.{rooms-within}
use Rattle.initial.specs.Rooms.{entry_levels, init_levels_by, init_levels, found_levels, variable_levels, element_levels, part_levels, parts_levels, alias_levels_by, alias_levels, simple_levels, body_levels_by, body_levels}

-- every run of entries has room, and one tree more
pub record Roomy (f : List ℕ) : Type 0 where
  pub entries : (first many : ℕ) (place : Place) → PlaceIn f place → first + many ≤ count f entries → suc (entry_levels f first many place) ≤ 2 * levels f

-- how deep shapes nest
abbrev deep : List ℕ → ℕ
deep f = deepest (shape_depth f) 0 (count f shapes)

module _ (f : List ℕ) (a : Accepted f) where
  implicit-under : (place : Place) → PlaceIn f place → implicit_levels f place ≤ suc (suc (deep f))
  unfolding implicit_levels place_depth
  implicit-under place i = omega (arith, depth-under f a place.shape i.shape)

  start_under : (place : Place) → PlaceIn f place → start_levels f place ≤ suc (suc (deep f))
  start_under place i = levels-most f place (suc (suc (deep f))) (omega arith) (λ z. implicit-under place i)

  -- a file with a type has a shape
  some-shape : (t : ℕ) → IsType f t → 1 ≤ deep f
  some-shape t l =
      let s = type-shape f a t l in
      let d = deepest-at (shape_depth f) 0 (count f shapes) (type_shape f t) (omega arith) (omega arith) in
      omega (arith, shape-depth-least f a (type_shape f t) s)

  -- with so many trees more, at most one
  module _ (r : Roomy f) (more : ℕ) (m : more ≤ 1) (d : more ≤ deep f) where
    shapes-fit : (n : ℕ) → n ≤ suc (suc (deep f)) → more + n ≤ 2 * levels f
    unfolding levels
    shapes-fit n h = omega arith

    both-fit : (n first many : ℕ) (place : Place) → PlaceIn f place → n ≤ suc (suc (deep f)) → first + many ≤ count f entries → more + max n (entry_levels f first many place) ≤ 2 * levels f
    both-fit n first many place i h p =
        let x = shapes-fit n h in
        let y = r.entries first many place i p in
        omega arith

    module _ (place : Place) (i : PlaceIn f place) where
      init-by : (v : Initializer) → InitializerPointed f v → more + init_levels_by f place v ≤ 2 * levels f
      unfolding init_levels_by
      init-by init.Nothing p = shapes-fit (start_levels f place) (start_under place i)
      init-by init.Interface p = shapes-fit (start_levels f place) (start_under place i)
      init-by (init.Subrange value) p = shapes-fit (start_levels f place) (start_under place i)
      init-by (init.Simple value) p = shapes-fit (start_levels f place) (start_under place i)
      init-by (init.String value long width) p = shapes-fit (start_levels f place) (start_under place i)
      init-by (init.EnumeratedValues value) p = shapes-fit (start_levels f place) (start_under place i)
      init-by (init.EnumeratedType value) p = shapes-fit (start_levels f place) (start_under place i)
      init-by (init.FunctionBlock first many) p = both-fit (start_levels f place) first many place i (start_under place i) p.0
      init-by (init.Structure first many) p = both-fit (start_levels f place) first many place i (start_under place i) p.0
      init-by (init.Array first many) p = both-fit (start_levels f place) first many place i (start_under place i) p.0
      init-by (init.Reference value) p = shapes-fit (start_levels f place) (start_under place i)
      init-by (init.LateResolved value) p = shapes-fit (start_levels f place) (start_under place i)
      init-by init.Call p = shapes-fit (start_levels f place) (start_under place i)
      init-by init.SimpleExpression p = shapes-fit (start_levels f place) (start_under place i)
      init-by init.StringExpression p = shapes-fit (start_levels f place) (start_under place i)
      init-by init.Unknown p = shapes-fit (start_levels f place) (start_under place i)

      init-under : (k : ℕ) → k < count f initializers → more + init_levels f k place ≤ 2 * levels f
      unfolding init_levels
      init-under k l = init-by (initializer_at f k) (initializer-pointed f a k l)

    found-under : (k : ℕ) → k < count f initializers → (x : Result Place) → OnOk (PlaceIn f) x → more + found_levels x (init_levels f k) ≤ 2 * levels f
    found-under k l (ok place) i = init-under place i k l
    found-under k l none i = shapes-fit 1 (omega arith)
    found-under k l large i = shapes-fit 1 (omega arith)

    variable-under : (v : ℕ) → v < count f variables → more + variable_levels f v ≤ 2 * levels f
    unfolding variable_levels
    variable-under v l =
        let p = variable-points f a v l in
        found-under (word f variables v 3) p.1 (variable_place f v (word f variables v 3)) (variable-in f a v (word f variables v 3) p.0 p.1)

    element-under : (place : Place) → PlaceIn f place → (e : ℕ) → e < count f elements → more + element_levels f place e ≤ 2 * levels f
    unfolding element_levels
    element-under place i e l = found-under (word f elements e 1) (element-points f a e l) (field_place f place (word f elements e 0)) (field_in f a place (word f elements e 0) i)

    part-element : (place : Place) → PlaceIn f place → (k : ℕ) → k < count f elements → more + part_levels f place elements k ≤ 2 * levels f
    unfolding part_levels
    part-element place i k l = element-under place i k l

    part-variable : (place : Place) (k : ℕ) → k < count f variables → more + part_levels f place variables k ≤ 2 * levels f
    unfolding part_levels
    part-variable place k l = variable-under k l

  -- ---- a type
  module _ (r : Roomy f) (t : ℕ) (l : IsType f t) (place : Place) (i : PlaceIn f place) where
    fits : (n : ℕ) → n ≤ suc (suc (deep f)) → n ≤ 2 * levels f
    fits n h = let x = shapes-fit r 0 (omega arith) (omega arith) n h in omega arith

    both : (first many : ℕ) → first + many ≤ count f entries → max (implicit_levels f place) (entry_levels f first many place) ≤ 2 * levels f
    both first many p = let x = both-fit r 0 (omega arith) (omega arith) (implicit_levels f place) first many place i (implicit-under place i) p in omega arith

    alias-by : (v : Initializer) → InitializerPointed f v → alias_levels_by f place v ≤ 2 * levels f
    unfolding alias_levels_by
    alias-by init.Nothing p = fits (implicit_levels f place) (implicit-under place i)
    alias-by init.Interface p = fits (implicit_levels f place) (implicit-under place i)
    alias-by (init.Subrange value) p = fits (implicit_levels f place) (implicit-under place i)
    alias-by (init.Simple value) p = fits (implicit_levels f place) (implicit-under place i)
    alias-by (init.String value long width) p = fits (implicit_levels f place) (implicit-under place i)
    alias-by (init.EnumeratedValues value) p = fits (implicit_levels f place) (implicit-under place i)
    alias-by (init.EnumeratedType value) p = fits (implicit_levels f place) (implicit-under place i)
    alias-by (init.FunctionBlock first many) p = both first many p.0
    alias-by (init.Structure first many) p = both first many p.0
    alias-by (init.Array first many) p = both first many p.0
    alias-by (init.Reference value) p = fits (implicit_levels f place) (implicit-under place i)
    alias-by (init.LateResolved value) p = fits (implicit_levels f place) (implicit-under place i)
    alias-by init.Call p = fits (implicit_levels f place) (implicit-under place i)
    alias-by init.SimpleExpression p = fits (implicit_levels f place) (implicit-under place i)
    alias-by init.StringExpression p = fits (implicit_levels f place) (implicit-under place i)
    alias-by init.Unknown p = fits (implicit_levels f place) (implicit-under place i)

    alias-under : (k : ℕ) → k < count f initializers → alias_levels f k place ≤ 2 * levels f
    unfolding alias_levels
    alias-under k h = alias-by (initializer_at f k) (initializer-pointed f a k h)

    simple-under : (start : ℕ) → DeclarationPointed f (decl.Simple start) → simple_levels f start place ≤ 2 * levels f
    unfolding simple_levels
    simple-under zero p = absurd p
    simple-under (suc k) p = alias-under k p

    parts-under : (section first many : ℕ) → ((k : ℕ) → first ≤ k → k < first + many → suc (part_levels f place section k) ≤ 2 * levels f) → parts_levels f place section first many ≤ 2 * levels f
    unfolding parts_levels
    parts-under section first many h =
        let x = deepest-most (part_levels f place section) first many (2 * levels f - 1) (λ k b c. omega (arith, h k b c)) in
        let y = fits 1 (omega arith) in
        omega arith

    body-by : (d : Declaration) → DeclarationPointed f d → body_levels_by f place d ≤ 2 * levels f
    unfolding body_levels_by
    body-by decl.Nothing p = fits (implicit_levels f place) (implicit-under place i)
    body-by (decl.Simple start) p = simple-under start p
    body-by (decl.Subrange name start) p = fits (implicit_levels f place) (implicit-under place i)
    body-by (decl.String start) p = fits (implicit_levels f place) (implicit-under place i)
    body-by (decl.Array name first many) p = both first many p.0
    body-by (decl.Structure first many) p =
        parts-under elements first many (λ k b c. let x = part-element r 1 (omega arith) (some-shape t l) place i k (omega arith) in omega arith)
    body-by (decl.Reference name) p = fits (implicit_levels f place) (implicit-under place i)
    body-by (decl.Enumeration name) p = fits (implicit_levels f place) (implicit-under place i)
    body-by (decl.LateBound name) p = fits (implicit_levels f place) (implicit-under place i)
    body-by (decl.FunctionBlock first many) p =
        parts-under variables first many (λ k b c. let x = part-variable r 1 (omega arith) (some-shape t l) place k (omega arith) in omega arith)
    body-by decl.Unknown p = fits (implicit_levels f place) (implicit-under place i)

  pub body-room : Roomy f → (t : ℕ) → IsType f t → body_levels f t * tree_words ≤ levels f * 24576
  unfolding body_levels
  body-room r t l = let x = body-by r t l (place_of f t) (of-in f a t l) (declaration_at f t) (declaration-pointed f a t l) in omega arith

  pub declaration-room : Roomy f → (v : ℕ) → v < count f variables → variable_levels f v * tree_words ≤ levels f * 24576
  declaration-room r v l = let x = variable-under r 0 (omega arith) (omega arith) v l in omega arith

-- and so they have
pub roomy : (f : List ℕ) → Roomy f
unfolding entry_levels shapes_deep
roomy f = record { entries = λ first many place i h. omega (arith, rooms-within f first many h) }
