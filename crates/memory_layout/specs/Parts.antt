-- What is known of a file, where a node may stand: at a place of the file or nowhere, and where an array's entries stand.
use Rattle.std.specs.Prelude.{◌≡◌, Bool, true, false, List, ℕ}
use Rattle.definition.specs.declared.records.Shape.{Shape}
use Rattle.definition.specs.declared.records.Place.{Place}
use Rattle.definition.specs.Shapes.{on_shape, on_array}
use Rattle.definition.specs.Places.{leaf_place}
use Rattle.laws.specs.Accepted.{Accepted}
use Rattle.shapes.specs.Classes.{Classes}
use Rattle.places.specs.Inside.{PlaceIn}

-- an accepted file with the tables that go with it
pub record Given (f classes : List ℕ) : Type 0 where
  pub accepted : Accepted f
  pub classed : Classes f classes

-- a shape that has parts
abbrev pub has_parts : Shape → Bool
has_parts s = on_shape s (λ a b. false) (λ a b. false) (λ a b. true) (λ e a b. true) (λ u. true) (λ u. false) (λ u. false)

-- a place that has parts is one of the file
pub record Located (f : List ℕ) (place : Place) : Type 0 where
  pub inside : has_parts place.shape ≡ true → PlaceIn f place

-- where the entries of an array stand
unfoldable pub entries_place : List ℕ → Place → Place
entries_place f place = on_array place.shape place (λ e first many. leaf_place f place)
