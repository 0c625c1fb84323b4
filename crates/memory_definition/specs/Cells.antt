-- Where the nodes of a variable's tree stand (document 02, Q-1): each node with the shape of its place, in the order of the nodes.
use Rattle.std.specs.Prelude.{List, [], ◌∷◌, ◌++◌, ℕ, zero, suc, ◌+◌, ◌*◌, eqb}
use Rattle.definition.specs.declared.records.Shape.{Shape}
use Rattle.definition.specs.declared.records.Shape.TheVariants as shape
use Rattle.definition.specs.declared.records.Place.{Place}
use Rattle.definition.specs.Base.{pick}
use Rattle.definition.specs.Layout.{word, count, shapes, shape_fields, variables}
use Rattle.definition.specs.Records.{shape_at}
use Rattle.definition.specs.Accept.{elements_of}
use Rattle.definition.specs.Tree.{Node, Tree, Trees, node, tnil, tcons, head}
use Rattle.definition.specs.Ask.{Result, ok, none, large}
use Rattle.definition.specs.Shapes.{on_shape, on_array}
use Rattle.definition.specs.Places.{bare, leaf_place, field_place, variable_place}

pub record Cell : Type 0 where
  pub shape : Shape
  pub node : Node

abbrev pub cell : Shape → Node → Cell
cell s h = record { shape = s; node = h }

-- where a part stands that its shape does not have: nothing can be held there
unfoldable pub nowhere : Place
nowhere = bare shape.Unknown

abbrev pub place_or : Result Place → Place
place_or (ok p) = p
place_or none = nowhere
place_or large = nowhere

-- the place of part k, which has a name: an array lists the elements of its innermost arrays, a structure its fields in the order of its shape, a function block
-- fields by their names (`leaf_place`, `field_place`)
unfoldable pub part_place : List ℕ → Place → ℕ → ℕ → Place
part_place f place k name =
    on_shape place.shape (λ a b. nowhere) (λ a b. nowhere)
    (λ first many. pick (eqb (word f shape_fields (first + k) 0) name) (place_or (field_place f place name)) nowhere)
    (λ s first many. leaf_place f place)
    (λ u. place_or (field_place f place name))
    (λ u. nowhere) (λ u. nowhere)

unfoldable mutual
  pub cells : List ℕ → Place → Tree → List Cell
  cells f place (node h ts) = cell place.shape h ∷ cells_in f place 0 ts

  pub cells_in : List ℕ → Place → ℕ → Trees → List Cell
  cells_in f place k tnil = []
  cells_in f place k (tcons t ts) = cells f (part_place f place k (head t).name) t ++ cells_in f place (suc k) ts

-- a variable's tree stands at the variable's place
unfoldable pub variable_cells : List ℕ → ℕ → Tree → List Cell
variable_cells f v t = cells f (place_or (variable_place f v (word f variables v 3))) t

-- how many entries an array lists: the elements of its innermost arrays
unfoldable pub entries_up_to : List ℕ → ℕ → Shape → ℕ
entries_up_to f zero s = 1
entries_up_to f (suc k) s = on_array s 1 (λ e first many. elements_of f first many * entries_up_to f k (shape_at f e))

unfoldable pub entries_of : List ℕ → Shape → ℕ
entries_of f s = entries_up_to f (count f shapes) s

-- what this file computes with
unfoldable pub opened : Unit {0}
unfolding nowhere part_place cells variable_cells entries_up_to entries_of
opened = tt
