-- What stands in the room, and how many words there are.
use Rattle.std.specs.Prelude.{◌≡◌, List, ℕ, suc, ◌+◌, ◌*◌, ◌≤◌, length}
use Rattle.definition.specs.Layout.{count, shapes}
use Rattle.definition.specs.Tree.{Tree, Trees, many, nodes, flatten, flatten_all, structure_tree, rest, most_nodes}
use Rattle.definition.specs.Depth.{deepest, shape_depth}
use Rattle.laws.specs.Gathers.{Gathered}
use Rattle.laws.specs.Whole.{Good}
use Rattle.tree.specs.Words.{Stand}
use Rattle.gather.specs.declared.answers.Filling.{Filling}

-- how deep the shapes of a file nest
unfoldable pub shapes_deep : List ℕ → ℕ
shapes_deep f = deepest (shape_depth f) 0 (count f shapes)

-- two trees of 2,048 nodes for each level of entries and of shapes, and one more
abbrev pub rooms : List ℕ → ℕ → ℕ
rooms f n = 12288 + 24576 * (n + shapes_deep f)

-- the defaults of an array, of which those of the places that have no value yet stand at `from`
pub record Defaults (s : List ℕ) (from made places : ℕ) (ds : Trees) (upto : ℕ) : Type 0 where
  pub end : ℕ
  pub stands : Stand s from (flatten_all (rest made ds)) end
  pub before : end ≤ upto
  pub whole : Gathered 0 ds
  pub count : many ds ≡ places

-- an array's defaults, the values so far, and room for the next
pub record Fillable (s : List ℕ) (l : Filling) (at need : ℕ) (ds : Trees) : Type 0 where
  pub defaults : Defaults s l.from l.made l.places ds at
  pub few : l.made ≤ l.places
  pub small : suc l.size ≤ most_nodes
  pub room : at + need ≤ length s

-- so many words
pub record RoomThere (s : List ℕ) (at need : ℕ) : Type 0 where
  pub room : at + need ≤ length s

-- a structure that members are applied to
pub record Structure (s : List ℕ) (at end need : ℕ) (fields : Trees) : Type 0 where
  pub stands : Stand s at (flatten (structure_tree fields)) end
  pub whole : Gathered 0 fields
  pub room : at + need ≤ length s

-- the value that a member has so far
pub record Current (s : List ℕ) (begin end : ℕ) (t : Tree) (at need : ℕ) : Type 0 where
  pub stands : Stand s begin (flatten t) end
  pub before : end ≤ at
  pub good : Good t
  pub few : nodes t ≤ most_nodes
  pub room : at + need ≤ length s

-- values that are counted under a head from the first one on
abbrev pub whole : Filling
whole = record { from = 0; places = 2047; made = 0; size = 0 }
