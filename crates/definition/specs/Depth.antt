-- How deep entries and shapes nest: what they point to nests less deep. It bounds the work words.
use Rattle.std.specs.Prelude.{List, ℕ, zero, suc, ◌+◌, max}
use Rattle.definition.specs.declared.records.Shape.{Shape}
use Rattle.definition.specs.declared.records.Entry.{Entry}
use Rattle.definition.specs.declared.records.Entry.TheVariants as entry
use Rattle.definition.specs.Base.{on_link}
use Rattle.definition.specs.Layout.{word, count, shapes, shape_fields, entries}
use Rattle.definition.specs.Records.{shape_at, entry_at}
use Rattle.definition.specs.Shapes.{on_shape}

-- the greatest of so many depths
unfoldable pub deepest : (ℕ → ℕ) → ℕ → ℕ → ℕ
deepest depth first zero = 0
deepest depth first (suc k) = max (depth first) (deepest depth (suc first) k)

-- one more than what it points to
unfoldable pub entry_depth_from : (ℕ → ℕ) → Entry → ℕ
entry_depth_from below (entry.Constant number) = 1
entry_depth_from below (entry.Enumerated value qualifier) = 1
entry_depth_from below (entry.Array first many) = suc (deepest below first many)
entry_depth_from below (entry.Structure first many) = suc (deepest below first many)
entry_depth_from below (entry.Expression number) = 1
entry_depth_from below entry.LateBound = 1
entry_depth_from below (entry.Repeat many inner) = suc (on_link inner 0 below)
entry_depth_from below entry.Unknown = 1

unfoldable pub entry_depth_up_to : List ℕ → ℕ → ℕ → ℕ
entry_depth_up_to f zero e = 0
entry_depth_up_to f (suc k) e = entry_depth_from (entry_depth_up_to f k) (entry_at f e)

unfoldable pub entry_depth : List ℕ → ℕ → ℕ
entry_depth f e = entry_depth_up_to f (suc e) e

unfoldable pub shape_depth_from : List ℕ → (ℕ → ℕ) → Shape → ℕ
shape_depth_from f below s =
    on_shape s (λ a b. 1) (λ a b. 1)
    (λ first many. suc (deepest (λ k. below (word f shape_fields k 1)) first many))
    (λ element first many. suc (below element))
    (λ u. 1) (λ u. 1) (λ u. 1)

unfoldable pub shape_depth_up_to : List ℕ → ℕ → ℕ → ℕ
shape_depth_up_to f zero s = 0
shape_depth_up_to f (suc k) s = shape_depth_from f (shape_depth_up_to f k) (shape_at f s)

unfoldable pub shape_depth : List ℕ → ℕ → ℕ
shape_depth f s = shape_depth_up_to f (suc s) s

-- how many trees can be under construction at once: one for each level of entries and of shapes, and the outermost
unfoldable pub levels : List ℕ → ℕ
levels f = suc (deepest (entry_depth f) 0 (count f entries) + deepest (shape_depth f) 0 (count f shapes))

-- what this file computes with
unfoldable pub opened : Unit {0}
unfolding deepest entry_depth_from entry_depth_up_to entry_depth shape_depth_from shape_depth_up_to shape_depth levels
opened = tt
