-- Depths from a table of those of lower records: what the code has functions for.
use Rattle.std.specs.Prelude.{◌≡◌, List, ℕ, suc, ◌+◌, ◌<◌, ◌≤◌, get_or}
use denote.Ref.{Bor}
use Rattle.definition.specs.Layout.{shape_fields, word}
use Rattle.definition.specs.Depth.{deepest}
use Rattle.records.specs.Tables.{table_of}

-- the depth in a table, 0 past its end
abbrev pub depth_in : List ℕ → ℕ → ℕ
depth_in depths n = get_or depths n 0

-- the depth of the shape that a field leads to
abbrev pub field_depth : List ℕ → List ℕ → ℕ → ℕ
field_depth f depths k = depth_in depths (word f shape_fields k 1)

-- no depth of a table is greater than a file may have entries
pub record Shallow (depths : List ℕ) : Type 0 where
  pub most : (n : ℕ) → depth_in depths n ≤ 8192

-- a function may be called at each record's number and a table of the depths d of those before it, and gives its depth
pub record FromLower (takes : Bor (List ℕ) → ℕ → Type 0) (gives : Bor (List ℕ) → ℕ → ℕ → Type 0) (d : ℕ → ℕ) (many : ℕ) : Type 0 where
  pub may : (s : Bor (List ℕ)) (n : ℕ) → n < many → s.now ≡ table_of d n → takes s n
  pub found : (s : Bor (List ℕ)) (n r : ℕ) → n < many → s.now ≡ table_of d n → gives s n r → r ≡ d n

-- the greatest of the depths that it finds
pub record GreatestOf (takes : Bor (List ℕ) → ℕ → Type 0) (gives : Bor (List ℕ) → ℕ → ℕ → Type 0) (many most : ℕ) : Type 0 where
  pub is : (d : ℕ → ℕ) → FromLower takes gives d many → most ≡ deepest d 0 many

-- one more than the deepest of a run, where the answers for its records say where in the table the depth of each stands
pub record OverRun (answers : ℕ → ℕ → Type 0) (depths : List ℕ) (many r : ℕ) : Type 0 where
  pub is : (d : ℕ → ℕ) (first : ℕ) → ((j p : ℕ) → answers j p → depth_in depths p ≡ d (first + j)) → r ≡ suc (deepest d first many)
