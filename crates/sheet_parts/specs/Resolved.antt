-- What the sheet writer knows once every type is resolved.
use Rattle.std.specs.Prelude.{List, ◌∷◌, ℕ, ◌<◌, ◌≤◌, length}
use Rattle.definition.specs.Layout.{count, types, variables}
use Rattle.definition.specs.Tree.{flatten}
use Rattle.definition.specs.Starting.{declaration, type_outcome, variable_outcome}
use Rattle.definition.specs.Resolve.{known}
use Rattle.definition.specs.Lines.{type_line}
use Rattle.lines.specs.Look.{remembered_of}
use Rattle.lines.specs.Memory.{Looks}
use Rattle.build.specs.Built.{Built}
use Rattle.build.specs.Built.{index_at, index_in, Builds, Ready}
use Rattle.driver.specs.Told.{Tells}

-- every type's outcome is remembered, and a variable wants nothing
pub record Resolved (f tables store : List ℕ) : Type 0 where
  pub wide : index_at ≤ length tables
  pub ready : Ready f tables (index_in tables) store
  pub typed : (t : ℕ) → t < count f types → Looks (remembered_of (index_in tables) store t) store (known (type_outcome f t))
  pub told : (v : ℕ) → v < count f variables → (old new : List ℕ) (made : Built) → Builds f (index_in tables) store flatten (declaration f v) 0 old made new
      → Tells (variable_outcome f v) made new

-- a type's line with its rank
abbrev pub ranked_line : List ℕ → (ℕ → ℕ) → ℕ → List ℕ
ranked_line f rank t = rank t ∷ type_line f t
