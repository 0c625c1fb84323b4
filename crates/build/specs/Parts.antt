-- The parts of defaults that building functions form one by one, and how deep they nest.
use Rattle.std.specs.Prelude.{◌≡◌, Bool, not, ◌&&◌, List, [], ◌∷◌, ℕ, zero, suc, ◌+◌, ◌*◌, ◌≤◌, eqb, take}
use Rattle.definition.specs.declared.records.Place.{Place}
use Rattle.definition.specs.Base.{pick}
use Rattle.definition.specs.Layout.{word, block_fields}
use Rattle.definition.specs.Tree.{Tree, Trees, flatten, flatten_all, array_tree, tree_words}
use Rattle.definition.specs.Ask.{Result, Ask, done, ◌>>=◌}
use Rattle.definition.specs.Places.{field_place}
use Rattle.definition.specs.Parts.{if_stated, flat, repeated_defaults, field}
use Rattle.definition.specs.Starting.{default_of}
use Rattle.definition.specs.Depth.{shape_depth_from, shape_depth}
use Rattle.definition.specs.Resolve.{Memo}
use Rattle.definition.specs.Peek.{peek}
use Rattle.laws.specs.Whole.{Good}
use Rattle.tree.specs.Words.{Stand}
use Rattle.build.specs.Built.{Built, Gives, Memory}
use Rattle.std.specs.Prelude.{Ok}

-- ---- how deep a place nests: as its shape does
unfoldable pub place_depth : List ℕ → Place → ℕ
place_depth f place = shape_depth_from f (shape_depth f) place.shape

-- trees under construction at once while a place's implicit default is formed, and while its default is: a type's is one tree
unfoldable pub implicit_levels : List ℕ → Place → ℕ
implicit_levels f place = suc (place_depth f place)

unfoldable pub start_levels : List ℕ → Place → ℕ
start_levels f place = if_stated place.id (λ u. implicit_levels f place) (λ t. 1)

-- ---- the names of a run of fields: all of a structure's, and those of a block that are no in-outs
unfoldable pub is_listed : List ℕ → ℕ → ℕ → Bool
is_listed f section k = not (eqb section block_fields && eqb (word f section k 2) 2)

unfoldable pub listed_names : List ℕ → ℕ → ℕ → ℕ → List ℕ
listed_names f section first zero = []
listed_names f section first (suc k) =
    let more : List ℕ = listed_names f section (suc first) k in
    pick (is_listed f section first) (word f section first 0 ∷ more) more

-- one field, behind so many nodes
unfoldable pub field_ask : List ℕ → Place → ℕ → ℕ → Ask (Result Trees)
field_ask f place name size = done (field_place f place name) >>= default_of f >>= field size name

-- a field at `to`, under a head at `at`
pub record BuildsField (f known store : List ℕ) (place : Place) (name at to : ℕ) (old : List ℕ) (r : Built) (new : List ℕ) : Type 0 where
  pub gives : (size : ℕ) → to ≡ at + 6 + 6 * size → (M : Memo) → Memory f known store M → Gives flatten_all (peek M (field_ask f place name size)) to r new
  pub ends : (e : ℕ) → r ≡ Ok e → (to ≤ e) × (e ≤ at + tree_words)
  pub kept : take to new ≡ take to old

-- the words of a list of values under an array's head
abbrev pub array_words : Trees → List ℕ
array_words ts = flatten (array_tree ts)

-- a tree behind the place of a head gives way to so many copies of the values that it stands for, under an array's head
pub record Spreads (times at end : ℕ) (old : List ℕ) (r : Built) (new : List ℕ) : Type 0 where
  pub gives : (t : Tree) → Good t → Stand old (at + 6) (flatten t) end → (M : Memo) → Gives array_words (peek M (repeated_defaults times (flat t))) at r new
  pub kept : take at new ≡ take at old

-- a whole tree stands there
pub record WholeAt (s : List ℕ) (at end : ℕ) : Type 0 where
  pub tree : Tree
  pub good : Good tree
  pub stands : Stand s at (flatten tree) end
