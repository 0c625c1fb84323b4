-- A variable's initializer, completed with the value that it starts with (`complete` in value.rs, then `retyped`, as `fold_var_decl` joins them).
use Rattle.std.specs.Prelude.{Bool, ◌&&◌, ◌||◌, List, [], ◌∷◌, ℕ, eqb, leb, get_or}
use Rattle.definition.specs.Base.{pick, on_link}
use Rattle.definition.specs.Layout.{word, shapes, variables, initializers, expressions}
use Rattle.definition.specs.Records.{type_shape, referenced_type, initializer_kind}
use Rattle.definition.specs.Tree.{Node, Tree, Trees, node, tnil, tcons, head}
use Rattle.definition.specs.Ask.{ok, none, large, Outcome}

-- a completed initializer is its kind and the tree in its value slot
pub data Completed : Type 0 where
  completed : ℕ → Tree → Completed
  left : Completed

-- ---- below the top a reference is written as an expression, and an expression that is itself a null as a null (`reference_expression`)
unfoldable pub written_node : List ℕ → Node → Node
written_node f h =
    let is_expression : Bool = eqb h.kind 11 || eqb h.kind 12 in
    let is_null : Bool = eqb h.kind 12 && eqb (word f expressions h.low 0) 4 in
    record {
      name = h.name;
      kind = pick is_null 10 (pick is_expression 12 h.kind);
      sign = h.sign;
      low = pick is_null 0 h.low;
      high = h.high;
      width = h.width;
    }

unfoldable mutual
  pub written : List ℕ → Tree → Tree
  written f (node h ts) = node (written_node f h) (written_all f ts)

  pub written_all : List ℕ → Trees → Trees
  written_all f tnil = tnil
  written_all f (tcons t ts) = tcons (written f t) (written_all f ts)

-- an array's or a structure's head stays
unfoldable pub written_parts : List ℕ → Tree → Tree
written_parts f (node h ts) = node h (written_all f ts)

-- a subrange's slot holds an integer (`signed_integer`)
unfoldable pub as_signed : Tree → Tree
as_signed (node h ts) = node (record { name = h.name; kind = 1; sign = h.sign; low = h.low; high = h.high; width = h.width }) ts

-- ---- which values an initializer's slot takes, by kind (`complete`)
unfoldable pub slot_takes : ℕ → ℕ → Bool
slot_takes i kind =
    let is : ℕ → Bool = eqb kind in
    get_or (
    Bool.false ∷
    Bool.false ∷
    (is 1 || is 2) ∷
    leb kind 8 ∷
    is 8 ∷
    is 9 ∷
    is 9 ∷
    is 14 ∷
    is 14 ∷
    is 13 ∷
    (is 10 || is 11) ∷
    []) i Bool.false

unfoldable pub complete : List ℕ → ℕ → Tree → Completed
complete f i t = pick (slot_takes i (head t).kind) (completed i (pick (eqb i 2) (as_signed t) (written_parts f t))) left

-- ---- the kind that the variable's type takes, where the initializer states no value (`retyped`, `shape_of`)
-- a reference without a referenced type takes none: kind 0 has no slot
unfoldable pub kind_for_shape : ℕ → ℕ → ℕ
kind_for_shape shape referenced =
    get_or (3 ∷ 3 ∷ 3 ∷ 3 ∷ 3 ∷ 3 ∷ 3 ∷ 3 ∷ 3 ∷ 3 ∷ 6 ∷ 8 ∷ 9 ∷ 2 ∷ 7 ∷ 3 ∷ pick (eqb referenced 0) 0 10 ∷ []) shape 0

unfoldable pub retyped : List ℕ → ℕ → ℕ → Tree → Completed
retyped f v i t =
    pick ((eqb (initializer_kind f i) 3 || eqb (initializer_kind f i) 11) && eqb (word f initializers i 3) 0)
    (on_link (word f variables v 2) left (λ d. complete f (kind_for_shape (word f shapes (type_shape f d) 0) (referenced_type f d)) t))
    left

abbrev pub or_retyped : Completed → Completed → Completed
or_retyped (completed i t) other = completed i t
or_retyped left other = other

abbrev pub on_tree : Outcome → (Tree → Completed) → Completed
on_tree (ok t) g = g t
on_tree none g = left
on_tree large g = left

-- a variable of state 1 or 2 is left
unfoldable pub completion : List ℕ → ℕ → Outcome → Completed
completion f v o =
    let i : ℕ = word f variables v 3 in
    on_tree o (λ t. or_retyped (complete f (initializer_kind f i) t) (retyped f v i t))

-- what this file computes with
unfoldable pub opened : Unit {0}
unfolding written_node written written_parts as_signed slot_takes complete kind_for_shape retyped completion
opened = tt
