-- The kind of a value, and where its parts stand.
use Rattle.std.specs.Prelude.{List, ℕ, zero, suc, ◌+◌, ◌*◌, eqb, ltb, get_or, Option, Some, None}
use Rattle.definition.specs.Base.{pick}
use Rattle.definition.specs.Tree.{Tree, Trees, node, tnil, tcons, head, many, nodes}
use Rattle.definition.specs.Sheet.{parts_of}
use Rattle.tree.specs.declared.part.Value.{Value}
use Rattle.tree.specs.declared.part.Value.TheVariants as value
use Rattle.tree.specs.declared.extent.Span.{Span}
use Rattle.tree.specs.Extent.{after_of, whole_of}
use Rattle.tree.specs.Node.{node_at}

abbrev pub on_end : {A X : Type 0} → Option A → (A → X) → X → X
on_end (Some e) f x = f e
on_end None f x = x

abbrev pub on_structure : {X : Type 0} → Option Value → (ℕ → X) → X → X
on_structure None f x = x
on_structure (Some value.Leaf) f x = x
on_structure (Some (value.Array n)) f x = x
on_structure (Some (value.Structure n)) f x = f n

-- words from a place up to another
abbrev pub span : ℕ → ℕ → Span
span begin end = record { begin = begin; end = end }

-- ---- in words
unfoldable pub value_of : ℕ → ℕ → Option Value
value_of kind low = pick (ltb kind 13) (Some value.Leaf) (pick (eqb kind 13) (Some (value.Array low)) (pick (eqb kind 14) (Some (value.Structure low)) None))

unfoldable pub value_at : List ℕ → ℕ → Option Value
value_at s at = on_end (node_at s at) (λ n. value_of n.value.kind n.value.low) None

-- the first of so many trees from `at` on that has the name
unfoldable pub seek : List ℕ → ℕ → ℕ → ℕ → Option Span
seek s name zero at = None
seek s name (suc n) at = on_end (whole_of s at) (λ e. pick (eqb (get_or s at 0) name) (Some (span at e)) (seek s name n e)) None

unfoldable pub find_of : List ℕ → ℕ → ℕ → Option Span
find_of s at name = on_structure (value_at s at) (λ n. seek s name n (at + 6)) None

unfoldable pub nth_of : List ℕ → ℕ → ℕ → Option Span
nth_of s from i = on_end (after_of s from i) (λ b. on_end (whole_of s b) (λ e. Some (span b e)) None) None

unfoldable pub part_of : List ℕ → ℕ → ℕ → Option Span
part_of s at i = on_end (node_at s at) (λ n. pick (ltb i (parts_of n.value.kind n.value.low)) (nth_of s (at + 6) i) None) None

-- ---- of trees
-- what a whole tree is
unfoldable pub value_is : Tree → Value
value_is (node h ts) = pick (ltb h.kind 13) value.Leaf (pick (eqb h.kind 13) (value.Array (many ts)) (value.Structure (many ts)))

-- where the first of trees with the name stands, if they stand at `at`
unfoldable pub place : ℕ → ℕ → Trees → Option Span
place name at tnil = None
place name at (tcons t ts) = pick (eqb (head t).name name) (Some (span at (at + 6 * nodes t))) (place name (at + 6 * nodes t) ts)
