-- Nodes in words, in the order of the definition's `flatten`.
use Rattle.std.specs.Prelude.{◌≡◌, Bool, List, [], ◌∷◌, ℕ, ◌+◌, leb, length, get_or, set, Option, Some, None}
use Rattle.definition.specs.Base.{pick}
use Rattle.definition.specs.Tree as tree
use Rattle.definition.specs.declared.records.Constant.{Constant}
use Rattle.tree.specs.declared.node.Node.{Node}

abbrev pub words_of : Node → List ℕ
words_of n = n.name ∷ n.value.kind ∷ n.value.sign ∷ n.value.low ∷ n.value.high ∷ n.value.width ∷ []

-- a node of the definition, as a value of the code
abbrev pub as_node : tree.Node → Node
as_node h = record { name = h.name; value = record { kind = h.kind; sign = h.sign; low = h.low; high = h.high; width = h.width } }

-- a constant, without a name
abbrev pub nameless : Constant → Node
nameless c = record { name = 0; value = c }

-- the head of an array or a structure, without a name
abbrev pub head_words : ℕ → ℕ → List ℕ
head_words kind count = 0 ∷ kind ∷ 0 ∷ count ∷ 0 ∷ 0 ∷ []

abbrev pub node_of : List ℕ → ℕ → Node
node_of s at =
    record {
      name = get_or s at 0;
      value = record { kind = get_or s (at + 1) 0; sign = get_or s (at + 2) 0; low = get_or s (at + 3) 0; high = get_or s (at + 4) 0; width = get_or s (at + 5) 0 };
    }

abbrev pub node_at : List ℕ → ℕ → Option Node
node_at s at = pick (leb (at + 6) (length s)) (Some (node_of s at)) None

-- the node at `at` is named, where there is one
pub record Renamed (old : List ℕ) (at name : ℕ) (r : Bool) (new : List ℕ) : Type 0 where
  pub says : r ≡ leb (at + 6) (length old)
  pub is : new ≡ pick r (set old at name) old
