-- Value trees (document 01, "Made by resolver.rs, read by value.rs"): a node is six words, a tree is a node with its parts.
use Rattle.std.specs.Prelude.{List, [], ◌∷◌, ◌++◌, ℕ, zero, suc, ◌+◌, ◌*◌, eqb}
use Rattle.definition.specs.declared.records.Constant.{Constant}
use Rattle.definition.specs.Base.{pick}

-- a name or 0, a kind, then a constant's four words
pub record Node : Type 0 where
  pub name : ℕ
  pub kind : ℕ
  pub sign : ℕ
  pub low : ℕ
  pub high : ℕ
  pub width : ℕ

mutual
  pub data Tree : Type 0 where
    node : Node → Trees → Tree

  pub data Trees : Type 0 where
    tnil : Trees
    tcons : Tree → Trees → Trees

unfoldable pub head : Tree → Node
head (node h ts) = h

unfoldable pub parts : Tree → Trees
parts (node h ts) = ts

-- how many
unfoldable pub many : Trees → ℕ
many tnil = 0
many (tcons t ts) = suc (many ts)

-- how many nodes
unfoldable mutual
  pub nodes : Tree → ℕ
  nodes (node h ts) = suc (nodes_in ts)

  pub nodes_in : Trees → ℕ
  nodes_in tnil = 0
  nodes_in (tcons t ts) = nodes t + nodes_in ts

-- a node's six words, followed by its parts
unfoldable mutual
  pub flatten : Tree → List ℕ
  flatten (node h ts) = h.name ∷ h.kind ∷ h.sign ∷ h.low ∷ h.high ∷ h.width ∷ flatten_all ts

  pub flatten_all : Trees → List ℕ
  flatten_all tnil = []
  flatten_all (tcons t ts) = flatten t ++ flatten_all ts

-- ---- kinds 0 to 12 have no parts
unfoldable pub leaf : ℕ → ℕ → ℕ → ℕ → ℕ → Tree
leaf kind sign low high width = node (record { name = 0; kind = kind; sign = sign; low = low; high = high; width = width }) tnil

-- kinds 0 to 8: a constant's words
unfoldable pub constant_tree : Constant → Tree
constant_tree c = leaf c.kind c.sign c.low c.high c.width

unfoldable pub enumerated_tree : ℕ → ℕ → Tree
enumerated_tree value qualifier = leaf 9 0 value qualifier 0

unfoldable pub null_tree : Tree
null_tree = leaf 10 0 0 0 0

-- 11 and 12: low is the expression's number
unfoldable pub reference_tree : ℕ → Tree
reference_tree x = leaf 11 0 x 0 0

unfoldable pub expression_tree : ℕ → Tree
expression_tree x = leaf 12 0 x 0 0

-- ---- 13 and 14: low is the count, followed by the parts
unfoldable pub headed : ℕ → Trees → Tree
headed kind ts = node (record { name = 0; kind = kind; sign = 0; low = many ts; high = 0; width = 0 }) ts

unfoldable pub array_tree : Trees → Tree
array_tree ts = headed 13 ts

unfoldable pub structure_tree : Trees → Tree
structure_tree ts = headed 14 ts

-- the same value under a name: a structure's part has the name of its field
unfoldable pub named : ℕ → Tree → Tree
named name (node h ts) = node (record { name = name; kind = h.kind; sign = h.sign; low = h.low; high = h.high; width = h.width }) ts

-- ---- lists of trees
unfoldable pub join : Trees → Trees → Trees
join tnil us = us
join (tcons t ts) us = tcons t (join ts us)

unfoldable pub one : Tree → Trees
one t = tcons t tnil

-- so many times
unfoldable pub times : ℕ → Trees → Trees
times zero ts = tnil
times (suc k) ts = join ts (times k ts)

-- what is left behind the first so many
unfoldable pub rest : ℕ → Trees → Trees
rest zero ts = ts
rest (suc k) tnil = tnil
rest (suc k) (tcons t ts) = rest k ts

-- the first in a list that has a name gives way to a tree
unfoldable pub replaced : ℕ → Tree → Trees → Trees
replaced name u tnil = tnil
replaced name u (tcons t ts) = pick (eqb (head t).name name) (tcons u ts) (tcons t (replaced name u ts))

-- ---- the limit of refusal 8
abbrev pub most_nodes : ℕ
most_nodes = 2048

abbrev pub node_words : ℕ
node_words = 6

-- the most words of a tree
abbrev pub tree_words : ℕ
tree_words = most_nodes * node_words

-- what this file computes with
unfoldable pub opened : Unit {0}
unfolding head parts many nodes flatten leaf constant_tree enumerated_tree null_tree reference_tree expression_tree headed array_tree structure_tree named join one times rest replaced
opened = tt
