-- A whole tree as the controller's bytes, and nodes read from bytes (document 02, Q-1): "Parts follow without gaps". Here a tree is its nodes, each with its place's shape.
use Rattle.std.specs.Prelude.{Bool, true, false, ◌&&◌, List, [], ◌∷◌, ◌++◌, ℕ, ◌+◌, length, take, drop}
use Rattle.definition.specs.Tree.{Node}
use Rattle.memory_definition.specs.Cells.{Cell}
use Rattle.memory_definition.specs.Forms.{Characters, form_of, held, narrow, size_as, bytes, node_read, text_read, readable}

-- ---- writing
-- each node is held: else 14
unfoldable pub held_all : List ℕ → List Cell → Bool
held_all f [] = true
held_all f (c ∷ cs) = held f c && held_all f cs

-- no character is too wide: else 15
unfoldable pub narrow_all : List ℕ → Characters → List Cell → Bool
narrow_all f text [] = true
narrow_all f text (c ∷ cs) = narrow f text c && narrow_all f text cs

unfoldable pub bytes_all : List ℕ → Characters → List Cell → List ℕ
bytes_all f text [] = []
bytes_all f text (c ∷ cs) = bytes f text c ++ bytes_all f text cs

-- how many bytes: by the forms of the nodes alone
unfoldable pub size : List ℕ → Cell → ℕ
size f c = size_as (form_of f c)

unfoldable pub size_all : List ℕ → List Cell → ℕ
size_all f [] = 0
size_all f (c ∷ cs) = size f c + size_all f cs

-- ---- reading, along the nodes of the variable's own tree: each takes as many bytes as its form has
-- each node is written as its bytes, and no byte is left: else 14
unfoldable pub readable_all : List ℕ → List Cell → List ℕ → Bool
readable_all f [] [] = true
readable_all f [] (b ∷ bs) = false
readable_all f (c ∷ cs) bs = readable f c (take (size f c) bs) && readable_all f cs (drop (size f c) bs)

unfoldable pub text_all : List ℕ → List Cell → List ℕ → List ℕ
text_all f [] bs = []
text_all f (c ∷ cs) bs = text_read f c (take (size f c) bs) ++ text_all f cs (drop (size f c) bs)

unfoldable pub node_words_of : Node → List ℕ
node_words_of h = h.name ∷ h.kind ∷ h.sign ∷ h.low ∷ h.high ∷ h.width ∷ []

-- the nodes, where so many characters were read before
unfoldable pub nodes_all : List ℕ → ℕ → List Cell → List ℕ → List ℕ
nodes_all f at [] bs = []
nodes_all f at (c ∷ cs) bs =
    let own : List ℕ = take (size f c) bs in
    node_words_of (node_read f at c own) ++ nodes_all f (at + length (text_read f c own)) cs (drop (size f c) bs)

-- what this file computes with
unfoldable pub opened : Unit {0}
unfolding held_all narrow_all bytes_all size size_all readable_all text_all node_words_of nodes_all
opened = tt
