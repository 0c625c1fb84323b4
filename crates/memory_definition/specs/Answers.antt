-- What the functions of start memory answer, and what they leave in the words and bytes that they are lent (document 02, Q-1: "without a tree none or 8; in writing 14 for
-- a node its shape can't hold, then 15 for a character too wide; in reading 14 for bytes that no tree of these parts is written as; all before 10"). Before these come the
-- refusals of a variable's tree, which wants the same work words.
use Rattle.std.specs.Prelude.{◌&&◌, List, [], ◌∷◌, ℕ, ◌*◌, ◌^◌, eqb, leb, length, Option, Result}
use Rattle.definition.specs.Base.{pick}
use Rattle.definition.specs.Accept.{need}
use Rattle.definition.specs.Ask.{ok, none, large, Outcome}
use Rattle.definition.specs.Starting.{variable_outcome}
use Rattle.definition.specs.Answers.{Says, refuses, says, tree_says, packed, answered, variable_refused, over}
use Rattle.definition.specs.declared.answers.Refusal.{Refusal}
use Rattle.memory_definition.specs.Cells.{Cell, variable_cells}
use Rattle.memory_definition.specs.Forms.{file_characters}
use Rattle.memory_definition.specs.Memory.{held_all, narrow_all, bytes_all, readable_all, text_all, nodes_all}

-- a start memory's number of bytes
abbrev pub memory_says : Result (Option ℕ) Refusal → Says
memory_says = tree_says

-- the same as a number, for C: the refusal's number times 2 ^ 32, or the number of bytes; none is 4294967295, since a structure without fields has 0 bytes
unfoldable pub memory_code : Says → ℕ
memory_code (refuses n) = n * 2 ^ 32
memory_code (says state values) = pick (eqb state 0) (packed values) 4294967295

-- ---- write_memory(file, variable, bytes, work)
unfoldable pub cell_bytes : List ℕ → List Cell → List ℕ
cell_bytes f cs = bytes_all f (file_characters f) cs

unfoldable pub cells_refused : List ℕ → List Cell → ℕ → ℕ
cells_refused f cs out = need (held_all f cs) 14 λ u. need (narrow_all f (file_characters f) cs) 15 λ v. need (leb (length (cell_bytes f cs)) out) 10 λ w. 0

unfoldable pub cells_answer : List ℕ → List Cell → ℕ → Says
cells_answer f cs out = answered (cells_refused f cs out) refuses (λ u. says 0 (length (cell_bytes f cs) ∷ []))

unfoldable pub cells_out : List ℕ → List Cell → List ℕ → List ℕ
cells_out f cs out = answered (cells_refused f cs (length out)) (λ n. out) (λ u. over (cell_bytes f cs) out)

unfoldable pub memory_of : List ℕ → ℕ → Outcome → ℕ → Says
memory_of f v (ok t) out = cells_answer f (variable_cells f v t) out
memory_of f v none out = says 1 []
memory_of f v large out = refuses 8

unfoldable pub memory_in : List ℕ → ℕ → Outcome → List ℕ → List ℕ
memory_in f v (ok t) out = cells_out f (variable_cells f v t) out
memory_in f v none out = out
memory_in f v large out = out

unfoldable pub write_memory_answer : List ℕ → ℕ → ℕ → ℕ → ℕ → Says
write_memory_answer f v out lines room = answered (variable_refused f v lines room) refuses (λ u. memory_of f v (variable_outcome f v) out)

unfoldable pub write_memory_out : List ℕ → ℕ → List ℕ → ℕ → ℕ → List ℕ
write_memory_out f v out lines room = answered (variable_refused f v lines room) (λ n. out) (λ u. memory_in f v (variable_outcome f v) out)

-- ---- read_memory(file, variable, bytes, nodes, characters, work): the answer is the number of nodes
unfoldable pub read_refused : List ℕ → List Cell → List ℕ → ℕ → ℕ → ℕ
read_refused f cs bs nodes text =
    need (readable_all f cs bs) 14 λ u. need (leb (length (nodes_all f 0 cs bs)) nodes && leb (length (text_all f cs bs)) text) 10 λ v. 0

unfoldable pub read_answer : List ℕ → List Cell → List ℕ → ℕ → ℕ → Says
read_answer f cs bs nodes text = answered (read_refused f cs bs nodes text) refuses (λ u. says 0 (length cs ∷ []))

-- words over lent ones, where nothing is refused
unfoldable pub read_over : List ℕ → List Cell → List ℕ → ℕ → ℕ → List ℕ → List ℕ → List ℕ
read_over f cs bs nodes text words old = answered (read_refused f cs bs nodes text) (λ n. old) (λ u. over words old)

unfoldable pub tree_read_of : List ℕ → ℕ → Outcome → List ℕ → ℕ → ℕ → Says
tree_read_of f v (ok t) bs nodes text = read_answer f (variable_cells f v t) bs nodes text
tree_read_of f v none bs nodes text = says 1 []
tree_read_of f v large bs nodes text = refuses 8

unfoldable pub nodes_read_of : List ℕ → ℕ → Outcome → List ℕ → List ℕ → ℕ → List ℕ
nodes_read_of f v (ok t) bs nodes text =
    let cs : List Cell = variable_cells f v t in
    read_over f cs bs (length nodes) text (nodes_all f 0 cs bs) nodes
nodes_read_of f v none bs nodes text = nodes
nodes_read_of f v large bs nodes text = nodes

unfoldable pub text_read_of : List ℕ → ℕ → Outcome → List ℕ → ℕ → List ℕ → List ℕ
text_read_of f v (ok t) bs nodes text =
    let cs : List Cell = variable_cells f v t in
    read_over f cs bs nodes (length text) (text_all f cs bs) text
text_read_of f v none bs nodes text = text
text_read_of f v large bs nodes text = text

unfoldable pub read_memory_answer : List ℕ → ℕ → List ℕ → ℕ → ℕ → ℕ → ℕ → Says
read_memory_answer f v bs nodes text lines room = answered (variable_refused f v lines room) refuses (λ u. tree_read_of f v (variable_outcome f v) bs nodes text)

unfoldable pub read_memory_nodes : List ℕ → ℕ → List ℕ → List ℕ → ℕ → ℕ → ℕ → List ℕ
read_memory_nodes f v bs nodes text lines room = answered (variable_refused f v lines room) (λ n. nodes) (λ u. nodes_read_of f v (variable_outcome f v) bs nodes text)

unfoldable pub read_memory_text : List ℕ → ℕ → List ℕ → ℕ → List ℕ → ℕ → ℕ → List ℕ
read_memory_text f v bs nodes text lines room = answered (variable_refused f v lines room) (λ n. text) (λ u. text_read_of f v (variable_outcome f v) bs nodes text)

-- what this file computes with
unfoldable pub opened : Unit {0}
unfolding memory_code cell_bytes cells_refused cells_answer cells_out memory_of memory_in write_memory_answer write_memory_out read_refused read_answer read_over tree_read_of nodes_read_of text_read_of read_memory_answer read_memory_nodes read_memory_text
opened = tt
