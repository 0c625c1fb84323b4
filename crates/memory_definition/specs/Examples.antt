-- Nodes as bytes and read from bytes, on given shapes, and whole variables: bytes and words by hand, from document 02 and IEEE 754. Each side of each bound.
use Rattle.std.specs.Prelude.{◌≡◌, refl, List, [], ◌∷◌, ◌++◌, map, ℕ, replicate}
use Rattle.definition.specs.declared.records.Shape.{Shape}
use Rattle.definition.specs.declared.records.Shape.TheVariants as shape
use Rattle.definition.specs.Base.{pick}
use Rattle.definition.specs.declared.records.Place.{Place}
use Rattle.definition.specs.Tree.{Node, Tree, node, tnil, tcons, structure_tree}
use Rattle.definition.specs.Places.{bare}
use Rattle.definition.specs.Answers.{Says, refuses, says}
use Rattle.definition.specs.Computing.{computing}
use Rattle.definition.specs.ExampleFiles.{sections, plain, array_of, type, variable, naming, int, integer, bool}
use Rattle.definition.specs.ExampleFiles as files
use Rattle.memory_definition.specs.Cells as Cells
use Rattle.memory_definition.specs.Cells.{Cell, cell, cells}
use Rattle.memory_definition.specs.Numbers as Numbers
use Rattle.memory_definition.specs.Forms as Forms
use Rattle.memory_definition.specs.Forms.{held, narrow, bytes, file_characters, node_read, text_read, readable}
use Rattle.memory_definition.specs.Memory as Memory
use Rattle.memory_definition.specs.Memory.{node_words_of}
use Rattle.memory_definition.specs.Answers as Answers
use Rattle.memory_definition.specs.Answers.{cell_bytes, cells_answer, write_memory_answer, write_memory_out, read_memory_answer, read_memory_nodes, read_memory_text}

-- all that start memory computes with
unfoldable pub remembering : Unit {0}
unfolding computing files.opened Cells.opened Numbers.opened Forms.opened Memory.opened Answers.opened
remembering = tt

record Row (A : Type 0) : Type 0 where
  computed : A
  is : A

row : {A : Type 0} → A → A → Row A
row computed is = record { computed = computed; is = is }

-- shapes: 0 INT, 1 a subrange 1..9 of INT, 2 BOOL, 3 SINT, 4 an ARRAY 1..3 OF INT; members 7, 8 and 7 again; fields 11 of INT and 12 of BOOL; a dimension 1..3; constants 1, 9
-- and 200; characters A, B, C, 255, 256, 65,535 and 65,536
file : List ℕ
file =
    sections (
    ((254 ∷ []) ∷ []) ∷
    (int 16 ∷ (13 ∷ 0 ∷ 0 ∷ 1 ∷ 0 ∷ []) ∷ bool ∷ int 8 ∷ (12 ∷ 0 ∷ 0 ∷ 1 ∷ 0 ∷ []) ∷ []) ∷
    ((7 ∷ []) ∷ (8 ∷ []) ∷ (7 ∷ []) ∷ []) ∷
    ((11 ∷ 0 ∷ 0 ∷ []) ∷ (12 ∷ 2 ∷ 0 ∷ []) ∷ []) ∷
    ((1 ∷ 3 ∷ []) ∷ []) ∷
    [] ∷ [] ∷ [] ∷ [] ∷ [] ∷ [] ∷ [] ∷
    (integer 0 1 ∷ integer 0 9 ∷ integer 0 200 ∷ []) ∷
    ((65 ∷ []) ∷ (66 ∷ []) ∷ (67 ∷ []) ∷ (255 ∷ []) ∷ (256 ∷ []) ∷ (65535 ∷ []) ∷ (65536 ∷ []) ∷ []) ∷ [])

-- a node under a name, which has no bytes
named : ℕ → ℕ → ℕ → ℕ → ℕ → Node
named kind sign low high width = record { name = 3; kind = kind; sign = sign; low = low; high = high; width = width }

-- 0 and the bytes, or the refusal
written : Shape → Node → List ℕ
written s h =
    let c : Cell = cell s h in
    pick (held file c) (pick (narrow file (file_characters file) c) (0 ∷ bytes file (file_characters file) c) (15 ∷ [])) (14 ∷ [])

-- 0, the node's words and its characters, behind ten that were read before, or the refusal
read : Shape → Node → List ℕ → List ℕ
read s h bs =
    let c : Cell = cell s h in
    pick (readable file c bs) (0 ∷ node_words_of (node_read file 10 c bs) ++ text_read file c bs) (14 ∷ [])

-- an integer, any leaf, a null
whole : ℕ → ℕ → ℕ → Node
whole sign low high = named 1 sign low high 0

any : Node
any = whole 0 0 0

null : Node
null = named 10 0 0 0 0

real : ℕ → ℕ → Node
real low high = named 3 0 low high 0

rows : List (Row (List ℕ))
rows =
    row (written shape.Bool (named 0 0 1 0 0)) (0 ∷ 1 ∷ []) ∷
    row (written shape.Bool (whole 0 1 0)) (14 ∷ []) ∷
    -- two's complement, the low byte first
    row (written (shape.Int 8) (whole 1 1 0)) (0 ∷ 255 ∷ []) ∷
    row (written (shape.Int 8) (whole 1 128 0)) (0 ∷ 128 ∷ []) ∷
    row (written (shape.Int 8) (whole 1 129 0)) (14 ∷ []) ∷
    row (written (shape.Int 16) (whole 1 2 0)) (0 ∷ 254 ∷ 255 ∷ []) ∷
    row (written (shape.Int 16) (whole 0 32767 0)) (0 ∷ 255 ∷ 127 ∷ []) ∷
    row (written (shape.Int 16) (whole 0 32768 0)) (14 ∷ []) ∷
    row (written (shape.Int 32) (whole 1 2147483648 0)) (0 ∷ 0 ∷ 0 ∷ 0 ∷ 128 ∷ []) ∷
    row (written (shape.Int 64) (whole 1 1 0)) (0 ∷ replicate 8 255) ∷
    row (written (shape.Int 64) (whole 1 0 2147483648)) (0 ∷ replicate 7 0 ++ 128 ∷ []) ∷
    row (written (shape.UInt 16) (whole 0 258 0)) (0 ∷ 2 ∷ 1 ∷ []) ∷
    row (written (shape.UInt 16) (whole 1 1 0)) (14 ∷ []) ∷
    row (written (shape.UInt 64) (whole 0 4294967295 4294967295)) (0 ∷ replicate 8 255) ∷
    row (written (shape.Bytes 16) (named 2 0 65535 0 0)) (0 ∷ 255 ∷ 255 ∷ []) ∷
    row (written (shape.Time 32) (named 4 1 1 0 0)) (0 ∷ replicate 4 255) ∷
    row (written (shape.Time 64) (named 4 0 1 0 1)) (0 ∷ 1 ∷ replicate 7 0) ∷
    row (written (shape.Date 32) (named 6 0 86400 0 0)) (0 ∷ 128 ∷ 81 ∷ 1 ∷ 0 ∷ []) ∷
    row (written (shape.TimeOfDay 32) (named 5 0 1 0 0)) (0 ∷ 1 ∷ 0 ∷ 0 ∷ 0 ∷ []) ∷
    row (written (shape.TimeOfDay 32) (named 7 0 1 0 0)) (14 ∷ []) ∷
    row (written (shape.DateAndTime 64) (named 7 0 0 1 0)) (0 ∷ 0 ∷ 0 ∷ 0 ∷ 0 ∷ 1 ∷ 0 ∷ 0 ∷ 0 ∷ []) ∷
    -- REAL: 0.1; 2 ^ -149, the smallest; 2 ^ -150, a tie to 0; below 2 ^ 128 - 2 ^ 103 the greatest, from there on an infinity; -infinity; not a number
    row (written (shape.Real 32) (real 2576980378 1069128089)) (0 ∷ 205 ∷ 204 ∷ 204 ∷ 61 ∷ []) ∷
    row (written (shape.Real 32) (real 0 916455424)) (0 ∷ 1 ∷ 0 ∷ 0 ∷ 0 ∷ []) ∷
    row (written (shape.Real 32) (real 0 915406848)) (0 ∷ 0 ∷ 0 ∷ 0 ∷ 0 ∷ []) ∷
    row (written (shape.Real 32) (real 4026531839 1206910975)) (0 ∷ 255 ∷ 255 ∷ 127 ∷ 127 ∷ []) ∷
    row (written (shape.Real 32) (real 4026531840 1206910975)) (0 ∷ 0 ∷ 0 ∷ 128 ∷ 127 ∷ []) ∷
    row (written (shape.Real 8) (real 0 4293918720)) (0 ∷ 0 ∷ 0 ∷ 128 ∷ 255 ∷ []) ∷
    row (written (shape.Real 32) (real 0 2146959360)) (14 ∷ []) ∷
    row (written (shape.Real 64) (real 0 2146959360)) (0 ∷ replicate 6 0 ++ 248 ∷ 127 ∷ []) ∷
    row (written (shape.Real 64) (whole 0 1 0)) (14 ∷ []) ∷
    -- strings: greatest length, length, characters, zeros
    row (written (shape.String 6 0) (named 8 0 0 3 0)) (0 ∷ 5 ∷ 0 ∷ 3 ∷ 0 ∷ 65 ∷ 66 ∷ 67 ∷ 0 ∷ 0 ∷ []) ∷
    row (written (shape.String 3 1) (named 8 0 1 1 1)) (0 ∷ 2 ∷ 0 ∷ 1 ∷ 0 ∷ 66 ∷ 0 ∷ 0 ∷ 0 ∷ []) ∷
    row (written (shape.String 1 0) (named 8 0 0 0 0)) (0 ∷ 0 ∷ 0 ∷ 0 ∷ 0 ∷ []) ∷
    row (written (shape.String 3 0) (named 8 0 0 3 0)) (14 ∷ []) ∷
    row (written (shape.String 6 0) (named 8 0 0 3 1)) (14 ∷ []) ∷
    row (written (shape.String 65537 0) (named 8 0 0 0 0)) (14 ∷ []) ∷
    -- characters cut have no bytes, and only the width in the last word is compared with the shape's (document 02, Q-2: "14 disregards it"): 1; 1 and 2 of a wide string; all;
    -- the most that a word counts; another width
    row (written (shape.String 4 0) (named 8 0 0 3 2)) (0 ∷ 3 ∷ 0 ∷ 3 ∷ 0 ∷ 65 ∷ 66 ∷ 67 ∷ []) ∷
    row (written (shape.String 2 1) (named 8 0 1 1 3)) (0 ∷ 1 ∷ 0 ∷ 1 ∷ 0 ∷ 66 ∷ 0 ∷ []) ∷
    row (written (shape.String 2 1) (named 8 0 1 1 5)) (0 ∷ 1 ∷ 0 ∷ 1 ∷ 0 ∷ 66 ∷ 0 ∷ []) ∷
    row (written (shape.String 1 0) (named 8 0 0 0 6)) (0 ∷ 0 ∷ 0 ∷ 0 ∷ 0 ∷ []) ∷
    row (written (shape.String 4 0) (named 8 0 0 3 4294967294)) (0 ∷ 3 ∷ 0 ∷ 3 ∷ 0 ∷ 65 ∷ 66 ∷ 67 ∷ []) ∷
    row (written (shape.String 4 0) (named 8 0 0 3 3)) (14 ∷ []) ∷
    row (written (shape.String 2 1) (named 8 0 1 1 2)) (14 ∷ []) ∷
    row (written (shape.String 2 1) (named 8 0 1 1 4)) (14 ∷ []) ∷
    -- only strings count characters in that word
    row (written (shape.Int 16) (named 1 0 1 0 2)) (14 ∷ []) ∷
    row (written (shape.Time 64) (named 4 0 1 0 3)) (14 ∷ []) ∷
    -- characters 255 and 256, 65,535 and 65,536
    row (written (shape.String 2 0) (named 8 0 3 1 0)) (0 ∷ 1 ∷ 0 ∷ 1 ∷ 0 ∷ 255 ∷ []) ∷
    row (written (shape.String 2 0) (named 8 0 4 1 0)) (15 ∷ []) ∷
    row (written (shape.String 2 1) (named 8 0 5 1 1)) (0 ∷ 1 ∷ 0 ∷ 1 ∷ 0 ∷ 255 ∷ 255 ∷ []) ∷
    row (written (shape.String 2 1) (named 8 0 6 1 1)) (15 ∷ []) ∷
    -- a member's first place, whatever its qualifier; no member
    row (written (shape.Enumeration 0 3 0 0) (named 9 0 8 0 0)) (0 ∷ 1 ∷ 0 ∷ []) ∷
    row (written (shape.Enumeration 0 3 0 0) (named 9 0 7 5 0)) (0 ∷ 0 ∷ 0 ∷ []) ∷
    row (written (shape.Enumeration 0 3 0 0) (named 9 0 9 0 0)) (14 ∷ []) ∷
    row (written (shape.Enumeration 1 2 0 0) (named 9 0 7 0 0)) (0 ∷ 1 ∷ 0 ∷ []) ∷
    row (written (shape.Int 16) (named 9 0 7 0 0)) (14 ∷ []) ∷
    -- any null; references and expressions
    row (written (shape.Reference 0) null) (0 ∷ replicate 4 0) ∷
    row (written (shape.Int 16) null) (0 ∷ replicate 4 0) ∷
    row (written (shape.Reference 0) (named 11 0 0 0 0)) (14 ∷ []) ∷
    row (written (shape.Int 16) (named 12 0 0 0 0)) (14 ∷ []) ∷
    -- subranges stand as their base does
    row (written (shape.Subrange 0 0 1) (whole 0 9 0)) (0 ∷ 9 ∷ 0 ∷ []) ∷
    row (written (shape.Subrange 0 0 1) (whole 0 10 0)) (14 ∷ []) ∷
    row (written (shape.Subrange 1 0 1) (whole 0 5 0)) (0 ∷ 5 ∷ 0 ∷ []) ∷
    row (written (shape.Subrange 2 0 1) (whole 0 1 0)) (14 ∷ []) ∷
    row (written (shape.Subrange 3 0 2) (whole 0 127 0)) (0 ∷ 127 ∷ []) ∷
    row (written (shape.Subrange 3 0 2) (whole 0 128 0)) (14 ∷ []) ∷
    -- heads have no bytes of their own; a leaf at a place with parts, and a head at one without
    row (written (shape.Structure 0 0) (named 14 0 0 0 0)) (0 ∷ []) ∷
    row (written (shape.Structure 0 1) (named 14 0 0 0 0)) (14 ∷ []) ∷
    row (written (shape.FunctionBlock 1) (named 14 0 2 0 0)) (0 ∷ []) ∷
    row (written (shape.Array 0 0 1) (named 13 0 3 0 0)) (0 ∷ []) ∷
    row (written (shape.Array 0 0 1) (named 13 0 2 0 0)) (14 ∷ []) ∷
    row (written (shape.Array 4 0 1) (named 13 0 9 0 0)) (0 ∷ []) ∷
    row (written (shape.Structure 0 0) any) (14 ∷ []) ∷
    row (written (shape.Int 16) (named 14 0 0 0 0)) (14 ∷ []) ∷
    -- read: the shape's kind and width, without a name and a qualifier
    row (read shape.Bool any (1 ∷ [])) (0 ∷ 0 ∷ 0 ∷ 0 ∷ 1 ∷ 0 ∷ 0 ∷ []) ∷
    row (read shape.Bool any (2 ∷ [])) (14 ∷ []) ∷
    row (read (shape.Int 16) any (254 ∷ 255 ∷ [])) (0 ∷ 0 ∷ 1 ∷ 1 ∷ 2 ∷ 0 ∷ 0 ∷ []) ∷
    row (read (shape.Int 16) any (254 ∷ [])) (14 ∷ []) ∷
    row (read (shape.Int 16) any (254 ∷ 255 ∷ 0 ∷ [])) (14 ∷ []) ∷
    row (read (shape.Int 16) (named 12 0 0 0 0) (5 ∷ 0 ∷ [])) (0 ∷ 0 ∷ 1 ∷ 0 ∷ 5 ∷ 0 ∷ 0 ∷ []) ∷
    row (read (shape.Int 64) any (replicate 7 0 ++ 128 ∷ [])) (0 ∷ 0 ∷ 1 ∷ 1 ∷ 0 ∷ 2147483648 ∷ 0 ∷ []) ∷
    row (read (shape.Bytes 16) (named 2 0 0 0 0) (255 ∷ 255 ∷ [])) (0 ∷ 0 ∷ 1 ∷ 0 ∷ 65535 ∷ 0 ∷ 0 ∷ []) ∷
    row (read (shape.Time 64) any (replicate 8 255)) (0 ∷ 0 ∷ 4 ∷ 1 ∷ 1 ∷ 0 ∷ 1 ∷ []) ∷
    row (read (shape.DateAndTime 32) any (1 ∷ 0 ∷ 0 ∷ 128 ∷ [])) (0 ∷ 0 ∷ 7 ∷ 0 ∷ 2147483649 ∷ 0 ∷ 0 ∷ []) ∷
    row (read (shape.Real 32) any (205 ∷ 204 ∷ 204 ∷ 61 ∷ [])) (0 ∷ 0 ∷ 3 ∷ 0 ∷ 2684354560 ∷ 1069128089 ∷ 0 ∷ []) ∷
    row (read (shape.Real 32) any (0 ∷ 0 ∷ 192 ∷ 127 ∷ [])) (14 ∷ []) ∷
    row (read (shape.Real 64) any (replicate 6 0 ++ 248 ∷ 127 ∷ [])) (0 ∷ 0 ∷ 3 ∷ 0 ∷ 0 ∷ 2146959360 ∷ 0 ∷ []) ∷
    row (read (shape.String 6 0) any (5 ∷ 0 ∷ 3 ∷ 0 ∷ 65 ∷ 66 ∷ 67 ∷ 0 ∷ 0 ∷ [])) (0 ∷ 0 ∷ 8 ∷ 0 ∷ 10 ∷ 3 ∷ 0 ∷ 65 ∷ 66 ∷ 67 ∷ []) ∷
    row (read (shape.String 6 0) any (5 ∷ 0 ∷ 0 ∷ 0 ∷ 0 ∷ 0 ∷ 0 ∷ 0 ∷ 0 ∷ [])) (0 ∷ 0 ∷ 8 ∷ 0 ∷ 0 ∷ 0 ∷ 0 ∷ []) ∷
    row (read (shape.String 6 0) any (5 ∷ 0 ∷ 3 ∷ 0 ∷ 65 ∷ 66 ∷ 67 ∷ 0 ∷ 1 ∷ [])) (14 ∷ []) ∷
    row (read (shape.String 6 0) any (4 ∷ 0 ∷ 3 ∷ 0 ∷ 65 ∷ 66 ∷ 67 ∷ 0 ∷ 0 ∷ [])) (14 ∷ []) ∷
    row (read (shape.String 6 0) any (5 ∷ 0 ∷ 6 ∷ 0 ∷ 65 ∷ 66 ∷ 67 ∷ 65 ∷ 66 ∷ [])) (14 ∷ []) ∷
    row (read (shape.String 3 1) any (2 ∷ 0 ∷ 1 ∷ 0 ∷ 0 ∷ 1 ∷ 0 ∷ 0 ∷ [])) (0 ∷ 0 ∷ 8 ∷ 0 ∷ 10 ∷ 1 ∷ 1 ∷ 256 ∷ []) ∷
    -- a tree read from bytes has none cut (document 02, Q-2), whatever the tree asked for has
    row (read (shape.String 4 0) (named 8 0 0 3 2) (3 ∷ 0 ∷ 3 ∷ 0 ∷ 65 ∷ 66 ∷ 67 ∷ [])) (0 ∷ 0 ∷ 8 ∷ 0 ∷ 10 ∷ 3 ∷ 0 ∷ 65 ∷ 66 ∷ 67 ∷ []) ∷
    row (read (shape.String 2 1) (named 8 0 1 1 5) (1 ∷ 0 ∷ 1 ∷ 0 ∷ 66 ∷ 0 ∷ [])) (0 ∷ 0 ∷ 8 ∷ 0 ∷ 10 ∷ 1 ∷ 1 ∷ 66 ∷ []) ∷
    row (read (shape.String 1 0) (named 8 0 0 0 6) (replicate 4 0)) (0 ∷ 0 ∷ 8 ∷ 0 ∷ 0 ∷ 0 ∷ 0 ∷ []) ∷
    row (read (shape.Enumeration 0 3 0 0) (named 9 0 8 5 0) (0 ∷ 0 ∷ [])) (0 ∷ 0 ∷ 9 ∷ 0 ∷ 7 ∷ 0 ∷ 0 ∷ []) ∷
    row (read (shape.Enumeration 0 3 0 0) (named 9 0 8 0 0) (2 ∷ 0 ∷ [])) (14 ∷ []) ∷
    row (read (shape.Enumeration 0 3 0 0) (named 9 0 8 0 0) (3 ∷ 0 ∷ [])) (14 ∷ []) ∷
    row (read (shape.Int 16) null (replicate 4 0)) (0 ∷ 0 ∷ 10 ∷ 0 ∷ 0 ∷ 0 ∷ 0 ∷ []) ∷
    row (read (shape.Int 16) null (0 ∷ 0 ∷ [])) (14 ∷ []) ∷
    row (read (shape.Reference 0) (named 12 0 0 0 0) (replicate 4 0)) (0 ∷ 0 ∷ 10 ∷ 0 ∷ 0 ∷ 0 ∷ 0 ∷ []) ∷
    row (read (shape.Reference 0) null (1 ∷ 0 ∷ 0 ∷ 0 ∷ [])) (14 ∷ []) ∷
    row (read (shape.Subrange 0 0 1) any (9 ∷ 0 ∷ [])) (0 ∷ 0 ∷ 1 ∷ 0 ∷ 9 ∷ 0 ∷ 0 ∷ []) ∷
    row (read (shape.Subrange 0 0 1) any (10 ∷ 0 ∷ [])) (14 ∷ []) ∷
    row (read (shape.Subrange 2 0 1) any (1 ∷ [])) (14 ∷ []) ∷
    row (read (shape.FunctionBlock 1) (named 14 0 2 0 0) []) (0 ∷ 0 ∷ 14 ∷ 0 ∷ 2 ∷ 0 ∷ 0 ∷ []) ∷
    row (read (shape.Interface 1) any []) (14 ∷ []) ∷
    []

-- ---- trees at a place: the parts follow without gaps, a structure's in the order of its shape; 14 comes before 15, and both before 10
fields : Place
fields = bare (shape.Structure 0 2)

part : ℕ → ℕ → ℕ → Tree
part name kind low = node (record { name = name; kind = kind; sign = 0; low = low; high = 0; width = 0 }) tnil

both : Tree → Tree → List Cell
both t u = cells file fields (structure_tree (tcons t (tcons u tnil)))

-- a character too wide, and an expression
wide : Cell
wide = cell (shape.String 2 0) (named 8 0 4 1 0)

left : Cell
left = cell (shape.Int 16) (named 12 0 0 0 0)

trees : List (Row Says)
trees =
    row (cells_answer file (both (part 11 1 5) (part 12 0 1)) 3) (says 0 (3 ∷ [])) ∷
    row (cells_answer file (both (part 11 1 5) (part 12 0 1)) 2) (refuses 10) ∷
    row (cells_answer file (both (part 12 0 1) (part 11 1 5)) 3) (refuses 14) ∷
    row (cells_answer file (both (part 11 1 5) (part 13 0 1)) 3) (refuses 14) ∷
    row (cells_answer file (wide ∷ []) 0) (refuses 15) ∷
    row (cells_answer file (wide ∷ left ∷ []) 0) (refuses 14) ∷
    []

-- ---- whole variables: `plain` is a BOOL, which wants 12,291 words of lines and 49,152 of room; an ARRAY 1..3 OF INT wants 24,582 and 73,728
three : List ℕ
three = array_of 3 (variable 2 ∷ []) (naming 3 2 ∷ [])

-- a variable of no type with a call
valueless : List ℕ
valueless = array_of 1 (variable 0 ∷ []) (naming 12 0 ∷ [])

-- an array of 2,048 entries, whose tree is too large
large : List ℕ
large = array_of 2048 (variable 2 ∷ []) (naming 3 2 ∷ [])

-- a variable STRING[3] := 'ABCD', whose last character is cut
caption : List ℕ
caption =
    files.file 254 (bool ∷ []) [] (type 0 0 ∷ []) (variable 1 ∷ []) ((4 ∷ 1 ∷ 0 ∷ 1 ∷ 0 ∷ 0 ∷ 4 ∷ 0 ∷ []) ∷ []) [] [] ((8 ∷ 0 ∷ 0 ∷ 4 ∷ 0 ∷ []) ∷ [])
    ((65 ∷ []) ∷ (66 ∷ []) ∷ (67 ∷ []) ∷ (68 ∷ []) ∷ [])

caption_bytes : List ℕ
caption_bytes = 3 ∷ 0 ∷ 3 ∷ 0 ∷ 65 ∷ 66 ∷ 67 ∷ []

answers : List (Row Says)
answers =
    row (write_memory_answer plain 0 1 12291 49152) (says 0 (1 ∷ [])) ∷
    row (write_memory_answer plain 0 0 12291 49152) (refuses 10) ∷
    row (write_memory_answer plain 1 1 12291 49152) (refuses 7) ∷
    row (write_memory_answer plain 0 1 12290 49152) (refuses 10) ∷
    row (write_memory_answer three 0 6 24582 73728) (says 0 (6 ∷ [])) ∷
    row (write_memory_answer three 0 5 24582 73728) (refuses 10) ∷
    row (write_memory_answer valueless 0 0 24582 73728) (says 1 []) ∷
    row (write_memory_answer large 0 0 24582 73728) (refuses 8) ∷
    row (write_memory_answer caption 0 7 12291 49152) (says 0 (7 ∷ [])) ∷
    row (read_memory_answer plain 0 (1 ∷ []) 6 0 12291 49152) (says 0 (1 ∷ [])) ∷
    row (read_memory_answer plain 0 (2 ∷ []) 0 0 12291 49152) (refuses 14) ∷
    row (read_memory_answer plain 0 [] 6 0 12291 49152) (refuses 14) ∷
    row (read_memory_answer plain 0 (1 ∷ 0 ∷ []) 6 0 12291 49152) (refuses 14) ∷
    row (read_memory_answer plain 0 (1 ∷ []) 5 0 12291 49152) (refuses 10) ∷
    row (read_memory_answer three 0 (replicate 6 255) 24 0 24582 73728) (says 0 (4 ∷ [])) ∷
    row (read_memory_answer valueless 0 [] 0 0 24582 73728) (says 1 []) ∷
    row (read_memory_answer large 0 [] 0 0 24582 73728) (refuses 8) ∷
    row (read_memory_answer caption 0 caption_bytes 6 3 12291 49152) (says 0 (1 ∷ [])) ∷
    []

-- what is left in the lent bytes and words: what lies behind an answer stays, and a refusal leaves all
outs : List (Row (List ℕ))
outs =
    row (cell_bytes file (both (part 11 1 5) (part 12 0 1))) (5 ∷ 0 ∷ 1 ∷ []) ∷
    row (write_memory_out three 0 (replicate 8 9) 24582 73728) (replicate 6 0 ++ 9 ∷ 9 ∷ []) ∷
    row (write_memory_out three 0 (replicate 5 9) 24582 73728) (replicate 5 9) ∷
    row (read_memory_nodes plain 0 (1 ∷ []) (replicate 8 9) 0 12291 49152) (0 ∷ 0 ∷ 0 ∷ 1 ∷ 0 ∷ 0 ∷ 9 ∷ 9 ∷ []) ∷
    row (read_memory_nodes plain 0 (2 ∷ []) (replicate 8 9) 0 12291 49152) (replicate 8 9) ∷
    row (read_memory_text plain 0 (1 ∷ []) 6 (9 ∷ []) 12291 49152) (9 ∷ []) ∷
    row (write_memory_out caption 0 (replicate 7 9) 12291 49152) caption_bytes ∷
    row (read_memory_nodes caption 0 caption_bytes (replicate 6 9) 3 12291 49152) (0 ∷ 8 ∷ 0 ∷ 0 ∷ 3 ∷ 0 ∷ []) ∷
    row (read_memory_text caption 0 caption_bytes 6 (replicate 3 9) 12291 49152) (65 ∷ 66 ∷ 67 ∷ []) ∷
    []

all_computed : {A : Type 0} → List (Row A) → List A
all_computed rs = map (λ r. r.computed) rs

all-is : {A : Type 0} → List (Row A) → List A
all-is rs = map (λ r. r.is) rs

examples : (all_computed rows ≡ all-is rows) × (all_computed trees ≡ all-is trees) × (all_computed answers ≡ all-is answers) × (all_computed outs ≡ all-is outs)
unfolding remembering row file named written read whole any null real rows fields part both wide left trees three valueless large caption caption_bytes answers outs all_computed all-is
examples = (refl, refl, refl, refl)
