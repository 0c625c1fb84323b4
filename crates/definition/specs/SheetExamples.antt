-- Uses, ranks, sheets and what the check answers, on given files. What is expected was worked out from document 01, but for the lines of the two generated files.
use Rattle.std.specs.Prelude.{◌≡◌, refl, List, [], ◌∷◌, ◌++◌, map, ℕ, suc, take, set, replicate}
use Rattle.definition.specs.Base.{inline}
use Rattle.definition.specs.Accept.{verdict}
use Rattle.definition.specs.Uses.{uses, ranked, ranks_of}
use Rattle.definition.specs.Sheet.{sheet_words, check_answer}
use Rattle.definition.specs.Computing.{computing}
use Rattle.definition.specs.ExampleFiles.{sections, file, bool, type, naming, plain, opened}

-- ---- uses: a type record, the types that it uses and its rank
record TypeRow : Type 0 where
  words : List ℕ
  used : List ℕ
  rank : ℕ

type_row : List ℕ → List ℕ → ℕ → TypeRow
type_row words used rank = record { words = words; used = used; rank = rank }

-- links for alias base, element and referenced type; declaration; named type; start value; run; no block record. Uses do not depend on the shape.
declaring : ℕ → ℕ → ℕ → ℕ → ℕ → ℕ → ℕ → ℕ → List ℕ
declaring alias element referenced kind named start first many =
    0 ∷ alias ∷ element ∷ referenced ∷ kind ∷ named ∷ start ∷ first ∷ many ∷ inline ∷ 0 ∷ []

type_rows : List TypeRow
type_rows =
    -- 0 to 3: nothing declares them
    type_row (type 0 0) [] 0 ∷
    type_row (type 0 0) [] 0 ∷
    type_row (type 0 0) [] 0 ∷
    type_row (type 0 0) [] 0 ∷
    -- 4, a declared type: alias base, element, named type of the start value
    type_row (declaring 1 2 0 1 0 1 0 0) (0 ∷ 1 ∷ 2 ∷ []) 1 ∷
    -- 5 and 6: a subrange of a named type, and one spelled in place
    type_row (declaring 0 0 0 2 4 0 0 0) (3 ∷ []) 1 ∷
    type_row (declaring 0 0 0 2 inline 0 0 0) [] 0 ∷
    -- 7 and 8: an array with a named type, and one spelled in place
    type_row (declaring 0 2 0 4 3 0 0 0) (1 ∷ 2 ∷ []) 1 ∷
    type_row (declaring 0 3 0 4 inline 0 0 0) (2 ∷ []) 1 ∷
    -- 9: a structure whose elements have initializers of kinds 4, 12, 13 and 14
    type_row (declaring 0 0 0 5 0 0 0 4) (0 ∷ 1 ∷ 2 ∷ 3 ∷ []) 1 ∷
    -- 10: of kind 9 with an inline element type, of kind 9 with a named type, of kind 2 spelled in place
    type_row (declaring 0 0 0 5 0 0 4 3) (1 ∷ 2 ∷ []) 1 ∷
    -- 11 and 12, references: the named type is the referenced type; it is another
    type_row (declaring 0 0 1 6 1 0 0 0) [] 0 ∷
    type_row (declaring 0 0 1 6 2 0 0 0) (1 ∷ []) 1 ∷
    -- 13 and 14, references: the referenced type is also the alias base, the element
    type_row (declaring 1 0 1 6 1 0 0 0) (0 ∷ []) 1 ∷
    type_row (declaring 0 1 1 6 1 0 0 0) (0 ∷ []) 1 ∷
    -- 15 and 16: the referenced type is the named type outside declaration 6; it is named nowhere else
    type_row (declaring 0 0 1 8 1 0 0 0) (0 ∷ []) 1 ∷
    type_row (declaring 0 0 1 0 0 0 0 0) [] 0 ∷
    -- 17, 18 and 19: declarations 7 and 8, and 8 with a name that is not known
    type_row (declaring 0 0 0 7 3 0 0 0) (2 ∷ []) 1 ∷
    type_row (declaring 0 0 0 8 4 0 0 0) (3 ∷ []) 1 ∷
    type_row (declaring 0 0 0 8 0 0 0 0) [] 0 ∷
    -- 20, a function block: an in-out and an external with a type, an input and an output with initializers of kinds 12 and 4
    type_row (declaring 0 0 0 9 0 0 0 4) (3 ∷ 2 ∷ 1 ∷ 0 ∷ []) 1 ∷
    -- 21: block fields, an input, an in-out, an internal without a type, an output
    type_row (0 ∷ 0 ∷ 0 ∷ 0 ∷ 0 ∷ 0 ∷ 0 ∷ 0 ∷ 0 ∷ 0 ∷ 4 ∷ []) (1 ∷ 2 ∷ 3 ∷ []) 1 ∷
    -- 22 and 23: aliases of 23 and of 4
    type_row (declaring 24 0 0 0 0 0 0 0) (23 ∷ []) 3 ∷
    type_row (declaring 5 0 0 0 0 0 0 0) (4 ∷ []) 2 ∷
    []

declarations : List ℕ
declarations =
    sections (
    ((254 ∷ []) ∷ []) ∷ (bool ∷ []) ∷ [] ∷ [] ∷ [] ∷
    map (λ r. r.words) type_rows ∷
    -- block fields
    ((1 ∷ 2 ∷ 0 ∷ []) ∷ (2 ∷ 3 ∷ 2 ∷ []) ∷ (3 ∷ 0 ∷ 3 ∷ []) ∷ (4 ∷ 4 ∷ 1 ∷ []) ∷ []) ∷
    -- elements
    ((1 ∷ 1 ∷ []) ∷ (2 ∷ 2 ∷ []) ∷ (3 ∷ 3 ∷ []) ∷ (4 ∷ 4 ∷ []) ∷ (5 ∷ 5 ∷ []) ∷ (6 ∷ 6 ∷ []) ∷ (7 ∷ 7 ∷ []) ∷ []) ∷
    -- variables
    ((1 ∷ 2 ∷ 4 ∷ 8 ∷ []) ∷ (2 ∷ 3 ∷ 3 ∷ 8 ∷ []) ∷ (3 ∷ 0 ∷ 0 ∷ 2 ∷ []) ∷ (4 ∷ 1 ∷ 0 ∷ 1 ∷ []) ∷ []) ∷
    -- initializers
    (naming 3 3 ∷ naming 4 1 ∷ naming 12 2 ∷ naming 13 3 ∷ naming 14 4 ∷ (9 ∷ inline ∷ 2 ∷ 0 ∷ 0 ∷ 0 ∷ 0 ∷ 0 ∷ []) ∷ naming 9 3 ∷ naming 2 inline ∷ naming 10 0 ∷ []) ∷
    [] ∷ [] ∷ [] ∷ [] ∷ [])

uses_from : ℕ → List TypeRow → List (List ℕ)
uses_from t [] = []
uses_from t (r ∷ rs) = uses declarations t ∷ uses_from (suc t) rs

used : uses_from 0 type_rows ≡ map (λ r. r.used) type_rows
unfolding computing opened uses_from declarations type_rows type_row declaring
used = refl

ranks : ranks_of declarations ≡ ranked (map (λ r. r.rank) type_rows)
unfolding computing opened declarations type_rows type_row declaring
ranks = refl

-- ---- sheets: a file and the words that the writer gives for it, a line for each count, head and node
record SheetRow : Type 0 where
  about : List ℕ
  sheet : List ℕ

sheet-row : List ℕ → List ℕ → SheetRow
sheet-row about sheet = record { about = about; sheet = sheet }

-- file 724 of vectors/vectors.txt
enumerations : List ℕ
enumerations =
    sections (
    ((65535 ∷ []) ∷ []) ∷
    ((10 ∷ 0 ∷ 3 ∷ 1 ∷ 0 ∷ []) ∷ (12 ∷ 0 ∷ 0 ∷ 2 ∷ 0 ∷ []) ∷ []) ∷
    ((25 ∷ []) ∷ (22 ∷ []) ∷ (23 ∷ []) ∷ []) ∷
    [] ∷
    ((4294967295 ∷ 4294967295 ∷ []) ∷ (2 ∷ 2 ∷ []) ∷ []) ∷
    (type 1 2 ∷ declaring 0 0 0 7 3 0 0 0 ∷ declaring 0 0 0 7 0 0 0 0 ∷ []) ∷
    [] ∷ [] ∷
    ((7 ∷ 5 ∷ 3 ∷ 0 ∷ []) ∷ (8 ∷ 0 ∷ 3 ∷ 1 ∷ []) ∷ (3 ∷ 5 ∷ 1 ∷ 2 ∷ []) ∷ []) ∷
    (naming 5 3 ∷ (6 ∷ 3 ∷ 0 ∷ 1 ∷ 0 ∷ 0 ∷ 0 ∷ 0 ∷ []) ∷ (9 ∷ 1 ∷ 0 ∷ 0 ∷ 1 ∷ 1 ∷ 0 ∷ 0 ∷ []) ∷ []) ∷
    ((1 ∷ 0 ∷ 25 ∷ 0 ∷ []) ∷ (1 ∷ 0 ∷ 20 ∷ 0 ∷ []) ∷ []) ∷
    [] ∷ [] ∷ [] ∷ [])

-- file 90 of vectors/vectors.txt
strings : List ℕ
strings =
    sections (
    ((254 ∷ []) ∷ []) ∷
    ((9 ∷ 1 ∷ 0 ∷ 0 ∷ 0 ∷ []) ∷ (11 ∷ 0 ∷ 1 ∷ 0 ∷ 0 ∷ []) ∷ []) ∷
    [] ∷
    ((6 ∷ 0 ∷ 1 ∷ []) ∷ []) ∷
    [] ∷
    (declaring 0 0 0 1 0 1 0 0 ∷ type 0 0 ∷ (1 ∷ 0 ∷ 0 ∷ 0 ∷ 5 ∷ 0 ∷ 0 ∷ 0 ∷ 1 ∷ inline ∷ 0 ∷ []) ∷ []) ∷
    [] ∷
    ((6 ∷ 2 ∷ []) ∷ []) ∷
    ((6 ∷ 5 ∷ 1 ∷ 1 ∷ []) ∷ (1 ∷ 4 ∷ 0 ∷ 3 ∷ []) ∷ []) ∷
    (naming 3 2 ∷ (4 ∷ 1 ∷ 0 ∷ 1 ∷ 0 ∷ 0 ∷ 4294967295 ∷ 0 ∷ []) ∷ (4 ∷ 1 ∷ 0 ∷ 2 ∷ 0 ∷ 0 ∷ 3 ∷ 0 ∷ []) ∷ (4 ∷ 1 ∷ 0 ∷ 3 ∷ 0 ∷ 0 ∷ 1 ∷ 1 ∷ []) ∷ []) ∷
    [] ∷ [] ∷
    ((8 ∷ 0 ∷ 0 ∷ 0 ∷ 1 ∷ []) ∷ (8 ∷ 0 ∷ 0 ∷ 3 ∷ 1 ∷ []) ∷ (8 ∷ 0 ∷ 3 ∷ 0 ∷ 1 ∷ []) ∷ []) ∷
    ((80 ∷ []) ∷ (89 ∷ []) ∷ (85 ∷ []) ∷ []) ∷ [])

-- its sheet under ranks; the literal of three characters meets a STRING[0], so that three are cut
strings_sheet : ℕ → ℕ → ℕ → List ℕ
strings_sheet a b c =
    3 ∷
    a ∷ 0 ∷ 1 ∷
    0 ∷ 8 ∷ 0 ∷ 0 ∷ 0 ∷ 0 ∷
    b ∷ 0 ∷ 1 ∷
    0 ∷ 8 ∷ 0 ∷ 0 ∷ 0 ∷ 0 ∷
    c ∷ 0 ∷ 2 ∷
    0 ∷ 14 ∷ 0 ∷ 1 ∷ 0 ∷ 0 ∷
    6 ∷ 8 ∷ 0 ∷ 0 ∷ 0 ∷ 6 ∷
    2 ∷
    1 ∷ 0 ∷
    0 ∷ 1 ∷
    0 ∷ 8 ∷ 0 ∷ 0 ∷ 0 ∷ 1 ∷
    2 ∷
    1 ∷ 0 ∷ 0 ∷
    0 ∷ 4 ∷ 1 ∷
    0 ∷ 8 ∷ 0 ∷ 0 ∷ 0 ∷ 1 ∷
    []

-- the generated files' lines are the Rust's, stored beside the files; the ranks follow from document 01's uses
sheet_rows : List SheetRow
sheet_rows =
    -- document 01's text: one Bool type and one plain Simple variable
    sheet-row plain (
    1 ∷
    0 ∷ 0 ∷ 1 ∷
    0 ∷ 0 ∷ 0 ∷ 0 ∷ 0 ∷ 0 ∷
    1 ∷
    0 ∷ 1 ∷
    0 ∷ 0 ∷ 0 ∷ 0 ∷ 0 ∷ 0 ∷
    1 ∷
    0 ∷ 3 ∷ 1 ∷
    0 ∷ 0 ∷ 0 ∷ 0 ∷ 0 ∷ 0 ∷
    []) ∷
    -- type 0 has the element 1, and 1 names 2
    sheet-row enumerations (
    3 ∷
    2 ∷ 0 ∷ 2 ∷
    0 ∷ 13 ∷ 0 ∷ 1 ∷ 0 ∷ 0 ∷
    0 ∷ 9 ∷ 0 ∷ 22 ∷ 0 ∷ 0 ∷
    1 ∷ 0 ∷ 1 ∷
    0 ∷ 9 ∷ 0 ∷ 22 ∷ 0 ∷ 0 ∷
    0 ∷ 0 ∷ 1 ∷
    0 ∷ 9 ∷ 0 ∷ 22 ∷ 0 ∷ 0 ∷
    3 ∷
    0 ∷ 1 ∷
    0 ∷ 9 ∷ 0 ∷ 22 ∷ 0 ∷ 0 ∷
    0 ∷ 1 ∷
    0 ∷ 9 ∷ 0 ∷ 25 ∷ 0 ∷ 0 ∷
    1 ∷ 0 ∷
    3 ∷
    0 ∷ 5 ∷ 1 ∷
    0 ∷ 9 ∷ 0 ∷ 22 ∷ 0 ∷ 0 ∷
    0 ∷ 6 ∷ 1 ∷
    0 ∷ 9 ∷ 0 ∷ 25 ∷ 0 ∷ 0 ∷
    1 ∷ 0 ∷ 0 ∷
    []) ∷
    -- the start value of type 0 names 1, and the element of 2 names 0
    sheet-row strings (strings_sheet 1 0 2) ∷
    []

sheets : map (λ r. sheet_words r.about) sheet_rows ≡ map (λ r. r.sheet) sheet_rows
unfolding computing opened sheet_rows sheet-row enumerations strings strings_sheet declaring
sheets = refl

-- ---- the check: a file, the words of a sheet and the answer
record CheckRow : Type 0 where
  about : List ℕ
  sheet : List ℕ
  answer : ℕ

check-row : List ℕ → List ℕ → ℕ → CheckRow
check-row about sheet answer = record { about = about; sheet = sheet; answer = answer }

-- a node of six words; FALSE is six zeros
false_node : List ℕ
false_node = replicate 6 0

-- the three lines of the right sheet of document 01's file
type_line_words : List ℕ
type_line_words = 0 ∷ 0 ∷ 1 ∷ false_node

variable_line_words : List ℕ
variable_line_words = 0 ∷ 1 ∷ false_node

completed_line_words : List ℕ
completed_line_words = 0 ∷ 3 ∷ 1 ∷ false_node

sheet_of : List ℕ → List ℕ → List ℕ → List ℕ
sheet_of type variable completed = sections ((type ∷ []) ∷ (variable ∷ []) ∷ (completed ∷ []) ∷ [])

right : List ℕ
right = sheet_of type_line_words variable_line_words completed_line_words

-- the same with another line
with_type : List ℕ → List ℕ
with_type line = sheet_of line variable_line_words completed_line_words

with_variable : List ℕ → List ℕ
with_variable line = sheet_of type_line_words line completed_line_words

with_completed : List ℕ → List ℕ
with_completed line = sheet_of type_line_words variable_line_words line

check_rows : List CheckRow
check_rows =
    -- ---- it passes, and so it does with other ranks that rise
    check-row plain right 0 ∷
    check-row plain (with_type (7 ∷ 0 ∷ 1 ∷ false_node)) 0 ∷
    check-row strings (strings_sheet 1 0 2) 0 ∷
    check-row strings (strings_sheet 5 3 9) 0 ∷
    -- ---- a file's refusal comes first: two shapes BOOL
    check-row (file 254 (bool ∷ bool ∷ []) [] [] [] [] [] [] [] []) [] 5 ∷
    -- ---- 11: states that are not known
    check-row plain (with_type (0 ∷ 3 ∷ 0 ∷ [])) 11 ∷
    check-row plain (with_variable (3 ∷ 0 ∷ [])) 11 ∷
    check-row plain (with_completed (2 ∷ 0 ∷ 0 ∷ [])) 11 ∷
    -- not only zeros after a state that is not 0: a count, a kind, a count with its node
    check-row plain (with_type (0 ∷ 1 ∷ 1 ∷ [])) 11 ∷
    check-row plain (with_variable (1 ∷ 1 ∷ [])) 11 ∷
    check-row plain (with_completed (1 ∷ 0 ∷ 1 ∷ [])) 11 ∷
    check-row plain (with_completed (1 ∷ 3 ∷ 0 ∷ [])) 11 ∷
    check-row plain (with_variable (1 ∷ 1 ∷ false_node)) 11 ∷
    -- not one whole tree after a state 0: none, two, fewer nodes than the count, an array without its one part, a kind above 14
    check-row plain (with_type (0 ∷ 0 ∷ 0 ∷ [])) 11 ∷
    check-row plain (with_variable (0 ∷ 0 ∷ [])) 11 ∷
    check-row plain (with_completed (0 ∷ 3 ∷ 0 ∷ [])) 11 ∷
    check-row plain (with_variable (0 ∷ 2 ∷ false_node ++ false_node)) 11 ∷
    check-row plain (with_completed (0 ∷ 3 ∷ 2 ∷ false_node)) 11 ∷
    check-row plain (with_variable (0 ∷ 1 ∷ 0 ∷ 13 ∷ 0 ∷ 1 ∷ 0 ∷ 0 ∷ [])) 11 ∷
    check-row plain (with_variable (0 ∷ 1 ∷ 0 ∷ 15 ∷ 0 ∷ 0 ∷ 0 ∷ 0 ∷ [])) 11 ∷
    -- a word too many, a word too few, no words
    check-row plain (right ++ (0 ∷ [])) 11 ∷
    check-row plain (take 28 right) 11 ∷
    check-row plain [] 11 ∷
    -- a count that is not the file's, in each section; and with as many lines
    check-row plain (set right 0 2) 11 ∷
    check-row plain (set right 10 2) 11 ∷
    check-row plain (set right 19 2) 11 ∷
    check-row plain (sections ((type_line_words ∷ type_line_words ∷ []) ∷ (variable_line_words ∷ []) ∷ (completed_line_words ∷ []) ∷ [])) 11 ∷
    -- before 12
    check-row strings (strings_sheet 1 0 1 ++ (0 ∷ [])) 11 ∷
    -- ---- 12: a rank that is that of a used type, or below it
    check-row strings (strings_sheet 1 0 1) 12 ∷
    check-row strings (strings_sheet 0 0 2) 12 ∷
    check-row strings (strings_sheet 1 2 3) 12 ∷
    -- before 13: a node's name besides
    check-row strings (set (strings_sheet 1 0 1) 4 9) 12 ∷
    check-row strings (set (strings_sheet 1 0 2) 4 9) 13 ∷
    -- the characters cut are compared too
    check-row strings (set (strings_sheet 1 0 2) 33 0) 13 ∷
    -- ---- 13: a type's state and node
    check-row plain (with_type (0 ∷ 1 ∷ 0 ∷ [])) 13 ∷
    check-row plain (with_type (0 ∷ 2 ∷ 0 ∷ [])) 13 ∷
    check-row plain (with_type (0 ∷ 0 ∷ 1 ∷ 0 ∷ 0 ∷ 0 ∷ 1 ∷ 0 ∷ 0 ∷ [])) 13 ∷
    -- a whole tree of 2,049 nodes
    check-row plain (with_type (0 ∷ 0 ∷ 2049 ∷ 0 ∷ 13 ∷ 0 ∷ 2048 ∷ 0 ∷ 0 ∷ replicate 12288 0)) 13 ∷
    -- a variable's state, and one word of its node
    check-row plain (with_variable (1 ∷ 0 ∷ [])) 13 ∷
    check-row plain (with_variable (0 ∷ 1 ∷ 0 ∷ 0 ∷ 0 ∷ 1 ∷ 0 ∷ 0 ∷ [])) 13 ∷
    -- a completed initializer's state, kind, and one word of its node
    check-row plain (with_completed (1 ∷ 0 ∷ 0 ∷ [])) 13 ∷
    check-row plain (with_completed (0 ∷ 99 ∷ 1 ∷ false_node)) 13 ∷
    check-row plain (with_completed (0 ∷ 3 ∷ 1 ∷ 0 ∷ 0 ∷ 0 ∷ 1 ∷ 0 ∷ 0 ∷ [])) 13 ∷
    []

checks : map (λ r. check_answer r.about r.sheet) check_rows ≡ map (λ r. r.answer) check_rows
unfolding computing opened check_rows check-row false_node type_line_words variable_line_words completed_line_words sheet_of right with_type with_variable with_completed strings strings_sheet declaring
checks = refl

-- ---- the files are accepted
accepted : map verdict (declarations ∷ plain ∷ enumerations ∷ strings ∷ []) ≡ 0 ∷ 0 ∷ 0 ∷ 0 ∷ []
unfolding computing opened declarations type_rows type_row enumerations strings declaring
accepted = refl
