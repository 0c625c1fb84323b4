-- The starred examples of document 01: a file, a question and the answer that the paper gives, and one theorem over all rows.
use Rattle.std.specs.Prelude.{◌≡◌, refl, List, [], ◌∷◌, ◌++◌, map, ℕ, take}
use Rattle.definition.specs.Base.{inline}
use Rattle.definition.specs.Accept.{verdict}
use Rattle.definition.specs.Lines.{type_line, variable_line, completed_line}
use Rattle.definition.specs.Uses.{ranks_of}
use Rattle.definition.specs.Sheet.{on_ranking}
use Rattle.definition.specs.Computing.{computing}
use Rattle.definition.specs.ExampleFiles.{Records, sections, file, bool, int, type, variable, naming, integer, subrange_of, alias_of, subrange_and_alias, circle, array_of, opened}

-- ---- records and files
real : List ℕ
real = 3 ∷ 32 ∷ 0 ∷ 0 ∷ 0 ∷ []

true_literal : List ℕ
true_literal = 0 ∷ 0 ∷ 1 ∷ 0 ∷ 0 ∷ []

-- a variable of ARRAY 1..3 OF INT whose initializer lists the last `many` of the entries
array_123 : Records → ℕ → ℕ → List ℕ
array_123 entries first many =
    file 254 (int 16 ∷ (12 ∷ 0 ∷ 0 ∷ 1 ∷ 0 ∷ []) ∷ []) ((1 ∷ 3 ∷ []) ∷ []) (type 0 0 ∷ type 1 1 ∷ []) (variable 2 ∷ [])
    ((9 ∷ 2 ∷ 0 ∷ 0 ∷ first ∷ many ∷ 0 ∷ 0 ∷ []) ∷ []) entries [] (integer 0 5 ∷ integer 0 7 ∷ true_literal ∷ []) []

constant_entry : ℕ → List ℕ
constant_entry c = 0 ∷ 0 ∷ c ∷ 0 ∷ []

repeat_entry : ℕ → ℕ → List ℕ
repeat_entry many inner = 6 ∷ 0 ∷ many ∷ inner ∷ []

-- a variable of an elementary type with a constant
simple : List ℕ → List ℕ → List ℕ
simple shape constant = file 254 (shape ∷ []) [] (type 0 0 ∷ []) (variable 1 ∷ []) ((3 ∷ 1 ∷ 0 ∷ 1 ∷ 0 ∷ 0 ∷ 0 ∷ 0 ∷ []) ∷ []) [] [] (constant ∷ []) []

-- s : STRING[3] := 'ABCD'
string_3 : List ℕ
string_3 =
    file 254 [] [] [] (variable 0 ∷ []) ((4 ∷ 0 ∷ 0 ∷ 1 ∷ 0 ∷ 0 ∷ 4 ∷ 0 ∷ []) ∷ []) [] [] ((8 ∷ 0 ∷ 0 ∷ 4 ∷ 0 ∷ []) ∷ [])
    ((65 ∷ []) ∷ (66 ∷ []) ∷ (67 ∷ []) ∷ (68 ∷ []) ∷ [])

-- ---- questions and answers
data Question : Type 0 where
  type_is : ℕ → Question
  variable_is : ℕ → Question
  writing : Question

-- what is asked of a file: a type's or a variable's fixed words, or whether the writer refuses it by 9
asked : Question → List ℕ → List ℕ
asked (type_is t) f = type_line f t
asked (variable_is v) f = variable_line f v
asked writing f = on_ranking (ranks_of f) (λ w. []) (9 ∷ [])

record Row : Type 0 where
  about : List ℕ
  question : Question
  is : List ℕ

row : List ℕ → Question → List ℕ → Row
row f q a = record { about = f; question = q; is = a }

none : List ℕ
none = 1 ∷ 0 ∷ []

-- one node
leaf : ℕ → ℕ → ℕ → ℕ → List ℕ
leaf kind sign low high = 0 ∷ 1 ∷ 0 ∷ kind ∷ sign ∷ low ∷ high ∷ 0 ∷ []

-- a string's node: characters and last word
string : ℕ → ℕ → ℕ → List ℕ
string first many last = 0 ∷ 8 ∷ 0 ∷ first ∷ many ∷ last ∷ []

-- three INTs
three : ℕ → ℕ → ℕ → List ℕ
three a b c =
    0 ∷ 4 ∷ 0 ∷ 13 ∷ 0 ∷ 3 ∷ 0 ∷ 0 ∷ 0 ∷ 1 ∷ 0 ∷ a ∷ 0 ∷ 0 ∷ 0 ∷ 1 ∷ 0 ∷ b ∷ 0 ∷ 0 ∷ 0 ∷ 1 ∷ 0 ∷ c ∷ 0 ∷ 0 ∷ []

rows : List Row
rows =
    -- Array 1..3 of INT: [5] is 5,0,0
    row (array_123 (constant_entry 0 ∷ []) 0 1) (variable_is 0) (three 5 0 0) ∷
    -- [5,2(7)] is 5,7,7
    row (array_123 (constant_entry 1 ∷ constant_entry 0 ∷ repeat_entry 2 1 ∷ []) 1 2) (variable_is 0) (three 5 7 7) ∷
    -- [5,3(7)] none
    row (array_123 (constant_entry 1 ∷ constant_entry 0 ∷ repeat_entry 3 1 ∷ []) 1 2) (variable_is 0) none ∷
    -- [3()] is 0,0,0
    row (array_123 (repeat_entry 3 0 ∷ []) 0 1) (variable_is 0) (three 0 0 0) ∷
    -- [4()] none
    row (array_123 (repeat_entry 4 0 ∷ []) 0 1) (variable_is 0) none ∷
    -- [0(TRUE)] none
    row (array_123 (constant_entry 2 ∷ repeat_entry 0 1 ∷ []) 1 1) (variable_is 0) none ∷
    -- BOOL 1 is TRUE; 2 and bit string 1 none
    row (simple bool (integer 0 1)) (variable_is 0) (leaf 0 0 1 0) ∷
    row (simple bool (integer 0 2)) (variable_is 0) none ∷
    row (simple bool (2 ∷ 0 ∷ 1 ∷ 0 ∷ 0 ∷ [])) (variable_is 0) none ∷
    -- SINT -128 fits; -129 none
    row (simple (int 8) (integer 1 128)) (variable_is 0) (leaf 1 1 128 0) ∷
    row (simple (int 8) (integer 1 129)) (variable_is 0) none ∷
    -- STRING[3] 'ABCD' is 'ABC', with one character cut
    row string_3 (variable_is 0) (0 ∷ 1 ∷ string 0 3 2) ∷
    -- REAL 16777217 is 16777216, whose f64 has the bits 0x4170000000000000
    row (simple real (integer 0 16777217)) (variable_is 0) (leaf 3 0 0 0x41700000) ∷
    -- Type 0 a subrange 1..9 named type 1 with start value 5, type 1 a simple alias of 0: 5 and none
    row circle (type_is 0) (leaf 1 0 5 0) ∷
    row circle (type_is 1) none ∷
    -- numbered the other way both are 5
    row (subrange_and_alias (alias_of 2 ∷ subrange_of 1 ∷ []) 2) (type_is 0) (leaf 1 0 5 0) ∷
    row (subrange_and_alias (alias_of 2 ∷ subrange_of 1 ∷ []) 2) (type_is 1) (leaf 1 0 5 0) ∷
    -- 9 either way
    row circle writing (9 ∷ []) ∷
    row (subrange_and_alias (alias_of 2 ∷ subrange_of 1 ∷ []) 2) writing (9 ∷ []) ∷
    []

-- ---- one file for each refusal of 1 to 6, and its neighbours that meet none
-- a file of shapes, dimensions and types alone
shaped : Records → Records → Records → List ℕ
shaped shapes dimensions types = file 254 shapes dimensions types [] [] [] [] [] []

refused : List (List ℕ)
refused =
    -- a word short, a word long
    take 14 (shaped [] [] []) ∷
    (shaped [] [] [] ++ (0 ∷ [])) ∷
    -- two Settings
    sections (((254 ∷ []) ∷ (254 ∷ []) ∷ []) ∷ [] ∷ [] ∷ [] ∷ [] ∷ [] ∷ [] ∷ [] ∷ [] ∷ [] ∷ [] ∷ [] ∷ [] ∷ [] ∷ []) ∷
    -- INT of 12 bits; a dimension 1..0
    shaped (int 12 ∷ []) [] [] ∷
    shaped [] ((1 ∷ 0 ∷ []) ∷ []) [] ∷
    -- a structure of one field where there is none, and one declared with an element where there is none; a reference to itself; a type of a shape that isn't there
    shaped ((11 ∷ 0 ∷ 1 ∷ 0 ∷ 0 ∷ []) ∷ []) [] [] ∷
    shaped (bool ∷ []) [] ((0 ∷ 0 ∷ 0 ∷ 0 ∷ 5 ∷ 0 ∷ 0 ∷ 0 ∷ 1 ∷ inline ∷ 0 ∷ []) ∷ []) ∷
    shaped ((16 ∷ 0 ∷ 0 ∷ 0 ∷ 0 ∷ []) ∷ []) [] [] ∷
    shaped (bool ∷ []) [] (type 1 0 ∷ []) ∷
    -- two shapes BOOL
    shaped (bool ∷ bool ∷ []) [] [] ∷
    -- an array 0..65536
    shaped (bool ∷ (12 ∷ 0 ∷ 0 ∷ 1 ∷ 0 ∷ []) ∷ []) ((0 ∷ 65536 ∷ []) ∷ []) [] ∷
    -- none: nothing at all but Settings; an array 1..65536
    shaped [] [] [] ∷
    shaped (bool ∷ (12 ∷ 0 ∷ 0 ∷ 1 ∷ 0 ∷ []) ∷ []) ((1 ∷ 65536 ∷ []) ∷ []) (type 1 0 ∷ []) ∷
    []

refusals : map verdict refused ≡ 1 ∷ 1 ∷ 2 ∷ 3 ∷ 3 ∷ 4 ∷ 4 ∷ 4 ∷ 4 ∷ 5 ∷ 6 ∷ 0 ∷ 0 ∷ []
unfolding computing opened refused shaped
refusals = refl

-- ---- an array of 2,047 INT has a tree, 2,048 is too large
-- state and count
limit : take 2 (type_line (array_of 2047 [] []) 1) ++ type_line (array_of 2048 [] []) 1 ≡ 0 ∷ 2048 ∷ 2 ∷ 0 ∷ []
unfolding computing opened
limit = refl

-- ---- declared types are resolved first, in rising number, and a type met again while in progress gives none (document 01, rules easily lost)
-- the circle beside a type that neither uses
circle_and_type : List ℕ
circle_and_type = subrange_and_alias (subrange_of 2 ∷ alias_of 1 ∷ type 0 0 ∷ []) 1

-- type 0 an array 1..1 of type 1 that nothing declares, type 1 a subrange 1..9 named type 0 with start value 5
array_of_subrange : List ℕ
array_of_subrange =
    file 254 (int 16 ∷ (13 ∷ 0 ∷ 0 ∷ 1 ∷ 0 ∷ []) ∷ (12 ∷ 1 ∷ 0 ∷ 1 ∷ 0 ∷ []) ∷ []) ((1 ∷ 1 ∷ []) ∷ []) (type 2 2 ∷ subrange_of 1 ∷ []) [] [] [] []
    (integer 0 1 ∷ integer 0 9 ∷ integer 0 5 ∷ []) []

-- the subrange is 5 and the other none, whichever has the lower number
in-progress : type_line circle_and_type 0 ++ type_line circle_and_type 1 ++ type_line array_of_subrange 0 ++ type_line array_of_subrange 1 ≡ leaf 1 0 5 0 ++ none ++ none ++ leaf 1 0 5 0
unfolding computing opened leaf none circle_and_type array_of_subrange
in-progress = refl

in-progress-accepted : verdict circle_and_type ∷ verdict array_of_subrange ∷ [] ≡ 0 ∷ 0 ∷ []
unfolding computing opened circle_and_type array_of_subrange
in-progress-accepted = refl

-- ---- characters cut (document 02, Q-2)
-- type 0 is WSTRING[3] := 'ABCDE' and type 1 an array 1..2 of it; a variable of type 1, and one STRING[2] := 'ABCDE'
captions : List ℕ
captions =
    file 254 ((9 ∷ 4 ∷ 1 ∷ 0 ∷ 0 ∷ []) ∷ (12 ∷ 0 ∷ 0 ∷ 1 ∷ 0 ∷ []) ∷ []) ((1 ∷ 2 ∷ []) ∷ [])
    ((0 ∷ 0 ∷ 0 ∷ 0 ∷ 3 ∷ 0 ∷ 1 ∷ 0 ∷ 0 ∷ inline ∷ 0 ∷ []) ∷ type 1 1 ∷ [])
    (variable 2 ∷ (1 ∷ 4 ∷ 1 ∷ 1 ∷ []) ∷ []) (naming 9 2 ∷ (4 ∷ 1 ∷ 0 ∷ 1 ∷ 0 ∷ 0 ∷ 3 ∷ 0 ∷ []) ∷ []) [] []
    ((8 ∷ 0 ∷ 0 ∷ 5 ∷ 0 ∷ []) ∷ []) ((65 ∷ []) ∷ (66 ∷ []) ∷ (67 ∷ []) ∷ (68 ∷ []) ∷ (69 ∷ []) ∷ [])

-- two are cut where the type is declared, once, and every copy has them; three are cut in the second variable
two_captions : List ℕ
two_captions = 3 ∷ 0 ∷ 13 ∷ 0 ∷ 2 ∷ 0 ∷ 0 ∷ string 0 3 5 ++ string 0 3 5

captions-cut :
    type_line captions 0 ∷ variable_line captions 0 ∷ completed_line captions 0 ∷ variable_line captions 1 ∷ completed_line captions 1 ∷ []
    ≡ (0 ∷ 1 ∷ string 0 3 5) ∷ (0 ∷ two_captions) ∷ (0 ∷ 9 ∷ two_captions) ∷ (0 ∷ 1 ∷ string 0 2 6) ∷ (0 ∷ 4 ∷ 1 ∷ string 0 2 6) ∷ []
unfolding computing opened string captions two_captions
captions-cut = refl

captions-accepted : verdict captions ≡ 0
unfolding computing opened captions
captions-accepted = refl

-- ---- every row's file is accepted, and every answer is the paper's
accepted : map (λ r. verdict r.about) rows ≡ map (λ r. 0) rows
unfolding computing opened rows row real true_literal array_123 constant_entry repeat_entry simple string_3
accepted = refl

starred : map (λ r. asked r.question r.about) rows ≡ map (λ r. r.is) rows
unfolding computing opened asked rows row none leaf string three real true_literal array_123 constant_entry repeat_entry simple string_3
starred = refl
