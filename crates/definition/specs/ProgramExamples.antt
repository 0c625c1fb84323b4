-- What the sheet program prints for given bytes (document 01, after the examples).
use Rattle.std.specs.Prelude.{◌≡◌, refl, List, [], ◌∷◌, ◌++◌, map, ℕ, ◌/◌, ◌%◌, ◌^◌, take, replicate}
use Prim.Native.String.{String}
use Rattle.definition.specs.Answers.{line_words, room_words}
use Rattle.definition.specs.Program.{bytes_of, line_text, sheet_text}
use Rattle.definition.specs.Computing.{computing}
use Rattle.definition.specs.ExampleFiles.{file, bool, variable, naming, plain, circle, array_of, opened}

-- a file's words as little-endian bytes
bytes : List ℕ → List ℕ
bytes [] = []
bytes (w ∷ ws) = (w % 256) ∷ (w / 2 ^ 8 % 256) ∷ (w / 2 ^ 16 % 256) ∷ (w / 2 ^ 24) ∷ bytes ws

-- the work words that the writer wants: for a type 3 and 2,048 nodes of lines, for a level twice 2,048 nodes of room; two levels in `plain` and `circle`, three
-- where an array is. A sheet of at most 8,192 words wants no more lines than that.
wanted : line_words plain ∷ room_words plain ∷ room_words circle ∷ room_words (array_of 1 [] []) ∷ [] ≡ 12291 ∷ 49152 ∷ 49152 ∷ 73728 ∷ []
unfolding computing opened
wanted = refl

-- the work words that are lent, what is read and what is printed
record Row : Type 0 where
  lines : ℕ
  room : ℕ
  input : List ℕ
  output : String

row : ℕ → ℕ → List ℕ → String → Row
row lines room input output = record { lines = lines; room = room; input = input; output = output }

rows : List Row
rows =
    -- one Bool type and one plain Simple variable: the text of document 01
    row 8192 49152 (bytes plain) "1\n0 0 1\n0 0 0 0 0 0\n1\n0 1\n0 0 0 0 0 0\n1\n0 3 1\n0 0 0 0 0 0\n" ∷
    -- above 32,768 bytes, whole words or not; as many bytes as that
    row 0 0 (replicate 32769 0) "long\n" ∷
    row 0 0 (replicate 32772 0) "long\n" ∷
    row 0 0 (replicate 32768 0) "refused 1\n" ∷
    -- bytes that do not make whole words: three, and one, two and three more than a file
    row 0 0 (0 ∷ 0 ∷ 0 ∷ []) "refused 1\n" ∷
    row 8192 49152 (bytes plain ++ (0 ∷ [])) "refused 1\n" ∷
    row 8192 49152 (bytes plain ++ (0 ∷ 0 ∷ [])) "refused 1\n" ∷
    row 8192 49152 (bytes plain ++ (0 ∷ 0 ∷ 0 ∷ [])) "refused 1\n" ∷
    -- two shapes BOOL, whatever is lent
    row 0 0 (bytes (file 254 (bool ∷ bool ∷ []) [] [] [] [] [] [] [] [])) "refused 5\n" ∷
    -- too few work words
    row 8191 49152 (bytes plain) "refused 10\n" ∷
    row 8192 49151 (bytes plain) "refused 10\n" ∷
    -- uses that run in a circle, behind too few work words
    row 8192 49152 (bytes circle) "refused 9\n" ∷
    row 8192 49151 (bytes circle) "refused 10\n" ∷
    -- a sheet of 8,193 words: 1, 9 for INT, 3 and 1,363 nodes for the array, 1, 1
    row 8192 73728 (bytes (array_of 1362 [] [])) "long\n" ∷
    []

printed : map (λ r. sheet_text r.lines r.room r.input) rows ≡ map (λ r. bytes_of r.output) rows
unfolding computing opened bytes rows row
printed = refl

-- a sheet of 8,192 words is printed: 1, 9 for INT, 3 and 1,362 nodes for the array, 1, 2 for a variable of none, 1, 3
fits : take 2 (sheet_text 8192 73728 (bytes (array_of 1361 (variable 0 ∷ []) (naming 12 0 ∷ [])))) ≡ bytes_of "2\n"
unfolding computing opened bytes
fits = refl

-- decimal, no zero leading
numbers : line_text (0 ∷ 9 ∷ 10 ∷ 2047 ∷ 4294967295 ∷ []) ≡ bytes_of "0 9 10 2047 4294967295\n"
unfolding computing
numbers = refl
