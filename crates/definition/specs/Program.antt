-- The sheet program (document 01, after the examples): which bytes it prints for the bytes that it reads. It lends fixed numbers of work words.
use Rattle.std.specs.Prelude.{Bool, List, [], ◌∷◌, ◌++◌, ℕ, zero, suc, ◌+◌, ◌*◌, ◌/◌, ◌%◌, ◌^◌, eqb, ltb, length, get_or, take, drop}
use Prim.Native.Char.{code}
use Prim.Native.String.{String}
use Rattle.definition.specs.Base.{pick, choose}
use Rattle.definition.specs.Layout.{count, types, variables}
use Rattle.definition.specs.Tree.{node_words}
use Rattle.definition.specs.Lines.{type_line, variable_line, completed_line}
use Rattle.definition.specs.Uses.{ranks_of, rank_at}
use Rattle.definition.specs.Sheet.{on_ranking}
use Rattle.definition.specs.Answers.{Says, refuses, says, answered, write_refused, ranked_answer}

-- ---- "reads a file's words as little-endian bytes from standard input"
unfoldable pub whole_words : List ℕ → Bool
whole_words bytes = eqb (length bytes % 4) 0

-- four bytes a word, the low one first
unfoldable pub words_from : List ℕ → List ℕ
words_from [] = []
words_from (a ∷ []) = []
words_from (a ∷ b ∷ []) = []
words_from (a ∷ b ∷ c ∷ []) = []
words_from (a ∷ b ∷ c ∷ d ∷ l) = (a + b * 2 ^ 8 + c * 2 ^ 16 + d * 2 ^ 24) ∷ words_from l

-- ---- "prints the sheet: each count, record head and node on its own line"
-- so many nodes, six words each
unfoldable pub node_lines : ℕ → List ℕ → List (List ℕ)
node_lines zero words = []
node_lines (suc k) words = take node_words words ∷ node_lines k (drop node_words words)

-- a record's head ends with the count of its nodes, whose place in the head is given; then the nodes
unfoldable pub record_lines : ℕ → List ℕ → List (List ℕ)
record_lines place words = take (suc place) words ∷ node_lines (get_or words place 0) (drop (suc place) words)

-- so many records, one behind the other
unfoldable pub records_from : (ℕ → List (List ℕ)) → ℕ → ℕ → List (List ℕ)
records_from lines i zero = []
records_from lines i (suc k) = lines i ++ records_from lines (suc i) k

-- a section's count, then its records
unfoldable pub section_lines : (ℕ → List (List ℕ)) → ℕ → List (List ℕ)
section_lines lines n = (n ∷ []) ∷ records_from lines 0 n

-- heads: rank, state, count; state, count; state, kind, count
unfoldable pub lines_with : List ℕ → (ℕ → ℕ) → List (List ℕ)
lines_with f rank =
    section_lines (λ t. record_lines 2 (rank t ∷ type_line f t)) (count f types)
    ++ section_lines (λ v. record_lines 1 (variable_line f v)) (count f variables)
    ++ section_lines (λ v. record_lines 2 (completed_line f v)) (count f variables)

-- with the writer's ranks, as `sheet_words` has them
unfoldable pub sheet_lines : List ℕ → List (List ℕ)
sheet_lines f = on_ranking (ranks_of f) (λ w. lines_with f (rank_at w)) []

-- ---- lines as bytes
-- ASCII
unfoldable pub bytes_of : String → List ℕ
bytes_of String.[] = []
bytes_of (String.◌∷◌ c s) = code c ∷ bytes_of s

-- the byte of a digit
unfoldable pub digit : ℕ → ℕ
digit n = code "0" + n

-- decimal, without leading zeros, by at most so many divisions; a number's own value is always enough
unfoldable pub decimal_up_to : ℕ → ℕ → List ℕ
decimal_up_to zero n = digit n ∷ []
decimal_up_to (suc k) n = choose (ltb n 10) (λ u. digit n ∷ []) (λ u. decimal_up_to k (n / 10) ++ (digit (n % 10) ∷ []))

unfoldable pub decimal : ℕ → List ℕ
decimal n = decimal_up_to n n

-- a line's numbers, one space between two
unfoldable pub spaced : List ℕ → List ℕ
spaced [] = []
spaced (n ∷ []) = decimal n
spaced (n ∷ m ∷ l) = decimal n ++ bytes_of " " ++ spaced (m ∷ l)

-- every line ends with a line feed
unfoldable pub line_text : List ℕ → List ℕ
line_text l = spaced l ++ bytes_of "\n"

unfoldable pub lines_text : List (List ℕ) → List ℕ
lines_text [] = []
lines_text (l ∷ ls) = line_text l ++ lines_text ls

-- ---- "prints `long` for a file above 32,768 bytes, and in place of 10 for a sheet above 8,192 words"
abbrev pub most_bytes : ℕ
most_bytes = 32768

-- the words of the answer slice
abbrev pub most_sheet_words : ℕ
most_sheet_words = 8192

unfoldable pub long_text : List ℕ
long_text = bytes_of "long\n"

-- ---- "A refusal prints one line, as `refused 9`"
unfoldable pub refused_text : ℕ → List ℕ
refused_text n = bytes_of "refused " ++ line_text (n ∷ [])

-- what the writer answers with enough work words: 10 is then for a sheet above 8,192 words
unfoldable pub answer_text : List ℕ → Says → List ℕ
answer_text f (refuses n) = pick (eqb n 10) long_text (refused_text n)
answer_text f (says state values) = lines_text (sheet_lines f)

-- in the writer's order (`write_answer`): 1 to 6, 10 for too few work words, 9, 10 for the sheet
unfoldable pub file_text : ℕ → ℕ → List ℕ → List ℕ
file_text lines room f = answered (write_refused f most_sheet_words lines room) refused_text (λ u. answer_text f (ranked_answer f most_sheet_words))

-- ---- "bytes that don't make whole words are refusal 1"; `long` comes before it
-- from the numbers of work words lent (`lines` and `room` of the writer) and the bytes read
unfoldable pub sheet_text : ℕ → ℕ → List ℕ → List ℕ
sheet_text lines room bytes =
    choose (ltb most_bytes (length bytes)) (λ u. long_text) λ u.
    choose (whole_words bytes) (λ v. file_text lines room (words_from bytes)) (λ v. refused_text 1)

-- what this file computes with
unfoldable pub opened : Unit {0}
unfolding whole_words words_from node_lines record_lines records_from section_lines lines_with sheet_lines bytes_of digit decimal_up_to decimal spaced line_text lines_text long_text refused_text answer_text file_text sheet_text
opened = tt
