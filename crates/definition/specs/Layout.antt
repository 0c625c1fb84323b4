-- The layout of a declaration file (document 01, "Sections, their makers and readers"): fourteen sections in order, each after its count.
use Rattle.std.specs.Prelude.{List, [], ◌∷◌, ℕ, zero, suc, ◌+◌, ◌*◌, get_or}

-- the sections, in the order of the file
abbrev pub settings : ℕ
settings = 0

abbrev pub shapes : ℕ
shapes = 1

abbrev pub members : ℕ
members = 2

abbrev pub shape_fields : ℕ
shape_fields = 3

abbrev pub dimensions : ℕ
dimensions = 4

abbrev pub types : ℕ
types = 5

abbrev pub block_fields : ℕ
block_fields = 6

abbrev pub elements : ℕ
elements = 7

abbrev pub variables : ℕ
variables = 8

abbrev pub initializers : ℕ
initializers = 9

abbrev pub entries : ℕ
entries = 10

abbrev pub expressions : ℕ
expressions = 11

abbrev pub constants : ℕ
constants = 12

abbrev pub characters : ℕ
characters = 13

-- words in a record of each
unfoldable pub words_of_records : List ℕ
words_of_records = 1 ∷ 5 ∷ 1 ∷ 3 ∷ 2 ∷ 11 ∷ 3 ∷ 2 ∷ 4 ∷ 8 ∷ 4 ∷ 2 ∷ 5 ∷ 1 ∷ []

-- the most records that each may have
unfoldable pub limits_of_records : List ℕ
limits_of_records = 1 ∷ 1024 ∷ 4096 ∷ 4096 ∷ 4096 ∷ 1024 ∷ 4096 ∷ 4096 ∷ 4096 ∷ 4096 ∷ 8192 ∷ 4096 ∷ 8192 ∷ 65536 ∷ []

unfoldable pub record_words : ℕ → ℕ
record_words s = get_or words_of_records s 0

unfoldable pub most_records : ℕ → ℕ
most_records s = get_or limits_of_records s 0

-- where section s ends whose count stands at `at`
unfoldable pub behind : List ℕ → ℕ → ℕ → ℕ
behind f s at = at + 1 + get_or f at 0 * record_words s

-- where the count of section s stands; at 14, where the last section ends
unfoldable pub count_at : List ℕ → ℕ → ℕ
count_at f zero = 0
count_at f (suc s) = behind f s (count_at f s)

-- how many records section s has
unfoldable pub count : List ℕ → ℕ → ℕ
count f s = get_or f (count_at f s) 0

-- word k of record n of section s
unfoldable pub word : List ℕ → ℕ → ℕ → ℕ → ℕ
word f s n k = get_or f (count_at f s + 1 + n * record_words s + k) 0

-- what this file computes with
unfoldable pub opened : Unit {0}
unfolding words_of_records limits_of_records record_words most_records behind count_at count word
opened = tt
