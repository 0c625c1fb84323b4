-- What stands at the front of words: its lines, and how many words it has.
use Rattle.std.specs.Prelude.{List, [], ◌∷◌, ◌++◌, ℕ, suc, ◌+◌, ◌*◌, get_or, take, drop, replicate}
use Rattle.definition.specs.Program.{node_lines, record_lines}

pub record Form : Type 0 where
  pub lines : List ℕ → List (List ℕ)
  pub long : List ℕ → ℕ

-- ---- one behind the other
unfoldable pub lines_in : List Form → List ℕ → List (List ℕ)
lines_in [] words = []
lines_in (p ∷ ps) words = p.lines words ++ lines_in ps (drop (p.long words) words)

unfoldable pub long_in : List Form → List ℕ → ℕ
long_in [] words = 0
long_in (p ∷ ps) words = p.long words + long_in ps (drop (p.long words) words)

abbrev pub series : List Form → Form
series ps = record { lines = lines_in ps; long = long_in ps }

-- ---- the parts of a sheet
-- so many words
abbrev pub line_form : ℕ → Form
line_form many = record { lines = λ words. take many words ∷ []; long = λ words. many }

-- so many nodes
abbrev pub nodes_form : ℕ → Form
nodes_form k = record { lines = node_lines k; long = λ words. k * 6 }

-- a head whose last word is the number of nodes behind it
abbrev pub record_form : ℕ → Form
record_form place = record { lines = record_lines place; long = λ words. suc place + get_or words place 0 * 6 }

-- so many records
abbrev pub records_form : ℕ → ℕ → Form
records_form place many = series (replicate many (record_form place))

-- how many records, and these
abbrev pub section_form : ℕ → Form
section_form place =
    record {
      lines = λ words. lines_in (line_form 1 ∷ records_form place (get_or words 0 0) ∷ []) words;
      long = λ words. long_in (line_form 1 ∷ records_form place (get_or words 0 0) ∷ []) words;
    }

-- types, variables, completed initializers
abbrev pub sheet_form : Form
sheet_form = series (section_form 2 ∷ section_form 1 ∷ section_form 2 ∷ [])
