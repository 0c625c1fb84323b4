-- A text at the front of a slice of bytes, and what is known on the way there.
use Rattle.std.specs.Prelude.{◌≡◌, true, List, ℕ, ◌*◌, ◌≤◌, ◌<◌, leb, length}
use Rattle.definition.specs.Base.{pick}
use Rattle.definition.specs.declared.answers.Refusal.{Refusal}
use Rattle.definition.specs.Answers.{refuses, number_of, over, write_answer}
use Rattle.definition.specs.Program.{whole_words, most_sheet_words}

-- ten digits at most for each word of a sheet, and the byte behind it
abbrev pub most_text : ℕ
most_text = 90112

-- how many bytes the text has, or 0 where the slice is too short for it; then nothing is written
pub record Texts (t old : List ℕ) (r : ℕ) (new : List ℕ) : Type 0 where
  pub says : r ≡ pick (leb (length t) (length old)) (length t) 0
  pub is : new ≡ over t old
  pub some : 0 < length t
  pub most : length t ≤ most_text

-- ---- on the way
-- bytes that make whole words, and there is room for these
pub record WordRoom (bytes : List ℕ) (words : ℕ) : Type 0 where
  pub whole : whole_words bytes ≡ true
  pub room : length bytes ≤ words * 4

-- the bytes of the text, and the words of the sheet
pub record TextRoom (text out : ℕ) : Type 0 where
  pub bytes : most_text ≤ text
  pub words : out ≡ most_sheet_words

-- the writer's refusal
pub record Refuses (f : List ℕ) (refusal : Refusal) (lines room : ℕ) : Type 0 where
  pub says : write_answer f most_sheet_words lines room ≡ refuses (number_of refusal)
