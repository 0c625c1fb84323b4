-- What is printed of the words at a place, and what that needs.
use Rattle.std.specs.Prelude.{◌≡◌, List, ℕ, ◌+◌, ◌*◌, ◌≤◌, length, drop}
use Rattle.definition.specs.Program.{lines_text}
use Rattle.laws.specs.Puts.{Puts}
use Rattle.text.specs.declared.part.Places.{Places}
use Rattle.text.specs.Forms.{Form, sheet_form}

-- its words are there, and a text of so many bytes has room for its lines
pub record Printable (p : Form) (words : List ℕ) (text : ℕ) (at : Places) : Type 0 where
  pub inside : at.word + p.long (drop at.word words) ≤ length words
  pub room : at.byte + length (lines_text (p.lines (drop at.word words))) ≤ text

-- its words are passed, and its lines put
pub record Printed (p : Form) (words old : List ℕ) (at r : Places) (new : List ℕ) : Type 0 where
  pub passes : r.word ≡ at.word + p.long (drop at.word words)
  pub puts : Puts (lines_text (p.lines (drop at.word words))) old at.byte r.byte new

-- a word takes ten digits at most, and the byte behind it
pub record SheetRoom (words : List ℕ) (text : ℕ) : Type 0 where
  pub inside : sheet_form.long words ≤ length words
  pub room : sheet_form.long words * 11 ≤ text
