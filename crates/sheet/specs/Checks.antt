-- What the comparing functions are handed: an accepted file, a sheet that was tested, tables with the places of its type lines, and room to build in.
use Rattle.std.specs.Prelude.{◌≡◌, List, ℕ, leb}
use Rattle.definition.specs.Accept.{need, verdict}
use Rattle.definition.specs.Answers.{room_words, after_file}
use Rattle.build.specs.Built.{index_in}
use Rattle.driver.specs.Driver.{Given}
use Rattle.sheet_lines.specs.declared.find.Lines.{Lines}
use Rattle.sheet_lines.specs.Tests.{Comparable}

-- the refusals before the sheet is read
abbrev pub room_refused : List ℕ → ℕ → ℕ
room_refused f room = after_file f λ u. need (leb (room_words f) room) 10 λ v. 0

pub record Checks (f known s : List ℕ) (room : ℕ) : Type 0 where
  pub given : Given f known room
  pub accepted : verdict f ≡ 0
  pub lines : Lines
  pub comparable : Comparable f s lines (index_in known)
