-- What holds on the way from a file to its start sheet.
use Rattle.std.specs.Prelude.{◌≡◌, List, ℕ, ◌+◌, ◌≤◌, min, length, Result}
use Rattle.definition.specs.declared.answers.Refusal.{Refusal}
use Rattle.definition.specs.Layout.{count, types, variables}
use Rattle.definition.specs.Accept.{verdict}
use Rattle.definition.specs.Answers.{line_words, room_words, over, sheet_says, written_answer, ranked_answer, ranked_out}
use Rattle.definition.specs.Lines.{variable_line, completed_line}
use Rattle.definition.specs.Uses.{ranked, ranks_of, rank_at}
use Rattle.sheet_parts.specs.Resolved.{ranked_line}
use Rattle.sheet_parts.specs.Section.{section_of}
use Rattle.writer.specs.declared.resolved.Places.{Places}

-- nothing is refused before the ranks are known
pub record Passed (f : List ℕ) (out lines room : ℕ) : Type 0 where
  pub accepts : verdict f ≡ 0
  pub lined : min out (line_words f) ≤ lines
  pub roomy : room_words f ≤ room

-- the lowest ranks
pub record LowestRanks (f ranks : List ℕ) : Type 0 where
  pub is : ranks_of f ≡ ranked ranks

-- where the sections of variables begin, and where the sheet ends
pub record SheetLong (f : List ℕ) (at : Places) : Type 0 where
  pub types : (ranks : List ℕ) → at.sections.value ≡ length (section_of (ranked_line f (rank_at ranks)) (count f types))
  pub value : at.sections.completed ≡ at.sections.value + length (section_of (variable_line f) (count f variables))
  pub completed : at.end ≡ at.sections.completed + length (section_of (completed_line f) (count f variables))

-- a sheet is at the front of out, or out is too short
pub record Answers (sheet old : List ℕ) (r : Result ℕ Refusal) (new : List ℕ) : Type 0 where
  pub says : sheet_says r ≡ written_answer sheet (length old)
  pub is : new ≡ over sheet old

-- with the lowest ranks, where there are any
pub record AnswersRanked (f old : List ℕ) (r : Result ℕ Refusal) (new : List ℕ) : Type 0 where
  pub says : sheet_says r ≡ ranked_answer f (length old)
  pub is : new ≡ ranked_out f old
