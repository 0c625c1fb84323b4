-- A variable's outcome, completed and written to the front of out, as the definition answers it.
use Rattle.std.specs.Prelude.{◌≡◌, List, ℕ, length, Option, Result}
use Rattle.definition.specs.declared.answers.Refusal.{Refusal}
use Rattle.definition.specs.declared.answers.Slot.{Slot}
use Rattle.definition.specs.Ask.{Outcome}
use Rattle.definition.specs.Complete.{completion}
use Rattle.definition.specs.Answers.{completed_says, completion_answer, slot_out}

pub record WritesCompleted (f : List ℕ) (v : ℕ) (o : Outcome) (old : List ℕ) (r : Result (Option Slot) Refusal) (new : List ℕ) : Type 0 where
  pub says : completed_says r ≡ completion_answer f v o (length old)
  pub is : new ≡ slot_out (completion f v o) old
