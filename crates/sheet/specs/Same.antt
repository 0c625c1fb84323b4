-- Whether a line is what was built at the front of a room.
use Rattle.std.specs.Prelude.{◌≡◌, Bool, List, ℕ}
use Rattle.std.proofs.Math.Seq.{slice}
use Rattle.definition.specs.Ask.{Outcome}
use Rattle.definition.specs.Complete.{completion}
use Rattle.definition.specs.Lines.{outcome_words, completed_words}
use Rattle.definition.specs.Sheet.{same_words}
use Rattle.laws.specs.Asks.{OnOk}
use Rattle.laws.specs.Values.{Small}
use Rattle.build.specs.Built.{Built}
use Rattle.driver.specs.Told.{Tells}

-- an outcome whose tree is small is told
pub record Shown (r : Built) (room : List ℕ) : Type 0 where
  pub outcome : Outcome
  pub tells : Tells outcome r room
  pub small : OnOk Small outcome

pub record SameOutcome (s : List ℕ) (at end : ℕ) (made : Built) (room : List ℕ) (r : Bool) : Type 0 where
  pub says : (o : Outcome) → Tells o made room → r ≡ same_words (slice at end s) (outcome_words o)

pub record SameCompleted (f : List ℕ) (v : ℕ) (s : List ℕ) (at end : ℕ) (made : Built) (room : List ℕ) (r : Bool) : Type 0 where
  pub says : (o : Outcome) → Tells o made room → r ≡ same_words (slice at end s) (completed_words (completion f v o))
