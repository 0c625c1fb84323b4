-- An answer whose nodes are those of a tree that is not too large: they fit beside the kind in one number.
use Rattle.std.specs.Prelude.{◌≡◌, ℕ, ◌*◌, ◌^◌, ◌≤◌, Option, Some, None, Result, Ok, Err}
use Rattle.definition.specs.declared.answers.Refusal.{Refusal}
use Rattle.definition.specs.declared.answers.Slot.{Slot}
use Rattle.definition.specs.Answers.{number_of}
use Rattle.definition.specs.Tree.{most_nodes}

pub record Counted (answer : Result (Option Slot) Refusal) : Type 0 where
  pub few : (slot : Slot) → answer ≡ Ok (Some slot) → slot.nodes ≤ most_nodes

-- a number of nodes or bytes, what stands for none, or a refusal in the high word
unfoldable pub code_or : ℕ → Result (Option ℕ) Refusal → ℕ
code_or none (Ok (Some many)) = many
code_or none (Ok None) = none
code_or none (Err refusal) = number_of refusal * 2 ^ 32
