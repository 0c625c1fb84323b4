-- The numbers of answers that may be none. Assumes nothing.
use mathlib.Core.Path.{◌≡◌, refl}
use Prim.Native.Nat.{ℕ}
use Rattle.std.specs.Prelude.{Option, Some, None, Result, Ok, Err}
use Rattle.definition.specs.declared.answers.Refusal.{Refusal}
use Rattle.definition.specs.Answers.{tree_says, packed, value_code}
use Rattle.memory_definition.specs.Answers.{memory_says, memory_code}
use Rattle.codes.specs.Counted.{code_or}

pub tree_number : (answer : Result (Option ℕ) Refusal) → code_or 0 answer ≡ value_code (tree_says answer)
unfolding tree_says value_code packed code_or
tree_number (Ok (Some n)) = refl
tree_number (Ok None) = refl
tree_number (Err r) = refl

pub memory_number : (answer : Result (Option ℕ) Refusal) → code_or 4294967295 answer ≡ memory_code (memory_says answer)
unfolding tree_says memory_code packed code_or
memory_number (Ok (Some n)) = refl
memory_number (Ok None) = refl
memory_number (Err r) = refl
