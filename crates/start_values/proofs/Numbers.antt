-- Answers as numbers. Assumes nothing.
use mathlib.Core.Path.{◌≡◌}
use Prim.Native.Nat.{ℕ}
use borrow.Author.Rules.{rules}
use Rattle.memory_definition.specs.Answers.{memory_code}
use Rattle.definition.specs.Answers.{Says, pass_code, value_code}

-- ---- the number of an answer is that of what it says
pub passes-so : {s t : Says} {r : ℕ} → r ≡ pass_code s → s ≡ t → r ≡ pass_code t
passes-so e h = rw (← h) e

pub says_so : {s t : Says} {r : ℕ} → r ≡ value_code s → s ≡ t → r ≡ value_code t
says_so e h = rw (← h) e

pub memory-so : {s t : Says} {r : ℕ} → r ≡ memory_code s → s ≡ t → r ≡ memory_code t
memory-so e h = rw (← h) e

pub ruleset numbers = (rules, passes-so, says_so, memory-so)
