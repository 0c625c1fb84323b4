-- Runs: inside their section first, then every record by its rule. Assumes nothing.
use mathlib.Core.Path.{◌≡◌}
use mathlib.Core.Bool.{Bool, true, false}
use mathlib.Core.List.{List}
use Prim.Native.Nat.{ℕ, ◌+◌}
use borrow.Author.Rules.{rules}
use Rattle.definition.specs.Base.{every}
use Rattle.definition.specs.Accept.{run_in, run_of}
use Rattle.rules.specs.Met.{MetBy}

module _ (f : List ℕ) (s first many : ℕ) (rule : ℕ → Bool) {r : Bool} (e : r ≡ run_in f s first many) where
  pub is-outside : r ≡ false → false ≡ run_of f s rule first many
  unfolding run_of
  is-outside h = rw (← e, h)

  pub run_is : r ≡ true → {q : Bool} → q ≡ every (λ j. rule (first + j)) many → q ≡ run_of f s rule first many
  unfolding run_of
  run_is h k = rw (← e, h) k

-- a test over a rule that is handed in, at the definition's rule
pub met_by : {answers : ℕ → Bool → Type 0} {test : (ℕ → Bool) → Bool} {r : Bool} → MetBy answers test r → (rule : ℕ → Bool) → ((n : ℕ) (x : Bool) → answers n x → x ≡ rule n)
    → r ≡ test rule
met_by m rule h = m.is rule h

pub ruleset running = (rules, is-outside)
