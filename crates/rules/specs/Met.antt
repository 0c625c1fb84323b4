-- What a test over a rule that is handed in answers: that of the definition, for whatever rule of the definition the answers agree with.
use Rattle.std.specs.Prelude.{◌≡◌, Bool, List, ℕ}
use Rattle.definition.specs.Base.{every}
use Rattle.definition.specs.Layout.{count}

-- a rule of a record
pub record MetBy (answers : ℕ → Bool → Type 0) (test : (ℕ → Bool) → Bool) (r : Bool) : Type 0 where
  pub is : (rule : ℕ → Bool) → ((n : ℕ) (x : Bool) → answers n x → x ≡ rule n) → r ≡ test rule

-- a rule of each section, at each of its records
pub record MetAll (answers : ℕ → ℕ → Bool → Type 0) (f : List ℕ) (r : Bool) : Type 0 where
  pub is : (rule : ℕ → ℕ → Bool) → ((s n : ℕ) (x : Bool) → answers s n x → x ≡ rule s n) → r ≡ every (λ s. every (rule s) (count f s)) 14
