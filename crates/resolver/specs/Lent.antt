-- What a function answered that was lent three slices, and what it left in the first.
use Rattle.std.specs.Prelude.{◌≡◌, List, ℕ}
use denote.Ref.{MutBor}

pub record Answered {T R : Type 0} (P : MutBor (List T) → MutBor (List ℕ) → MutBor (List ℕ) → R → MutBor (List T) → MutBor (List ℕ) → MutBor (List ℕ) → Type 0) (out : List T) (lines room : List ℕ) (r : R) (out' : List T) : Type 0 where
  pub a : MutBor (List T)
  pub b : MutBor (List ℕ)
  pub c : MutBor (List ℕ)
  pub a_is : a.now ≡ out
  pub b_is : b.now ≡ lines
  pub c_is : c.now ≡ room
  pub a' : MutBor (List T)
  pub b' : MutBor (List ℕ)
  pub c' : MutBor (List ℕ)
  pub met : P a b c r a' b' c'
  pub left : a'.now ≡ out'
