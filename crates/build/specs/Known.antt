-- What building functions read, as lists of words: an accepted file, its shape classes, the index of remembered types, and the store of their lines.
use Rattle.std.specs.Prelude.{List, ℕ}
use Rattle.laws.specs.Accepted.{Accepted}

pub record Known : Type 0 where
  pub file : List ℕ
  pub accepted : Accepted file
  pub classes : List ℕ
  pub index : List ℕ
  pub store : List ℕ
