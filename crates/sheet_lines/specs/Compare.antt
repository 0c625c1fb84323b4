-- Words that lie within a sheet, so that they can be compared.
use Rattle.std.specs.Prelude.{ℕ, ◌+◌, ◌≤◌}

-- words from `at` to `end` that hold a head of so many words
pub record Within (long at head end : ℕ) : Type 0 where
  pub starts : at + head ≤ end
  pub inside : end ≤ long
