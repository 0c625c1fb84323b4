-- What a table of section starts says of a file.
use Rattle.std.specs.Prelude.{◌≡◌, List, ℕ, suc, ◌<◌, ◌≤◌, ◌^◌, ◌*◌, length, get_or}
use Rattle.definition.specs.Layout.{count_at}

-- the first so many starts are the file's, none of them further on than counts of 32 bits allow
pub record StartsTo (f starts : List ℕ) (n : ℕ) : Type 0 where
  pub long : length starts ≡ 15
  pub start : (s : ℕ) → s ≤ n → get_or starts s 0 ≡ count_at f s
  pub near : (s : ℕ) → s ≤ n → get_or starts s 0 ≤ s * 2 ^ 36

-- all of them
abbrev pub StartsOf : List ℕ → List ℕ → Type 0
StartsOf f starts = StartsTo f starts 14

-- the starts of the sections behind the first are the file's
pub record StartsBehind (f starts : List ℕ) : Type 0 where
  pub start : (k : ℕ) → k < 13 → get_or starts k 0 ≡ count_at f (suc k)
  pub near : (k : ℕ) → k < 13 → get_or starts k 0 ≤ 2 ^ 40
