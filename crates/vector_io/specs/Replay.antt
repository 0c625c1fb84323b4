-- The sum of what steps give.
use Rattle.std.specs.Prelude.{◌≡◌, ℕ, zero, suc, ◌+◌, ◌%◌, ◌^◌, Option, Some, None, Result, Ok, Err}

-- At most so many steps from the k-th on, the first in the state f, with this sum before it. A step that finds nothing more ends them with the sum, one that fails ends them with its error,
-- and any other adds what it gives.
pub data Sums {F E : Type 0} (step : F → ℕ → Result (Option ℕ) E → F → Type 0) : ℕ → ℕ → F → ℕ → Result ℕ E → Type 0 where
  all : {k sum : ℕ} {f : F} → Sums step zero k f sum (Ok sum)
  ended : {left k sum : ℕ} {f next : F} → step f k (Ok None) next → Sums step (suc left) k f sum (Ok sum)
  failed : {left k sum : ℕ} {f next : F} {error : E} → step f k (Err error) next → Sums step (suc left) k f sum (Err error)
  added : {left k sum n : ℕ} {f next : F} {result : Result ℕ E} → step f k (Ok (Some n)) next → Sums step left (suc k) next ((sum + n) % 2 ^ 64) result → Sums step (suc left) k f sum result

-- The sum of so many steps is printed; a step that fails gives its error.
pub record PrintsSum {F E A : Type 0} (step : F → ℕ → Result (Option ℕ) E → F → Type 0) (most : ℕ) (f : F) (result : Result A E) : Type 0 where
  pub sum : Result ℕ E
  pub sums : Sums step most 0 f 0 sum
  pub fails : (error : E) → sum ≡ Err error → result ≡ Err error
