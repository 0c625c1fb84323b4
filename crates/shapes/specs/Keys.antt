-- A number that alike shapes share, so that only shapes of one key are compared (refusal 5).
use Rattle.std.specs.Prelude.{◌≡◌, List, [], ◌∷◌, ℕ, zero, suc, ◌+◌, ◌≤◌, ◌<◌, length, get_or}
use Rattle.definition.specs.Layout.{shapes, members, shape_fields, dimensions, word}

-- one word of each record of a run, added up
unfoldable pub run_sum : List ℕ → ℕ → ℕ → ℕ → ℕ → ℕ
run_sum f s place first zero = 0
run_sum f s place first (suc k) = run_sum f s place first k + word f s (first + k) place

-- bits, a length, a name or a shape inside; the names of members and of fields; the upper bounds of dimensions
unfoldable pub key_by : List ℕ → ℕ → ℕ → ℕ → ℕ → ℕ
key_by f kind a b c =
    get_or (0 ∷ a ∷ a ∷ a ∷ a ∷ a ∷ a ∷ a ∷ a ∷ a ∷ run_sum f members 0 a b ∷ run_sum f shape_fields 0 a b ∷ run_sum f dimensions 1 b c ∷ []) kind a

unfoldable pub key_of : List ℕ → ℕ → ℕ
key_of f n = key_by f (word f shapes n 0) (word f shapes n 1) (word f shapes n 2) (word f shapes n 3)

-- a table that holds the keys of so many shapes
pub record Keyed (f keys : List ℕ) (many : ℕ) : Type 0 where
  pub room : many ≤ length keys
  pub at : (n : ℕ) → n < many → get_or keys n 0 ≡ key_of f n
