-- The fields of 64 bits, and the 32 bits that they come to. Assumes nothing.
use Rattle.std.specs.Prelude.{◌≡◌, Bool, ℕ, ◌^◌, ◌<◌}
use Rattle.std.specs.Float.{binary32, binary64}
use Rattle.std.specs.Float.Ieee.{of_fields, to_bits}
use Rattle.memory_definition.specs.Numbers.{in_format}

-- an exponent's field and digits that are no NaN's
pub record Fields (exp mant : ℕ) : Type 0 where
  pub field : exp < 2048
  pub digits : mant < 2 ^ 52
  pub number : exp ≡ 2047 → mant ≡ 0

unfoldable pub single : Bool → ℕ → ℕ → ℕ
single s exp mant = to_bits binary32 (in_format binary32 (of_fields binary64 s exp mant))
