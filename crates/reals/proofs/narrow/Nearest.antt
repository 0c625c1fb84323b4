-- `closest` of a power of two that is above all digits: a law for each return of `rounded`. Assumes nothing.
use mathlib.Core.Path.{◌≡◌, sym, ◌∙◌}
use Prim.Native.Nat.{ℕ, ◌+◌, ◌*◌, ◌%◌, ◌^◌, ◌≤◌, ◌<◌}
use native.Mathlib.Nat.{div-eq_of_lt, mod-eq_of_lt, pow-succ'}
use native.Mathlib.Numerals.{add-one}
use native.Mathlib.Omega.{arith}
use borrow.Author.Rules.{rules}
use lib.Pow.{pow_mono}
use lib.Ieee.Nearest.{closest}
use Rattle.laws.specs.Rounding.{closest-down}

module _ (m b : ℕ) where
  unit : 2 ^ (b + 1) ≡ 2 * 2 ^ b
  unit = rw add-one (pow-succ' 2 b)

  pub nothing-kept : m < 2 ^ 53 → 52 < b → 0 ≡ closest m (2 ^ (b + 1))
  nothing-kept s h =
      let wide : 2 ^ 53 ≤ 2 ^ b = pow_mono h in
      let under : m < 2 ^ (b + 1) = omega (arith, unit) in
      let rest : m % 2 ^ (b + 1) ≡ m = mod-eq_of_lt under in
      sym (div-eq_of_lt under) ∙ closest-down m (2 ^ (b + 1)) (omega (arith, unit))

pub ruleset laws = (rules, nothing-kept)
