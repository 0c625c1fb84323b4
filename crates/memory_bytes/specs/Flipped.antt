-- Bytes with every bit turned round: those of a number below 0 come from its size less one. Assumes nothing.
use Rattle.std.specs.Prelude.{◌≡◌, refl, List, [], ◌∷◌, ℕ, zero, suc, ◌+◌, ◌-◌, ◌*◌, ◌/◌, ◌%◌, ◌^◌, ◌≤◌, ◌<◌}
use Rattle.std.proofs.Common.{ap, ◌∙◌, arith, pow-add}
use Rattle.definition.specs.declared.records.Constant.{Constant}
use Rattle.definition.specs.Scalar.{size_of}
use Rattle.memory_definition.specs.Numbers.{little_endian}

unfoldable pub flipped : ℕ → ℕ → List ℕ
flipped zero n = []
flipped (suc k) n = (255 - n % 256) ∷ flipped k (n / 256)

pub flipped-is : (k bits n : ℕ) → 8 * k ≤ bits → n < 2 ^ bits → flipped k n ≡ little_endian k (2 ^ bits - suc n)
unfolding flipped little_endian
flipped-is zero bits n h l = refl
flipped-is (suc k) bits n h l =
    let b : ℕ = bits - 8 in
    let e : bits ≡ b + 8 = omega arith in
    let p : 2 ^ bits ≡ 2 ^ b * 256 = ap (λ x. 2 ^ x) e ∙ pow-add 2 b 8 in
    let low : 255 - n % 256 ≡ (2 ^ bits - suc n) % 256 = omega (arith, p) in
    let high : (2 ^ bits - suc n) / 256 ≡ 2 ^ b - suc (n / 256) = omega (arith, p) in
    let less : n / 256 < 2 ^ b = omega (arith, p) in
    rw (low, high, flipped-is k b (n / 256) (omega arith) less)

-- a number that so many bits hold in two's complement, if it is below 0
pub record Within (bits : ℕ) (c : Constant) : Type 0 where
  pub some : c.sign ≡ 1 → 0 < size_of c
  pub most : c.sign ≡ 1 → size_of c ≤ 2 ^ bits
