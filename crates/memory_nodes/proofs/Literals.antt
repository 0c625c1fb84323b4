-- A law for each return of literal.rt. Assumes nothing.
use mathlib.Core.Path.{◌≡◌, refl, ap, ◌∙◌}
use mathlib.Core.Bool.{Bool, true, false, not}
use Prim.Native.Nat.{ℕ, suc, ◌-◌, ◌*◌, ◌/◌, ◌%◌, ◌^◌, ◌≤◌, ◌<◌}
use native.Mathlib.Omega.{arith}
use native.Mathlib.Nat.{pow-succ', one-mul, mod-eq_of_lt}
use lib.Pow.{pow-lt}
use borrow.Author.Rules.{rules}
use borrow.Author.Tests.{le-leb, lt-leb, not-true, not-false}
use Rattle.definition.specs.declared.records.Constant.{Constant}
use Rattle.definition.specs.Records.{constant_of}
use Rattle.memory_definition.specs.Numbers.{is_negative, literal, literal_read}

pub literal-words : (kind sign low high width : ℕ) → record { kind = kind; sign = sign; low = low; high = high; width = width } ≡ constant_of kind sign low high width
unfolding constant_of
literal-words kind sign low high width = refl

-- ---- bits
pub bits-few : (bits : ℕ) → 0 < bits → bits ≤ 64 → bits - 1 < 64
bits-few bits p q = omega arith

module _ (bits : ℕ) (p : 0 < bits) (q : bits ≤ 64) where
  -- half of the range
  half_is : 1 * 2 ^ (bits - 1) % 2 ^ 64 ≡ 2 ^ (bits - 1)
  half_is = ap (λ x. x % 2 ^ 64) (one-mul (2 ^ (bits - 1))) ∙ mod-eq_of_lt (pow-lt (bits-few bits p q))

  two-halves : 2 ^ bits ≡ 2 * 2 ^ (bits - 1)
  two-halves = let e : bits ≡ suc (bits - 1) = omega arith in ap (λ x. 2 ^ x) e ∙ pow-succ' 2 (bits - 1)

  module _ (n : ℕ) (l : n < 2 ^ bits) where
    pub half_room : n - (1 * 2 ^ (bits - 1) % 2 ^ 64) ≤ 1 * 2 ^ (bits - 1) % 2 ^ 64
    half_room = omega (arith, half_is, two-halves, l)

    half_back : 1 * 2 ^ (bits - 1) % 2 ^ 64 ≤ n → 1 * 2 ^ (bits - 1) % 2 ^ 64 - (n - (1 * 2 ^ (bits - 1) % 2 ^ 64)) ≡ 2 ^ bits - n
    half_back h = omega (arith, half_is, two-halves, l)

    pub read_below : (signed : Bool) (kind width : ℕ) {r : Constant} → not signed ≡ false → 1 * 2 ^ (bits - 1) % 2 ^ 64 ≤ n
        → r ≡ constant_of kind 1 ((1 * 2 ^ (bits - 1) % 2 ^ 64 - (n - (1 * 2 ^ (bits - 1) % 2 ^ 64))) % 2 ^ 32) ((1 * 2 ^ (bits - 1) % 2 ^ 64 - (n - (1 * 2 ^ (bits - 1) % 2 ^ 64))) / 2 ^ 32) width
        → r ≡ literal_read signed bits kind width n
    unfolding literal_read literal is_negative
    read_below signed kind width s h e =
        let g : 2 ^ (bits - 1) ≤ n = omega (arith, half_is) in
        e ∙ rw (not-false signed s, le-leb (2 ^ (bits - 1)) n g) (ap (λ x. constant_of kind 1 (x % 2 ^ 32) (x / 2 ^ 32) width) (half_back h))

  pub read_lower : (n : ℕ) (signed : Bool) (kind width : ℕ) {r : Constant} → n < 1 * 2 ^ (bits - 1) % 2 ^ 64 → not signed ≡ false → r ≡ constant_of kind 0 (n % 2 ^ 32) (n / 2 ^ 32) width → r ≡ literal_read signed bits kind width n
  unfolding literal_read literal is_negative
  read_lower n signed kind width h s e =
      let g : n < 2 ^ (bits - 1) = omega (arith, half_is) in
      e ∙ rw (not-false signed s, lt-leb (2 ^ (bits - 1)) n g)

pub read-unsigned : (n bits : ℕ) (signed : Bool) (kind width : ℕ) {r : Constant} → not signed ≡ true → r ≡ constant_of kind 0 (n % 2 ^ 32) (n / 2 ^ 32) width → r ≡ literal_read signed bits kind width n
unfolding literal_read literal is_negative
read-unsigned n bits signed kind width s e = e ∙ rw (not-true signed s)

pub ruleset literals = (rules, literal-words, bits-few, half_room, read_below, read_lower, read-unsigned)
