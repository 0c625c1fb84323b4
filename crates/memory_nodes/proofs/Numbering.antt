-- Bytes gone through one by one. Assumes nothing.
use mathlib.Core.Path.{◌≡◌, refl, ap, ◌∙◌}
use mathlib.Core.Bool.{Bool, ◌&&◌}
use mathlib.Core.List.{List, [], ◌∷◌}
use Prim.Native.Nat.{ℕ, suc, ◌+◌, ◌-◌, ◌*◌, ◌^◌, ◌≤◌, ◌<◌}
use native.Mathlib.Omega.{arith}
use native.Mathlib.Nat.{pow-succ', pow-le-pow_right, mul-le-mul_left}
use lib.ListN.{length, get_or, take, drop}
use lib.Seq.{drop-cons}
use borrow.Author.Rules.{rules}
use mir.Syntax.{w8, w64}
use mir.Val.{Fits}
use lib.Dec.{eqb}
use Rattle.std.specs.List.{list_all}
use Rattle.definition.specs.Base.{unused}
use Rattle.memory_definition.specs.Numbers.{number_from}

-- ---- a number, from its last byte on
-- n is the number of the bytes behind the first `left`
pub record Numbering (bytes : List ℕ) (at count left n : ℕ) : Type 0 where
  pub is : n ≡ number_from (take (count - left) (drop (at + left) bytes))
  pub small : n < 256 ^ (count - left)
  pub inside : left ≤ count

number-cons : (b : ℕ) (bs : List ℕ) → number_from (b ∷ bs) ≡ b + 256 * number_from bs
unfolding number_from
number-cons b bs = refl

number-none : (l : List ℕ) → 0 ≡ number_from (take 0 l)
unfolding number_from
number-none l = refl

module _ (bytes : List ℕ) (at count : ℕ) where
  pub numbering-first : Numbering bytes at count count 0
  numbering-first =
      let none : count - count ≡ 0 = omega arith in
      record { is = rw none (number-none (drop (at + count) bytes)); small = rw none (omega arith); inside = omega arith }

  module _ {left n : ℕ} (x : Numbering bytes at count left n) (h : 0 < left) where
    pub numbering-room : count ≤ 8 → n * 256 + 256 ≤ 2 ^ 64
    numbering-room l = omega (arith, x.small, pow-le-pow_right {n = 256} (omega arith) {i = count - left} {j = 7} (omega arith))

    pub numbering-more : at + count ≤ length bytes → get_or bytes (at + (left - 1)) 0 < 256 → Numbering bytes at count (left - 1) (n * 256 + get_or bytes (at + (left - 1)) 0)
    numbering-more room b =
        let place : ℕ = at + (left - 1) in
        let one : count - (left - 1) ≡ suc (count - left) = omega (arith, x.inside) in
        let next : suc place ≡ at + left = omega arith in
        let bs : List ℕ = take (count - left) (drop (at + left) bytes) in
        let split : take (suc (count - left)) (drop place bytes) ≡ get_or bytes place 0 ∷ bs = rw (drop-cons bytes place 0 (omega (arith, x.inside)), next) in
        record {
          is = rw (one, split, number-cons (get_or bytes place 0) bs) (omega (arith, x.is));
          small = rw one (omega (arith, x.small, pow-succ' 256 (count - left), b, mul-le-mul_left 256 x.small));
          inside = omega (arith, x.inside);
        }

module _ (bytes : List ℕ) (at count left n : ℕ) (x : Numbering bytes at count left n) (h : left ≤ 0) where
  pub numbering-is : n ≡ number_from (take count (drop at bytes))
  numbering-is =
      let a : at + left ≡ at = omega arith in
      let c : count - left ≡ count = omega arith in
      x.is ∙ rw (a, c)

  pub numbering-small : n < 256 ^ count
  numbering-small = let c : count - left ≡ count = omega arith in rw (← c) x.small

-- a byte is below 256
pub byte-below : (bytes : List ℕ) → ((i : ℕ) → Fits w8 (get_or bytes i 0)) → (i : ℕ) → get_or bytes i 0 < 256
byte-below bytes h i = (h i).fits

pub byte_fits : (bytes : List ℕ) → ((i : ℕ) → Fits w8 (get_or bytes i 0)) → (i : ℕ) → Fits w64 (get_or bytes i 0)
byte_fits bytes h i = record { fits = omega (arith, (h i).fits) }

module _ {bytes : List ℕ} {at count left n : ℕ} (x : Numbering bytes at count left n) (h : 0 < left) (l : count ≤ 8) where
  pub shifted_fits : Fits w64 (n * 256)
  shifted_fits = record { fits = omega (arith, numbering-room bytes at count x h l) }

  pub added-fits : (b : ℕ) → b < 256 → Fits w64 (n * 256 + b)
  added-fits b k = record { fits = omega (arith, numbering-room bytes at count x h l) }

-- ---- zeros
zeros-listed : (bs : List ℕ) → list_all (λ b. eqb b 0) bs ≡ unused bs
unfolding unused
zeros-listed [] = refl
zeros-listed (b ∷ bs) = ap (λ t. eqb b 0 && t) (zeros-listed bs)

pub all-zeros : (l : List ℕ) {r : Bool} → r ≡ list_all (λ b. eqb b 0) l → r ≡ unused l
all-zeros l e = e ∙ zeros-listed l

pub ruleset numbering = (rules, numbering-first, numbering-more, numbering-is, numbering-small, byte-below, byte_fits, shifted_fits, added-fits, all-zeros)
