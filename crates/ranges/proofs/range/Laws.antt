-- What the bounds of an integer type say of a sign and a size, at any sign and width: a law for each return of `fits`. Assumes nothing.
use mathlib.Core.Path.{◌≡◌, refl, sym, ap, ◌∙◌}
use mathlib.Core.Bool.{Bool, true, false, ◌&&◌}
use Prim.Native.Nat.{ℕ, zero, suc, ◌-◌, ◌^◌}
use native.Mathlib.Omega.{arith}
use borrow.Author.Rules.{rules}
use lib.Dec.{leb, eqb, leb-zero, leb-suc-suc, leb-suc-zero, eqb-suc-zero}
use lib.IntN.{ℤ, pos, neg_ℤ}
use lib.Signed.{le_z}
use mir.Syntax.{w64}
use mir.Val.{SFits, to_z, of_z}
use mir.ValLaws.{to_z-of_z}
use Rattle.definition.specs.declared.records.Constant.{Constant}
use Rattle.definition.specs.Ask.{Result, ok, none, large}
use Rattle.definition.specs.Accept.{is_bits}
use Rattle.definition.specs.Iec.{number, least, greatest, between, in_range}
use Rattle.definition.specs.Scalar.{size_of, value_of}
use Rattle.std.specs.Prelude.{Option, Some, None}
use Rattle.ranges.specs.Table.{Bounds, bounds, bounds_of, listed, depth_of}

-- an i64 as the machine has it
abbrev stored : ℤ → ℤ
stored z = to_z w64 (of_z w64 z)

module _ {z : ℤ} (f : SFits w64 z) where
  is-stored : stored z ≡ z
  is-stored = to_z-of_z w64 z f

-- ---- `fits`: what the bounds of any sign and width say of a sign and a size
le-negatives : (m n : ℕ) → leb n m ≡ le_z (neg_ℤ (pos m)) (neg_ℤ (pos n))
le-negatives zero zero = refl
le-negatives zero (suc n) = leb-suc-zero n
le-negatives (suc m) zero = leb-zero (suc m)
le-negatives (suc m) (suc n) = leb-suc-suc n m

le-across : (m n : ℕ) → true ≡ le_z (neg_ℤ (pos m)) (pos n)
le-across zero n = sym (leb-zero n)
le-across (suc m) n = refl

and-true : (b : Bool) → b && true ≡ b
and-true true = refl
and-true false = refl

depth-negative : (n : ℕ) → depth_of (neg_ℤ (pos n)) ≡ n
depth-negative zero = refl
depth-negative (suc n) = refl

-- no integer type has its least number above 0
least-below : (signed : Bool) (bits n : ℕ) → le_z (least signed bits) (pos n) ≡ true
unfolding least
least-below true bits n = sym (le-across (2 ^ (bits - 1)) n)
least-below false bits n = leb-zero n

least-depth : (signed : Bool) (bits n : ℕ) → leb n (depth_of (least signed bits)) ≡ le_z (least signed bits) (neg_ℤ (pos n))
unfolding least
least-depth true bits n = rw (depth-negative (2 ^ (bits - 1))) (le-negatives (2 ^ (bits - 1)) n)
least-depth false bits n = le-negatives 0 n

-- nor its greatest below 0
greatest-above : (signed : Bool) (bits n : ℕ) → le_z (neg_ℤ (pos n)) (greatest signed bits) ≡ true
unfolding greatest
greatest-above true bits n = sym (le-across n (2 ^ (bits - 1) - 1))
greatest-above false bits n = sym (le-across n (2 ^ bits - 1))

abbrev lowest_in : Result Bounds → ℤ
lowest_in (ok b) = b.lowest
lowest_in none = pos 0
lowest_in large = pos 0

abbrev highest_in : Result Bounds → ℤ
highest_in (ok b) = b.highest
highest_in none = pos 0
highest_in large = pos 0

module _ (signed : Bool) (bits : ℕ) (b : is_bits bits ≡ true) where
  is-listed : listed signed bits ≡ bounds (least signed bits) (greatest signed bits)
  unfolding listed
  is-listed = rw b

  pub fits-unlisted : {r : Option (ℤ × ℕ)} → bounds_of r ≡ listed signed bits → r ≡ None → (c : Constant) → false ≡ in_range signed bits (value_of c)
  fits-unlisted is e c =
      let n : ◌≡◌ {A = Result Bounds} none (bounds (least signed bits) (greatest signed bits)) = (rw e at is) ∙ is-listed in
      let z : ◌≡◌ {A = ℕ} 0 1 = cc in
      absurd (omega arith)

  module _ {r : Option (ℤ × ℕ)} (is : bounds_of r ≡ listed signed bits) {x : ℤ × ℕ} (e : r ≡ Some x) where
    are-bounds : bounds x.0 (pos x.1) ≡ bounds (least signed bits) (greatest signed bits)
    are-bounds = let h : bounds x.0 (pos x.1) ≡ listed signed bits = rw e at is in h ∙ is-listed

    module _ (c : Constant) {s : Bool} (negative_is : s ≡ eqb c.sign 1) {n : ℕ} (is-size : n ≡ size_of c) where
      pub fits_below : SFits w64 x.0 → s ≡ true → {d : ℕ} → d ≡ depth_of (stored x.0) → leb n d ≡ in_range signed bits (value_of c)
      unfolding in_range between value_of number
      fits_below f q h =
          let is-least : x.0 ≡ least signed bits = ap lowest_in are-bounds in
          rw (← negative_is, q, ← is-size, greatest-above signed bits n, and-true, h, is-stored f, is-least) (least-depth signed bits n)

      pub fits-above : s ≡ false → leb n x.1 ≡ in_range signed bits (value_of c)
      unfolding in_range between value_of number
      fits-above q =
          let is-greatest : pos x.1 ≡ greatest signed bits = ap highest_in are-bounds in
          rw (← negative_is, q, ← is-size, least-below signed bits n, ← is-greatest)

-- ---- `at_most`
le-zeros : (n : ℕ) → eqb n 0 ≡ le_z (pos 0) (neg_ℤ (pos n))
le-zeros zero = refl
le-zeros (suc n) = eqb-suc-zero n

le-back : (m n : ℕ) → (m ≡ 0 → ⊥) → false ≡ le_z (pos m) (neg_ℤ (pos n))
le-back zero n h = absurd (h refl)
le-back (suc m) zero h = sym (leb-suc-zero m)
le-back (suc m) (suc n) h = refl

module _ (a b : Constant) {s t : Bool} (sa : s ≡ eqb a.sign 1) (sb : t ≡ eqb b.sign 1) where
  pub at-most-across : s ≡ true → t ≡ false → true ≡ le_z (value_of a) (value_of b)
  unfolding value_of number
  at-most-across p q = rw (← sa, ← sb, p, q) (le-across (size_of a) (size_of b))

  pub at-most-back : {m : ℕ} → m ≡ size_of a → s ≡ false → t ≡ true → (m ≡ 0 → ⊥) → false ≡ le_z (value_of a) (value_of b)
  unfolding value_of number
  at-most-back ma p q h = rw (← sa, ← sb, p, q, ← ma) (le-back _ (size_of b) h)

  module _ {m n : ℕ} (ma : m ≡ size_of a) (nb : n ≡ size_of b) where
    pub at-most-negative : s ≡ true → t ≡ true → leb n m ≡ le_z (value_of a) (value_of b)
    unfolding value_of number
    at-most-negative p q = rw (← sa, ← sb, p, q, ← ma, ← nb) (le-negatives m n)

    pub at-most-zeros : s ≡ false → t ≡ true → m ≡ 0 → eqb n 0 ≡ le_z (value_of a) (value_of b)
    unfolding value_of number
    at-most-zeros p q z = rw (← sa, ← sb, p, q, ← ma, z, ← nb) (le-zeros n)

    pub at-most-plain : s ≡ false → t ≡ false → leb m n ≡ le_z (value_of a) (value_of b)
    unfolding value_of number
    at-most-plain p q = rw (← sa, ← sb, p, q, ← ma, ← nb)

pub ruleset laws = (rules, fits-unlisted, fits_below, fits-above)

pub ruleset at_most = (rules, at-most-across, at-most-back, at-most-negative, at-most-zeros, at-most-plain)
