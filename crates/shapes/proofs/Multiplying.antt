-- The elements of an array, counted up to one past the most. Assumes nothing.
use mathlib.Core.Path.{◌≡◌, refl, sym}
use mathlib.Core.Bool.{Bool, true, false}
use mathlib.Core.List.{List}
use Prim.Native.Nat.{ℕ, zero, suc, ◌+◌, ◌-◌, ◌*◌, ◌^◌, ◌<◌, ◌≤◌, min}
use native.Mathlib.Omega.{arith}
use native.Mathlib.Nat.{mul-zero, le-mul_of_pos_right, min-eq_left, min-eq_right}
use lib.Dec.{leb}
use borrow.Author.Rules.{rules}
use borrow.Author.Tests.{leb-true, leb-false, le-leb, lt-leb, eq-eqb, ne_eqb}
use Rattle.std.specs.List.{fold, range_with_len}
use Rattle.definition.specs.Layout.{shapes, dimensions, word}
use Rattle.records.proofs.Ranging.{fold-below}
use Rattle.definition.specs.Accept.{biased, dimension_span, elements_of, array_small}

-- ---- one dimension
module _ (f : List ℕ) (n : ℕ) {v w l u : ℕ} (d : v ≡ word f dimensions n 0) (b : l ≡ biased v) (e : w ≡ word f dimensions n 1) (h : u ≡ biased w) where
  pub span_none : u + 1 < l → 0 ≡ dimension_span f n
  unfolding dimension_span
  span_none q = rw (← d, ← e, ← b, ← h) (omega arith)

  pub span-is : u + 1 - l ≡ dimension_span f n
  unfolding dimension_span
  span-is = rw (← d, ← e, ← b, ← h)

-- ---- their product
-- a product's cap needs only the first factor's
capped-times : (most n s : ℕ) → min (min n most * s) most ≡ min (n * s) most
capped-times most n zero = simp mul-zero
capped-times most n (suc s) = go (leb n most) refl
  where
    go : (b : Bool) → leb n most ≡ b → min (min n most * suc s) most ≡ min (n * suc s) most
    go true q = rw (min-eq_left (leb-true n most q))
    go false q =
        let l = leb-false n most q in
        let h : most ≤ n = omega arith in
        let pos : 0 < suc s = omega arith in
        let big : most ≤ most * suc s = le-mul_of_pos_right most pos in
        let more : most ≤ n * suc s = omega (arith, le-mul_of_pos_right n pos) in
        rw (min-eq_right h, min-eq_right big, min-eq_right more)

module _ (f : List ℕ) (first most : ℕ) where
  abbrev pub times : ℕ → ℕ → ℕ
  times product j = min (product * dimension_span f (first + j)) most

  pub multiplied : (n : ℕ) → fold times (min most 1) (range_with_len 0 n) ≡ min (elements_of f first n) most
  unfolding elements_of
  multiplied n =
      fold-below times (min most 1) (λ j. min (elements_of f first j) most) (omega arith)
      (λ j. sym (capped-times most (elements_of f first j) (dimension_span f (first + j)))) n

-- a product that would not fit is past any cap that does
pub saturated-times : (most p u : ℕ) {s t r : ℕ} → most < 2 ^ 64 → t ≡ min (p * s) (2 ^ 64 - 1) → s ≡ u → r ≡ min t most → r ≡ min (p * u) most
saturated-times most p u h e q k = rw (k, e, q) (omega (arith, h))

small_is : (n : ℕ) → leb (min n 65537) 65536 ≡ leb n 65536
small_is n = go (leb n 65536) refl
  where
    go : (b : Bool) → leb n 65536 ≡ b → leb (min n 65537) 65536 ≡ b
    go true q = let l = leb-true n 65536 q in le-leb (min n 65537) 65536 (omega arith)
    go false q = let l = leb-false n 65536 q in lt-leb (min n 65537) 65536 (omega arith)

module _ (f : List ℕ) (n : ℕ) {kind : ℕ} (is : kind ≡ word f shapes n 0) where
  pub an-array : kind ≡ 12 → {first many e : ℕ} → first ≡ word f shapes n 2 → many ≡ word f shapes n 3 → e ≡ min (elements_of f first many) 65537 → leb e 65536 ≡ array_small f n
  unfolding array_small
  an-array k {first} {many} p q h = rw (← is, eq-eqb kind 12 k, ← p, ← q, h) (small_is (elements_of f first many))

  pub no-array : (kind ≡ 12 → ⊥) → true ≡ array_small f n
  unfolding array_small
  no-array h = rw (← is, ne_eqb kind 12 h)

pub ruleset multiplying = (rules, an-array, no-array)

pub ruleset spans = (rules, span_none, span-is)
