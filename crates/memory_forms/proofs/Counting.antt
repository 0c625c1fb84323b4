-- The entries of an array, counted up to one past what a word holds. Assumes nothing.
use mathlib.Core.Path.{◌≡◌, refl, ap, ◌∙◌}
use mathlib.Core.Bool.{Bool, true, false}
use mathlib.Core.List.{List}
use Prim.Native.Nat.{ℕ, zero, suc, ◌+◌, ◌-◌, ◌*◌, ◌^◌, ◌≤◌, ◌<◌, min}
use native.Mathlib.Omega.{arith}
use native.Mathlib.Nat.{mul-zero, mul_comm, le-mul_of_pos_right, min-eq_left, min-eq_right}
use lib.Dec.{leb}
use borrow.Author.Rules.{rules}
use borrow.Author.Tests.{leb-true, leb-false}
use Rattle.definition.specs.declared.records.Shape.{Shape}
use Rattle.definition.specs.declared.records.Shape.TheVariants as shape
use Rattle.definition.specs.Records.{shape_at}
use Rattle.definition.specs.Accept.{elements_of}
use Rattle.definition.specs.Shapes.{on_array}
use Rattle.places.proofs.Others.{NoArray, no-array}
use Rattle.memory_definition.specs.Cells.{entries_up_to}

-- ---- a product's cap needs only the factors'
module _ (M : ℕ) (pos : 0 < M) where
  capped-first : (n s : ℕ) → min (min n M * s) M ≡ min (n * s) M
  capped-first n zero = simp mul-zero
  capped-first n (suc s) = go (leb n M) refl
    where
      go : (b : Bool) → leb n M ≡ b → min (min n M * suc s) M ≡ min (n * suc s) M
      go true q = rw (min-eq_left (leb-true n M q))
      go false q =
          let l = leb-false n M q in
          let h : M ≤ n = omega arith in
          let p : 0 < suc s = omega arith in
          let big : M ≤ M * suc s = le-mul_of_pos_right M p in
          let more : M ≤ n * suc s = omega (arith, le-mul_of_pos_right n p) in
          rw (min-eq_right h, min-eq_right big, min-eq_right more)

  capped-both : (n s : ℕ) → min (min n M * min s M) M ≡ min (n * s) M
  capped-both n s =
      capped-first n (min s M)
      ∙ ap (λ (k : ℕ). min k M) (mul_comm n (min s M))
      ∙ capped-first s n
      ∙ ap (λ (k : ℕ). min k M) (mul_comm s n)

-- ---- `times`
pub times-capped : (a b : ℕ) {p : ℕ} → p ≡ min (a * b) (2 ^ 64 - 1) → {r : ℕ} → r ≡ min p (2 ^ 32) → r ≡ min (a * b) (2 ^ 32)
times-capped a b e h = omega (arith, e, h)

-- ---- `entries_up_to`
module _ (f : List ℕ) (left : ℕ) (s : Shape) where
  pub entries_none : left ≡ 0 → 1 ≡ min (entries_up_to f left s) (2 ^ 32)
  unfolding entries_up_to
  entries_none e = rw e (omega arith)

  module _ (n : left ≡ 0 → ⊥) where
    step : entries_up_to f left s ≡ on_array s 1 (λ e first many. elements_of f first many * entries_up_to f (left - 1) (shape_at f e))
    unfolding entries_up_to
    step = go left n
      where
        go : (k : ℕ) → (k ≡ 0 → ⊥) → entries_up_to f k s ≡ on_array s 1 (λ e first many. elements_of f first many * entries_up_to f (k - 1) (shape_at f e))
        go zero m = absurd (m refl)
        go (suc k) m = let e : suc k - 1 ≡ k = omega arith in rw e

    pub entries-one : NoArray s → 1 ≡ min (entries_up_to f left s) (2 ^ 32)
    entries-one o = rw (step, ← no-array 1 s (λ e first many. elements_of f first many * entries_up_to f (left - 1) (shape_at f e)) o) (omega arith)

    pub entries-array : {e first many : ℕ} → s ≡ shape.Array e first many → {t : Shape} → t ≡ shape_at f e → {a b : ℕ} → b ≡ min (entries_up_to f (left - 1) t) (2 ^ 32)
        → a ≡ min (elements_of f first many) (2 ^ 32) → {r : ℕ} → r ≡ min (a * b) (2 ^ 32) → r ≡ min (entries_up_to f left s) (2 ^ 32)
    entries-array {e} {first} {many} q {t} g {a} {b} i j {r} h =
        rw (step, q, ← g) (h ∙ rw (i, j) (capped-both (2 ^ 32) (omega arith) (elements_of f first many) (entries_up_to f (left - 1) t)))

pub ruleset counting = (rules, times-capped, entries_none, entries-one, entries-array)
