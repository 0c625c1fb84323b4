-- A law for each return of string.rt. Assumes nothing.
use mathlib.Core.Path.{◌≡◌, refl, sym}
use mathlib.Core.List.{List, []}
use Prim.Native.Nat.{ℕ, suc, ◌+◌, ◌-◌, ◌*◌, ◌^◌, ◌≤◌, ◌<◌, min}
use native.Mathlib.Nat.{le_of_lt, add-sub_cancel_left, min-le_left}
use native.Mathlib.Omega.{arith}
use borrow.Author.Rules.{rules}
use borrow.Author.Tests.{ne_eqb}
use lib.Dec.{leb}
use mathlib.Core.Bool.{Bool, true, false}
use Rattle.std.specs.Bool.{then_some}
use Rattle.definition.specs.Base.{pick}
use lib.ListN.{length, take, drop, length-drop, drop_of_length-le}
use lib.Seq.{take_all, take-nil, take-length}
use Rattle.definition.specs.declared.records.Constant.{Constant}
use Rattle.definition.specs.Records.{constant_of}
use Rattle.definition.specs.Ask.{ok, none, result_of}
use Rattle.std.specs.Prelude.{Option}
use Rattle.scalar.specs.String.{max_length_by, string_of, cut_by, Countable}

-- ---- `max_length`
module _ (setting : ℕ) where
  pub undeclared : {length : ℕ} → (1 ≤ length → ⊥) → ok setting ≡ max_length_by setting length
  unfolding max_length_by
  undeclared {length} n = let e : length ≡ 0 = omega (arith, n) in rw e

  pub declared : (length : ℕ) {n : ℕ} → (1 ≤ length) × (length - 1 ≡ n) → {r : Option ℕ} → r ≡ then_some (leb n 65535) n → result_of r ≡ max_length_by setting length
  unfolding max_length_by
  declared length {n} h e = let l = h.0 in let m = h.1 in let q : length ≡ suc n = omega arith in rw (q, e) (go (leb n 65535))
    where
      go : (b : Bool) → result_of (then_some b n) ≡ pick b (ok n) none
      go true = refl
      go false = refl

-- ---- `string_constant`
module _ (first width : ℕ) {count : ℕ} where
  pub empty-run : count ≡ 0 → record { kind = 8; sign = 0; low = 0; high = count; width = width } ≡ string_of first count width
  unfolding string_of constant_of
  empty-run e = rw e

  pub whole_run : (count ≡ 0 → ⊥) → record { kind = 8; sign = 0; low = first; high = count; width = width } ≡ string_of first count width
  unfolding string_of constant_of
  whole_run n = rw (ne_eqb _ _ n)

-- ---- `cut_string`
module _ (setting length width first count : ℕ) where
  pub cut-none : none ≡ max_length_by setting length → none ≡ cut_by setting length width first count
  unfolding cut_by
  cut-none e = rw (← e)

  pub cut-value : {n : ℕ} → ok n ≡ max_length_by setting length → {k : ℕ} → k ≡ min count n → {c : Constant} → c ≡ string_of first k (width + 2 * (count - k))
      → ok c ≡ cut_by setting length width first count
  unfolding cut_by
  cut-value e m s = rw (← e, s, m)

-- the characters cut are counted in a word
pub held_below : (count n : ℕ) {k : ℕ} → k ≡ min count n → k ≤ count
held_below count n m = rw m (min-le_left count n)

module _ (width : ℕ) {count : ℕ} (k : ℕ) (h : Countable width count) where
  pub cut-doubled : 2 * (count - k) < 2 ^ 32
  cut-doubled = omega (arith, h.fits)

  pub cut-counted : width + 2 * (count - k) < 2 ^ 32
  cut-counted = omega (arith, h.fits)

pub none-counted : (width : ℕ) → width < 2 ^ 32 → Countable width 0
none-counted width h = record { fits = omega (arith, h) }

-- ---- `string_value`
module _ (xs : List ℕ) (first count most : ℕ) {n : ℕ} (e : n ≡ min count most) where
  pub part-whole : take (first + n - first) (drop first xs) ≡ take (min count most) (drop first xs)
  part-whole = rw (add-sub_cancel_left, e)

  pub part_left : length xs < first + n → take (length xs - first) (drop first xs) ≡ take (min count most) (drop first xs)
  part_left h =
      let l : length (drop first xs) ≤ n = rw length-drop (omega arith) in
      rw (← e, ← length-drop first xs, take-length) (sym (take_all n (drop first xs) l))

  pub part_none : length xs < first → [] ≡ take (min count most) (drop first xs)
  part_none h = rw (drop_of_length-le xs (le_of_lt h), take-nil)

pub ruleset laws = (rules, undeclared, declared, empty-run, whole_run, cut-none, cut-value, held_below, cut-doubled, cut-counted, part-whole, part_left, part_none)
