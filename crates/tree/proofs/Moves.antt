-- Whether words can be copied, and what stands where they are. Assumes nothing.
use mathlib.Core.Path.{◌≡◌, sym, ◌∙◌}
use mathlib.Core.Logic.{◌⊎◌, inl, inr}
use mathlib.Core.Bool.{Bool, true, false, ◌&&◌}
use Prim.Native.Nat.{ℕ, ◌+◌, ◌^◌, ◌≤◌, ◌<◌}
use native.Mathlib.Omega.{arith}
use lib.Dec.{leb}
use mir.Syntax.{w64}
use mir.Val.{Fits}
use borrow.Author.Tests.{leb-true, le-leb, lt-leb}
use Rattle.laws.specs.Cases.{both, either}
use Rattle.tree.specs.Words.{Copyable, apart, movable}
use Rattle.tree.proofs.Writes.{writes}

-- ---- the tests
pub and_so : {b x y : Bool} → b ≡ x → b ≡ true → {r : Bool} → r ≡ y → r ≡ x && y
and_so {b} {x} {y} e t i = let k : x ≡ true = sym e ∙ t in rw (k, i)

pub and-not : {b x : Bool} → b ≡ x → b ≡ false → (y : Bool) → false ≡ x && y
and-not {b} {x} e t y = let k : x ≡ false = sym e ∙ t in rw k

pub apart-front : (from n to : ℕ) → to ≤ from → true ≡ apart from n to
apart-front from n to h = rw (le-leb to from h)

pub apart-past : (from n to : ℕ) → from < to → {r : Bool} → r ≡ leb (from + n) to → r ≡ apart from n to
apart-past from n to h i = rw (lt-leb to from h, i)

-- what they showed
module _ {b : Bool} (from a to at n : ℕ) (e : b ≡ leb (a + n) from && leb (at + n) to) (t : b ≡ true) where
  pub copyable : Copyable from a to at n
  copyable =
      let r = both (leb (a + n) from) (leb (at + n) to) (sym e ∙ t) in
      record { source = leb-true (a + n) from r.0; target = leb-true (at + n) to r.1 }

  pub copy-fits : to < 2 ^ 64 → Fits w64 (at + n)
  copy-fits h = let r = copyable in record { fits = omega arith }

module _ {b : Bool} (len from n to : ℕ) (e : b ≡ movable len from n to) (t : b ≡ true) where
  tested : (from + n ≤ len) × (to + n ≤ len)
  tested =
      let r = both (leb (from + n) len && leb (to + n) len) (apart from n to) (sym e ∙ t) in
      let q = both (leb (from + n) len) (leb (to + n) len) r.0 in
      (leb-true (from + n) len q.0, leb-true (to + n) len q.1)

  pub move-source : from + n ≤ len
  move-source = tested.0

  pub move-target : to + n ≤ len
  move-target = tested.1

  pub move-apart : (to ≤ from) ⊎ (from + n ≤ to)
  move-apart =
      let r = both (leb (from + n) len && leb (to + n) len) (apart from n to) (sym e ∙ t) in
      either (leb to from) (leb (from + n) to) r.1 (λ h. inl (leb-true to from h)) (λ h. inr (leb-true (from + n) to h))

  pub source-fits : len < 2 ^ 64 → Fits w64 (from + n)
  source-fits h = let r = tested in record { fits = omega arith }

  pub move-fits : len < 2 ^ 64 → Fits w64 (to + n)
  move-fits h = let r = tested in record { fits = omega arith }

pub ruleset tests = (writes, and_so, and-not, apart-front, apart-past, copyable, copy-fits, move-source, move-target, source-fits, move-fits)
