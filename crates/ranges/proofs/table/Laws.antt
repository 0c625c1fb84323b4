-- One law for every row of the table, and one for a width without a row. Assumes nothing.
use mathlib.Core.Path.{◌≡◌}
use mathlib.Core.Bool.{Bool}
use Prim.Native.Nat.{ℕ}
use borrow.Author.Rules.{rules}
use borrow.Author.Tests.{ne_eqb}
use Rattle.definition.specs.Ask.{Result, none}
use Rattle.definition.specs.Accept.{is_bits}
use Rattle.ranges.specs.Table.{Bounds, listed}

module _ {signed : Bool} {bits : ℕ} where
  pub row : {s : Bool} → signed ≡ s → {w : ℕ} → bits ≡ w → {x : Result Bounds} → x ≡ listed s w → x ≡ listed signed bits
  row e b h = rw (e, b) h

pub no_row : (signed : Bool) {bits : ℕ} → (bits ≡ 8 → ⊥) → (bits ≡ 16 → ⊥) → (bits ≡ 32 → ⊥) → (bits ≡ 64 → ⊥) → none ≡ listed signed bits
unfolding listed is_bits
no_row signed {bits} a b c d = rw (ne_eqb bits 8 a, ne_eqb bits 16 b, ne_eqb bits 32 c, ne_eqb bits 64 d)

pub ruleset laws = (rules, row, no_row)
