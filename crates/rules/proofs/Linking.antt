-- A link whose record is tested. Assumes nothing.
use mathlib.Core.Path.{◌≡◌, refl}
use mathlib.Core.Bool.{Bool, true}
use Prim.Native.Nat.{ℕ, zero, suc}
use Rattle.definition.specs.Accept.{link_to}

pub linked_by : (rule : ℕ → Bool) (l : ℕ) {r : Bool} → (l ≡ 0 → r ≡ true) → ((n : ℕ) → l ≡ suc n → r ≡ rule n) → r ≡ link_to rule l
unfolding link_to
linked_by rule zero h k = h refl
linked_by rule (suc n) h k = k n refl
