-- `is_nan` meets its contract: the mask takes the sign's bit off. Assumes nothing.
use mathlib.Core.Path.{sym, ap, ◌∙◌}
use Prim.Native.Nat.{ℕ, ◌*◌, ◌^◌}
use lib.Bits.{and_mask}
use lib.Dec.{ltb}
use lib.Ieee.{binary64}
use lib.Ieee.Bits.{nan_bits_above}
use Rattle.reals.proofs.is_nan.Goals as goal

pub returns : goal.returns
returns c = ap (λ (x : ℕ). ltb (2047 * 2 ^ 52) x) (and_mask c.args.bits 63) ∙ sym (nan_bits_above binary64 c.args.bits)
