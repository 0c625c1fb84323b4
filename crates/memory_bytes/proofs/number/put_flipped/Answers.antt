-- `number::put_flipped` meets its contract. Assumes nothing.
use borrow.Author.Rules.{rules}
use Prim.Native.Nat.{◌-◌}
use Rattle.memory_bytes.proofs.Numbering.{flipped-put}
use Rattle.memory_bytes.proofs.number.put_flipped.Goals as goal

pub returns : goal.returns
returns c = flipped-put c.args.count c.args.n (c.put_each.ensures.is (λ b. 255 - b) (λ b x h. search rules))
