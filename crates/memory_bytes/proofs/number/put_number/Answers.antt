-- `number::put_number` meets its contract. Assumes nothing.
use borrow.Author.Rules.{rules}
use Rattle.memory_bytes.proofs.Numbering.{plain-put}
use Rattle.memory_bytes.proofs.number.put_number.Goals as goal

pub returns : goal.returns
returns c = plain-put c.args.count c.args.n (c.put_each.ensures.is (λ b. b) (λ b x h. search rules))
