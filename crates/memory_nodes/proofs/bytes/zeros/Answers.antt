-- `bytes::zeros` meets its contract. Assumes nothing.
use lib.ListN.{take, drop}
use Prim.Native.Nat.{◌-◌}
use borrow.Author.Rules.{rules}
use Rattle.std.proofs.lemmas.Iterator.{YieldsList-from_slice}
use Rattle.std.proofs.lemmas.Iterator.Search.{all_from_yields_List}
use Rattle.memory_nodes.proofs.Numbering.{all-zeros}
use Rattle.memory_nodes.proofs.bytes.zeros.Goals as goal

pub returns : goal.returns
returns c =
    let part = take (c.args.to - c.args.from) (drop c.args.from c.args.bytes.now) in
    all-zeros part (all_from_yields_List _ _ _ _ c.all.ensures.ran (YieldsList-from_slice part cc) (λ x b q k. search rules))
