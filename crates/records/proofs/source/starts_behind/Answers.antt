-- `source::starts_behind` meets its contract. Assumes nothing.
use borrow.Author.Rules.{rules}
use Prim.Native.Nat.{◌+◌}
use lib.ListN.{get_or}
use Rattle.records.proofs.Making.{made-by}
use Rattle.records.proofs.Starting.{kept-behind}
use Rattle.records.proofs.source.starts_behind.Goals as goal

pub returns : goal.returns
returns c = kept-behind c.find_sections-starts.ensures (made-by (λ k. get_or c.find_sections-starts.result (k + 1) 0) _ _ (λ x y q k. search rules) _ c.from_fn.ensures.items)
