-- `file::declared_types` meets its contract. Assumes nothing.
use borrow.Author.Rules.{rules}
use Rattle.records.proofs.Declaring.{is_declared, declared-below}
use Rattle.records.proofs.Ranging.{counted-in-range}
use Rattle.records.proofs.file.declared_types.Goals as goal

pub returns : goal.returns
returns c =
    let f = c.args.source.now in
    rw (← c.count.ensures, ← declared-below f c.count.result)
    (counted-in-range (is_declared f) _ c.count.result _ c.count-2.ensures.ran c.filter.ensures.source c.filter.ensures.closure (λ x b q k. search rules))
