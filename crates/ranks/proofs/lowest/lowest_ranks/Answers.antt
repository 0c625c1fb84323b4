-- `lowest::lowest_ranks` meets its contract. Assumes nothing.
use Rattle.ranks.proofs.Searching.{answer-kept, answer-left, answering}
use Rattle.ranks.proofs.lowest.lowest_ranks.Goals as goal

pub returns-then-is_err : goal.returns-then-is_err
returns-then-is_err c = answer-left c.args.file.now.accepted _ c.rank_all-ranked.ensures c.is_err.ensures.value c.if-is_err.true (search answering) c.clear.ensures

pub returns-else-is_err : goal.returns-else-is_err
returns-else-is_err c = answer-kept c.args.file.now.accepted _ c.rank_all-ranked.ensures c.is_err.ensures.value c.if-is_err.false
