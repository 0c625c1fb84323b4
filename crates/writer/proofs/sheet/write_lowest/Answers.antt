-- `sheet::write_lowest` meets its contract. Assumes nothing.
use borrow.Author.Rules.{rules}
use Rattle.writer.proofs.Whole.{found_none, lowests}
use Rattle.writer.proofs.sheet.write_lowest.Goals as goal

pub lowest_ranks-requires : goal.lowest_ranks-requires
lowest_ranks-requires c = search lowests

pub write_ranked-requires : goal.write_ranked-requires
write_ranked-requires c = search (lowests, c.in-Ok.is)

pub returns-in-Ok : goal.returns-in-Ok
returns-in-Ok c = search (lowests, c.in-Ok.is)

pub returns-in-Err : goal.returns-in-Err
returns-in-Err c = found_none c.lowest_ranks.ensures c.in-Err.is (search rules)
