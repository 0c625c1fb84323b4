-- `lowest::rank_type` meets its contract. Assumes nothing.
use Rattle.ranks.proofs.Searching.{typing, type-ranked}
use Rattle.ranks.proofs.lowest.+rank_type.Goals as goal

pub loop-next-init : goal.loop-next-init
loop-next-init t c = search typing

pub returns-in-Rank : goal.returns-in-Rank
returns-in-Rank t c = type-ranked c.requires c.loop-next.invariant c.next_of.ensures c.in_ok-next.was c.in-Rank.is
