-- `lowest::rank_type` meets its contract. Assumes nothing.
use Rattle.ranks.specs.Lowest.{total}
use Rattle.ranks.proofs.Ranking.{Goes}
use Rattle.ranks.proofs.lowest.+rank_type.Given as goal

abbrev pub decreases-rank_type : goal.decreases-rank_type
decreases-rank_type l = total l.ranks.now

abbrev pub invariant-loop-next : goal.invariant-loop-next
invariant-loop-next l = Goes l.file l.t l.initial.ranks l.ranks

abbrev pub decreases-loop-next : goal.decreases-loop-next
decreases-loop-next l = total l.ranks
