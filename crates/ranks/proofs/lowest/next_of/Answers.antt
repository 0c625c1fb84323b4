-- `lowest::next_of` meets its contract. Assumes nothing.
use Rattle.ranks.proofs.Searching.{telling}
use Rattle.ranks.proofs.lowest.next_of.Goals as goal

pub returns-then-high : goal.returns-then-high
returns-then-high c = search telling

pub returns : goal.returns
returns c = search telling
