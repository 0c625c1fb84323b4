-- `accept::tested` meets its contract. Assumes nothing.
use Rattle.acceptance.proofs.Accepting.{holds, last-test}
use Rattle.acceptance.proofs.accept.tested.Goals as goal

pub returns : goal.returns
returns c =
    last-test _ c.ends_right.ensures (holds _ _ c.in_ok-held.ensures) c.counts_right.ensures (holds _ _ c.in_ok-held-2.ensures) c.words_right.ensures
    (holds _ _ c.in_ok-held-3.ensures) c.points_right.ensures (holds _ _ c.in_ok-held-4.ensures) c.shapes_differ.ensures (holds _ _ c.in_ok-held-5.ensures)
    c.arrays_small.ensures c.held-6.ensures
