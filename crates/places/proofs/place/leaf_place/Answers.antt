-- `place::leaf_place` meets its contract. Assumes nothing.
use Rattle.places.proofs.place.Laws.{walking}
use Rattle.places.proofs.place.leaf_place.Goals as goal

pub loop-preserved : goal.loop-preserved
loop-preserved c = search walking
