-- `alike::same_runs` meets its contract. Assumes nothing.
use Rattle.shapes.proofs.Comparing.{listed-at}
use Rattle.shapes.proofs.alike.same_runs.Goals as goal

pub returns : goal.returns
returns g c = listed-at c.word-a.ensures c.word-many.ensures c.word-b.ensures c.word-others.ensures c.same_run.ensures
