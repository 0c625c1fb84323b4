-- `differ::shapes_differ` meets its contract. Assumes nothing.
use Rattle.shapes.proofs.Keying.{keyed-filled}
use Rattle.shapes.proofs.differ.shapes_differ.Goals as goal

pub all_differ-requires : goal.all_differ-requires
all_differ-requires c = keyed-filled _ c.fill_keys.ensures
