-- `every::resolve_types` meets its contract. Assumes nothing.
use Rattle.driver.proofs.Tabling.{parts-given}
use Rattle.driver.proofs.every.resolve_types.Goals as goal

pub resolve_all-requires : goal.resolve_all-requires
resolve_all-requires c = let s = c.split_at_mut-classes.ensures in parts-given s.front s.front_len c.requires s.back_len
