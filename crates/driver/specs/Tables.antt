-- The tables that the driver is lent: shape classes, which stay, and behind them the index of remembered types.
use Rattle.std.specs.Prelude.{◌≡◌, List, ℕ, length, take}
use Rattle.build.specs.Built.{index_at}

-- the classes stay
pub record Front (old new : List ℕ) : Type 0 where
  pub front : take index_at new ≡ take index_at old
  pub long : length new ≡ length old
