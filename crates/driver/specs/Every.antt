-- Every type, in rising number: what the sheet writer remembers. Where uses rise there is no other order to keep.
use Rattle.std.specs.Prelude.{List, ℕ, zero, suc}
use Rattle.definition.specs.Layout.{count, types}
use Rattle.definition.specs.Resolve.{Memo, empty}
use Rattle.driver.specs.Driver.{After}
use Rattle.driver.specs.Asked.{asked}
use Rattle.std.specs.Prelude.{Option}

-- after the first so many types
unfoldable pub every_memo : List ℕ → ℕ → Memo
every_memo f zero = empty (count f types)
every_memo f (suc t) = asked f (every_memo f t) t

pub record ResolvesAll (f : List ℕ) (r : Option ℕ) (index store : List ℕ) : Type 0 where
  pub after : After f r index store (every_memo f (count f types))
