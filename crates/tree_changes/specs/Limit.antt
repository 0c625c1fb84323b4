-- Values that are gathered under a head, in so many places: the definition's `added` and `copied`, of counts alone (proofs/Limits.antt says that they are the same).
use Rattle.std.specs.Prelude.{ℕ, zero, suc, ◌+◌, leb, Result, Ok, Err}
use Rattle.definition.specs.Base.{pick}
use Rattle.definition.specs.Tree.{most_nodes}
use Rattle.tree_changes.specs.declared.limit.Misfit.{Misfit}
use Rattle.tree_changes.specs.declared.limit.Misfit.TheVariants.{TooMany, TooLarge}

-- that values fit, or why not
abbrev pub Added : Type 0
Added = Result (Unit {0}) Misfit

unfoldable pub added_of : ℕ → ℕ → ℕ → ℕ → ℕ → Added
added_of places made size values nodes = pick (leb (suc (size + nodes)) most_nodes) (pick (leb (made + values) places) (Ok tt) (Err TooMany)) (Err TooLarge)

-- only what fits goes on
abbrev pub on_fits : Added → Added → Added
on_fits (Ok u) next = next
on_fits (Err m) next = Err m

unfoldable pub copied_of : ℕ → ℕ → ℕ → ℕ → ℕ → ℕ → Added
copied_of zero places made size values nodes = Ok tt
copied_of (suc k) places made size values nodes = on_fits (added_of places made size values nodes) (copied_of k places (made + values) (size + nodes) values nodes)
