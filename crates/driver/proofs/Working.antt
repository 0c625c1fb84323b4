-- The work words have room for every type and every variable. Assumes nothing.
use mathlib.Core.List.{List}
use Prim.Native.Nat.{ℕ, ◌+◌, ◌*◌, ◌≤◌, ◌<◌}
use native.Mathlib.Omega.{arith}
use borrow.Author.Rules.{rules}
use Rattle.definition.specs.Layout.{count, types, variables}
use Rattle.definition.specs.Tree.{tree_words}
use Rattle.definition.specs.Answers.{room_words}
use Rattle.laws.specs.Accepted.{Accepted}
use Rattle.initial.specs.Rooms.{body_levels, variable_levels}
use Rattle.declared.proofs.Roomy.{roomy, body-room, declaration-room}

module _ {f : List ℕ} (a : Accepted f) (n : ℕ) (h : room_words f ≤ n) where
  pub type-room : (t : ℕ) → t < count f types → 0 + body_levels f t * tree_words ≤ n
  unfolding room_words
  type-room t l = omega (arith, body-room f a (roomy f) t l)

  pub variable-room : (v : ℕ) → v < count f variables → 0 + variable_levels f v * tree_words ≤ n
  unfolding room_words
  variable-room v l = omega (arith, declaration-room f a (roomy f) v l)

pub ruleset laws = (rules, type-room, variable-room)
