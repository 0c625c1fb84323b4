-- A table answers asks too: all of them, or as far as it knows the types that are asked for.
use Rattle.std.specs.Prelude.{ℕ}
use Rattle.definition.specs.Ask.{Outcome, Ask, done, ask}
use Rattle.definition.specs.Resolve.{Memo, at, on_look}

-- every ask answered by a table: how a sheet's line is checked from the other type lines
unfoldable pub look : {A : Type 0} → (ℕ → Outcome) → Ask A → A
look L (done a) = a
look L (ask d k) = look L (k (L d))

-- by what is remembered alone: the result, or the first type that is wanted
pub data Peek (A : Type 0) : Type 0 where
  got : A → Peek A
  wants : ℕ → Peek A

unfoldable pub peek : {A : Type 0} → Memo → Ask A → Peek A
peek M (done a) = got a
peek M (ask d k) = on_look (at M d) (λ o. peek M (k o)) (λ u. wants d)

-- what this file computes with
unfoldable pub opened : Unit {0}
unfolding look peek
opened = tt
