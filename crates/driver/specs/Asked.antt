-- Types that are asked for: resolved where they are unknown. All types, or all declared types, in rising number.
use Rattle.std.specs.Prelude.{◌≡◌, Bool, not, List, ℕ, zero, suc, ◌≤◌, eqb}
use Rattle.definition.specs.Base.{pick}
use Rattle.definition.specs.Layout.{count, types}
use Rattle.definition.specs.Records.{declaration_kind}
use Rattle.definition.specs.Resolve.{Memo, at, on_look, empty, asking, declared_below}
use Rattle.definition.specs.Starting.{remembered}
use Rattle.driver.specs.Driver.{Holding, Held, ran, resolved, After}
use Rattle.std.specs.Prelude.{Option}

unfoldable pub asked : List ℕ → Memo → ℕ → Memo
asked f M t = on_look (at M t) (λ o. M) (λ u. resolved f M t)

-- a type that isn't asked for is left
unfoldable pub asked_one : List ℕ → (ℕ → Bool) → Memo → ℕ → Memo
asked_one f asks M t = pick (asks t) (asked f M t) M

-- after the first so many types
unfoldable pub each_memo : List ℕ → (ℕ → Bool) → ℕ → Memo
each_memo f asks zero = empty (count f types)
each_memo f asks (suc t) = asked_one f asks (each_memo f asks t) t

abbrev pub is_declared : List ℕ → ℕ → Bool
is_declared f t = not (eqb (declaration_kind f t) 0)

-- after the declared ones of the first so many types
unfoldable pub declared_memo : List ℕ → ℕ → Memo
declared_memo f t = (ran f (empty (count f types)) (asking (declared_below f t))).memo

pub record Recalls (f : List ℕ) (t : ℕ) (index store : List ℕ) (end : ℕ) (r : Option ℕ) (index' store' : List ℕ) : Type 0 where
  pub gives : (M : Memo) → Holding f index store end M → After f r index' store' (asked f M t)

-- answers for a type say whether it is asked for
abbrev pub Tell : (ℕ → Bool → Type 0) → (ℕ → Bool) → Type 0
Tell answers asks = (t : ℕ) (b : Bool) → answers t b → b ≡ asks t

-- the types before t are resolved that are asked for, whatever the answers tell
pub record Asking (f : List ℕ) (answers : ℕ → Bool → Type 0) (index store : List ℕ) (end t : ℕ) : Type 0 where
  pub held : Held f index store end
  pub holding : (asks : ℕ → Bool) → Tell answers asks → Holding f index store end (each_memo f asks t)
  pub most : t ≤ count f types

pub record AsksEach (f : List ℕ) (answers : ℕ → Bool → Type 0) (r : Option ℕ) (index store : List ℕ) : Type 0 where
  pub after : (asks : ℕ → Bool) → Tell answers asks → After f r index store (each_memo f asks (count f types))

pub record Declares (f : List ℕ) (r : Option ℕ) (index store : List ℕ) : Type 0 where
  pub after : After f r index store (remembered f)
