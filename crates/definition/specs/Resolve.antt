-- How the Rust answers what is asked (`type_default`, `TypeDefaults::of`): a type's default is worked out once and remembered; one met again while in progress gives none.
use Rattle.std.specs.Prelude.{List, [], ◌∷◌, ◌++◌, ℕ, zero, suc, eqb, get_or, set, replicate}
use Rattle.definition.specs.Base.{pick}
use Rattle.definition.specs.Layout.{count, types}
use Rattle.definition.specs.Records.{declaration_kind}
use Rattle.definition.specs.Ask.{none, Outcome, Ask, done, ask, type_default}
use Rattle.definition.specs.Defaults.{Leaves, body, declaration}

-- what is remembered of a type. One in progress is remembered as none, until its outcome is put over it.
pub data Look : Type 0 where
  known : Outcome → Look
  unknown : Look

abbrev pub on_look : {X : Type 0} → Look → (Outcome → X) → (Unit {0} → X) → X
on_look (known o) f u = f o
on_look unknown f u = u tt

abbrev pub Memo : Type 0
Memo = List Look

-- a number that is no type's is known to have none
unfoldable pub at : Memo → ℕ → Look
at M d = get_or M d (known none)

unfoldable pub put : Memo → ℕ → Outcome → Memo
put M d o = set M d (known o)

unfoldable pub empty : ℕ → Memo
empty n = replicate n unknown

pub record Ran (A : Type 0) : Type 0 where
  pub memo : Memo
  pub value : A

abbrev pub Resolver : Type 0
Resolver = Memo → ℕ → Ran Outcome

-- a computation's asks, answered in turn
unfoldable pub run : {A : Type 0} → Resolver → Memo → Ask A → Ran A
run res M (done a) = record { memo = M; value = a }
run res M (ask d k) = on_look (at M d) (λ o. run res M (k o)) (λ u. let r = res M d in run res r.memo (k r.value))

-- the type d, where each type of `bodies` is worked out: at most as many are in progress at once as there are types
unfoldable pub resolve : (ℕ → Ask Outcome) → ℕ → Resolver
resolve bodies zero M d = record { memo = put M d none; value = none }
resolve bodies (suc n) M d =
    let r = run (resolve bodies n) (put M d none) (bodies d) in
    record { memo = put r.memo d r.value; value = r.value }

unfoldable pub asking : List ℕ → Ask (Unit {0})
asking [] = done tt
asking (d ∷ l) = ask d (λ o. asking l)

-- declared types are resolved first, in rising number
unfoldable pub resolve_all : (ℕ → Ask Outcome) → ℕ → List ℕ → Memo
resolve_all bodies n declared = (run (resolve bodies n) (empty n) (asking declared)).memo

unfoldable pub declared_below : List ℕ → ℕ → List ℕ
declared_below f zero = []
declared_below f (suc t) = declared_below f t ++ pick (eqb (declaration_kind f t) 0) [] (t ∷ [])

-- ---- in a file, where the leaves are decided so
module _ (leaves : Leaves) where
  -- what is remembered then, and what a computation gives after that
  unfoldable pub remembered : List ℕ → Memo
  remembered f = resolve_all (body leaves f) (count f types) (declared_below f (count f types))

  unfoldable pub answer : {A : Type 0} → List ℕ → Ask A → A
  answer f m = (run (resolve (body leaves f) (count f types)) (remembered f) m).value

  unfoldable pub type_outcome : List ℕ → ℕ → Outcome
  type_outcome f t = answer f (type_default t)

  unfoldable pub variable_outcome : List ℕ → ℕ → Outcome
  variable_outcome f v = answer f (declaration leaves f v)

-- what this file computes with
unfoldable pub opened : Unit {0}
unfolding at put empty run resolve asking resolve_all declared_below remembered answer type_outcome variable_outcome
opened = tt
