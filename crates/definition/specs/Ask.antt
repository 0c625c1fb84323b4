-- What a type, an initializer or a member list means: a computation that may ask for the default of another type. It knows nothing of order, memory or circles.
use Rattle.std.specs.Prelude.{Option, Some, None, ℕ, suc, ◌+◌, leb}
use Rattle.definition.specs.Base.{choose}
use Rattle.definition.specs.Tree.{Tree, Trees, many, nodes, nodes_in, join, most_nodes}

-- a value, none, or too large (the Rust's `Option`, with refusal 8)
pub data Result (A : Type 0) : Type 0 where
  ok : A → Result A
  none : Result A
  large : Result A

-- what an `Option` of the code stands for
abbrev pub result_of : {A : Type 0} → Option A → Result A
result_of (Some a) = ok a
result_of None = none

abbrev pub Outcome : Type 0
Outcome = Result Tree

pub data Ask (A : Type 0) : Type 0 where
  done : A → Ask A
  ask : ℕ → (Outcome → Ask A) → Ask A

unfoldable pub bind : {A B : Type 0} → Ask A → (A → Ask B) → Ask B
bind (done a) f = f a
bind (ask d k) f = ask d (λ o. bind (k o) f)

-- only a value goes on: the Rust's `?`, and refusal 8 ends the work
abbrev pub on_ok : {A B : Type 0} → (A → Ask (Result B)) → Result A → Ask (Result B)
on_ok f (ok a) = f a
on_ok f none = done none
on_ok f large = done large

infixl 20 ◌>>=◌
unfoldable pub ◌>>=◌ : {A B : Type 0} → Ask (Result A) → (A → Ask (Result B)) → Ask (Result B)
m >>= f = bind m (on_ok f)

unfoldable pub give : {A : Type 0} → A → Ask (Result A)
give a = done (ok a)

unfoldable pub nothing : {A : Type 0} → Ask (Result A)
nothing = done none

-- the default of the type d
unfoldable pub type_default : ℕ → Ask Outcome
type_default d = ask d done

-- refusal 8: a tree with more than 2,048 nodes is too large
unfoldable pub formed : Tree → Ask Outcome
formed t = choose (leb (nodes t) most_nodes) (λ u. done (ok t)) (λ u. done large)

-- values or fields count under a head together with the nodes gathered so far
unfoldable pub gathered : ℕ → Trees → Ask (Result Trees)
gathered size ts = choose (leb (suc (size + nodes_in ts)) most_nodes) (λ u. done (ok ts)) (λ u. done large)

-- some, then more, which know how many there are so far and how many nodes those have
unfoldable pub and_more : ℕ → ℕ → Ask (Result Trees) → (ℕ → ℕ → Ask (Result Trees)) → Ask (Result Trees)
and_more made size some more = some >>= λ ts. more (made + many ts) (size + nodes_in ts) >>= λ us. give (join ts us)

-- what this file computes with
unfoldable pub opened : Unit {0}
unfolding bind ◌>>=◌ give nothing type_default formed gathered and_more
opened = tt
