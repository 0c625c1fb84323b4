-- Answers for one computation as answers for another. Assumes nothing.
use mathlib.Core.Path.{◌≡◌, refl, ap}
use mathlib.Core.List.{List}
use Prim.Native.Nat.{ℕ, ◌+◌, ◌≤◌}
use lib.ListN.{length}
use Rattle.definition.specs.declared.records.Constant.{Constant}
use Rattle.definition.specs.declared.records.Place.{Place}
use Rattle.definition.specs.Scalar.{as_tree}
use Rattle.definition.specs.Tree.{flatten}
use Rattle.definition.specs.Ask.{Result, ok, none, Outcome, Ask, done, result_of, bind, ◌>>=◌, nothing}
use Rattle.laws.specs.Steps.{peek-done, peek-nothing}
use Rattle.std.specs.Prelude.{Err, Option}
use Rattle.build.specs.declared.built.Unbuilt.TheVariants as unbuilt
use Rattle.build.specs.Built.{Built, Builds}
use Rattle.build.specs.Leaves.{PutsLeaf}
use Rattle.initial.specs.Stated.{Lays}

-- a value without parts
pub leaf-builds : {f index store : List ℕ} {at : ℕ} {old : List ℕ} {r : Built} {new : List ℕ} {v : Option Constant} (m : Ask Outcome) → m ≡ done (as_tree (result_of v)) → at + 6 ≤ length old → PutsLeaf v at old r new
    → Builds f index store flatten m at old r new
leaf-builds {v = v} m e h x = record { gives = λ M y. rw (e, peek-done M (as_tree (result_of v))) (x.gives h); kept = x.kept }

-- what no memo is needed for
pub laid : {f index store : List ℕ} {at : ℕ} {old : List ℕ} {r : Built} {new : List ℕ} (m n : Ask Outcome) → n ≡ m → Lays m at old r new → Builds f index store flatten n at old r new
laid m n e h = record { gives = λ M x. rw e (h.gives M); kept = h.kept }

pub no_value_lem : {f index store : List ℕ} {at : ℕ} {old : List ℕ} (m : Ask Outcome) → m ≡ nothing → Builds f index store flatten m at old (Err unbuilt.None) old
no_value_lem m e = record { gives = λ M x. rw (e, peek-nothing M) (record { says = refl; stands = tt }); kept = refl }

-- a place that is found, or not
pub at-found : (g : Place → Ask Outcome) (x : Result Place) {p : Place} → x ≡ ok p → done x >>= g ≡ g p
unfolding ◌>>=◌ bind
at-found g x e = ap (λ (y : Result Place). done y >>= g) e

pub at_none : (g : Place → Ask Outcome) (x : Result Place) → x ≡ none → done x >>= g ≡ nothing
unfolding ◌>>=◌ bind nothing
at_none g x e = ap (λ (y : Result Place). done y >>= g) e
