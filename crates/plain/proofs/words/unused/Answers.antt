-- `words::unused` meets its contract. Assumes nothing.
use mathlib.Core.Path.{◌≡◌, refl, ◌∙◌}
use mathlib.Core.List.{List, [], ◌∷◌}
use Prim.Native.Nat.{ℕ}
use lib.Dec.{eqb}
use borrow.Author.Rules.{rules}
use Rattle.std.specs.List.{list_all}
use Rattle.std.proofs.lemmas.Iterator.{YieldsList-from_slice}
use Rattle.std.proofs.lemmas.Iterator.Search.{all_from_yields_List}
use Rattle.definition.specs.Base.{unused}
use Rattle.plain.proofs.words.unused.Goals as goal

all-zero : (l : List ℕ) → list_all (λ w. eqb w 0) l ≡ unused l
unfolding unused
all-zero [] = refl
all-zero (w ∷ l) = rw (all-zero l) refl

tested : (l : List ℕ) {r : _} → r ≡ list_all (λ w. eqb w 0) l → r ≡ unused l
tested l e = e ∙ all-zero l

pub returns : goal.returns
returns c = tested _ (all_from_yields_List (λ w. eqb w 0) _ _ _ c.all.ensures.ran (YieldsList-from_slice c.args.words.now cc) (λ x b q k. search rules))
