-- Shape classes, one after another. Assumes nothing.
use mathlib.Core.Path.{◌≡◌, sym, ◌∙◌}
use mathlib.Core.Bool.{Bool, false}
use mathlib.Core.List.{List, ◌++◌}
use Prim.Native.Nat.{ℕ, ◌≤◌, ◌<◌}
use native.Mathlib.Omega.{arith}
use lib.ListN.{take, drop}
use borrow.Author.Rules.{rules}
use Rattle.definition.specs.Layout.{shapes, count}
use Rattle.definition.specs.Accept.{same_shape}
use Rattle.laws.specs.Accepted.{Accepted}
use Rattle.shapes.specs.Alike.{same_in, first_like}
use Rattle.records.specs.Tables.{table_of, Filled, table_at}
use Rattle.shapes.specs.Classes.{shape_class, classes_of, Classes, next-class, by-class}
use Rattle.records.proofs.Filling.{none_filled, filled-part}

module _ (f : List ℕ) {n : ℕ} {lent words : List ℕ} (i : Filled (shape_class f) n lent words) where
  pub class-next : Accepted f → n < count f shapes → {r : ℕ} → r ≡ first_like f (take n words) false n → r ≡ shape_class f n
  class-next a h e = e ∙ rw (filled-part i) (next-class f a (table_of (shape_class f) n) n h (λ k l. table_at (shape_class f) n k k l))

  pub classes-filled : {m : ℕ} → m ≡ count f shapes → n ≤ m → m ≤ n → words ≡ classes_of f ++ drop (count f shapes) lent
  unfolding classes_of
  classes-filled q h l = let e : count f shapes ≡ n = omega arith in rw e i.is

pub same_by : {f classes : List ℕ} → Accepted f → Classes f classes → (m n : ℕ) → m < count f shapes → n < count f shapes → {r : Bool} → r ≡ same_in classes m n
    → r ≡ same_shape f m n
same_by {f} a c m n h l e = e ∙ sym (by-class f a c m n h l)

pub ruleset filling = (rules, none_filled, classes-filled)

pub ruleset classing = (rules, same_by)
