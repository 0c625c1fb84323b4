-- Membership in a list of names, and an enumerated value that takes it as its type's members (`is_member` and `enumerated_value` of the definition read them in the Members section). Assumes nothing.
use Rattle.std.specs.Prelude.{◌≡◌, refl, Bool, false, ◌||◌, List, ℕ, zero, suc, ◌+◌, ◌<◌, eqb, length, get_or}
use Rattle.std.proofs.Common.{lt-suc_self, le_trans}
use Rattle.std.proofs.Math.Nat.{le-suc}
use Rattle.definition.specs.declared.records.Shape.TheVariants as shape
use Rattle.definition.specs.Base.{pick}
use Rattle.definition.specs.Layout.{word, members}
use Rattle.definition.specs.Tree.{enumerated_tree}
use Rattle.definition.specs.Ask.{Outcome, ok, none}
use Rattle.definition.specs.Scalar.{is_member, enumerated_value}

-- whether a name is among the first so many
unfoldable pub among : List ℕ → ℕ → ℕ → Bool
among names zero value = false
among names (suc k) value = among names k value || eqb (get_or names k 0) value

unfoldable pub is_named : List ℕ → ℕ → Bool
is_named names value = among names (length names) value

unfoldable pub enumerated_by : List ℕ → ℕ → ℕ → Outcome
enumerated_by names value qualifier = pick (is_named names value) (ok (enumerated_tree value qualifier)) none

-- ---- a run of the Members section
pub record Run (f : List ℕ) (first count : ℕ) (names : List ℕ) : Type 0 where
  pub long : length names ≡ count
  pub names_are : (k : ℕ) → k < count → get_or names k 0 ≡ word f members (first + k) 0

among-is : (f : List ℕ) (first : ℕ) (names : List ℕ) (value count : ℕ) → ((k : ℕ) → k < count → get_or names k 0 ≡ word f members (first + k) 0) → among names count value ≡ is_member f first count value
unfolding among is_member
among-is f first names value zero h = refl
among-is f first names value (suc k) h = rw (among-is f first names value k (λ i l. h i (le_trans l (le-suc k))), h k (lt-suc_self k))

pub is-named-is : (f : List ℕ) (first count : ℕ) (names : List ℕ) (value : ℕ) → Run f first count names → is_named names value ≡ is_member f first count value
unfolding is_named
is-named-is f first count names value r = rw r.long (among-is f first names value count r.names_are)

pub enumerated-is : (f : List ℕ) (first count default underlying : ℕ) (names : List ℕ) (value qualifier : ℕ) → Run f first count names
    → enumerated_by names value qualifier ≡ enumerated_value f (shape.Enumeration first count default underlying) value qualifier
unfolding enumerated_by enumerated_value
enumerated-is f first count default underlying names value qualifier r = rw (is-named-is f first count names value r)
