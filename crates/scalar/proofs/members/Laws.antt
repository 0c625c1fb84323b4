-- A name among others, for `among` by its last: a law for each return of members.rt. Assumes nothing.
use mathlib.Core.Path.{◌≡◌, refl, ◌∙◌}
use mathlib.Core.Bool.{Bool, true, false, ◌||◌}
use mathlib.Core.List.{List}
use Prim.Native.Nat.{ℕ, zero, suc, ◌≤◌, ◌<◌}
use native.Mathlib.Numerals.{add-one}
use native.Mathlib.Omega.{arith}
use borrow.Author.Rules.{rules}
use borrow.Author.Tests.{eq-eqb, eqb-true, eqb-false}
use lib.Dec.{eqb}
use lib.ListN.{length, get_or, take}
use lib.Seq.{take_all}
use Rattle.std.specs.List.{list_any}
use Rattle.std.proofs.lemmas.List.Folds.{list_any_more}
use Rattle.definition.specs.declared.records.Constant.{Constant}
use Rattle.definition.specs.Tree.{constant_tree, enumerated_tree}
use Rattle.std.specs.Prelude.{Option}
use Rattle.std.specs.Bool.{then_some}
use Rattle.definition.specs.Base.{pick}
use Rattle.definition.specs.Ask.{ok, none, result_of}
use Rattle.definition.specs.Scalar.{as_tree}
use Rattle.scalar.specs.Members.{among, is_named, enumerated_by}

-- the first so many names, one after the other
among-taken : (names : List ℕ) (value k : ℕ) → k ≤ length names → list_any (λ y. eqb y value) (take k names) ≡ among names k value
unfolding among
among-taken names value zero h = refl
among-taken names value (suc k) h =
    rw (← add-one, list_any_more (λ y. eqb y value) names k 0 (omega arith), among-taken names value k (omega arith))

pub any-named : (names : List ℕ) (value : ℕ) {r : Bool} → r ≡ list_any (λ y. eqb y value) names → r ≡ is_named names value
unfolding is_named
any-named names value e = e ∙ (rw (take_all (length names) names (omega arith)) at (among-taken names value (length names) (omega arith)))

-- a value at a place among the names
or-true : (b : Bool) → true ≡ b || true
or-true true = refl
or-true false = refl

named-below : (names : List ℕ) (value k n : ℕ) → k < n → get_or names k 0 ≡ value → true ≡ among names n value
unfolding among
named-below names value k zero h e = absurd (omega arith)
named-below names value k (suc n) h e = go (eqb k n) refl (λ l. named-below names value k n l e)
  where
    go : (b : Bool) → eqb k n ≡ b → (k < n → true ≡ among names n value) → true ≡ among names n value || eqb (get_or names n 0) value
    go true q i = rw (← eqb-true k n q, eq-eqb _ _ e) (or-true (among names k value))
    go false q i = rw (← i (omega (arith, eqb-false k n q)))

pub found : (names : List ℕ) (value k : ℕ) → k < length names → get_or names k 0 ≡ value → true ≡ is_named names value
unfolding is_named
found names value k h e = named-below names value k (length names) h e

pub member-kept : (names : List ℕ) (value qualifier : ℕ) {b : Bool} → b ≡ list_any (λ y. eqb y value) names → (c : Constant) → constant_tree c ≡ enumerated_tree value qualifier
    → {r : Option Constant} → r ≡ then_some b c → as_tree (result_of r) ≡ enumerated_by names value qualifier
unfolding enumerated_by as_tree
member-kept names value qualifier {b} e c h k = rw (k, ← any-named names value e) (go b)
  where
    go : (b : Bool) → as_tree (result_of (then_some b c)) ≡ pick b (ok (enumerated_tree value qualifier)) none
    go true = rw h
    go false = refl

pub ruleset laws = (rules, member-kept)
