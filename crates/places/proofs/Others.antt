-- The shapes that the last arm of a `match` leaves to place.rt, field.rt, values.rt and expressions.rt, told by their tags. Assumes nothing.
use mathlib.Core.Path.{◌≡◌, refl}
use mathlib.Core.Bool.{false}
use mathlib.Core.List.{List, [], ◌∷◌}
use Prim.Native.Nat.{ℕ}
use types.Run.{OneOf, miss}
use denote.Enum.Declared.{tag_of}
use Rattle.definition.specs.contracts.records.Shape.{the_type}
use Rattle.definition.specs.declared.records.Shape.{Shape}
use Rattle.definition.specs.declared.records.Shape.TheVariants as shape
use Rattle.definition.specs.Shapes.{on_shape, on_enumeration, on_array, is_reference}
use Rattle.places.specs.Shapes.{on-kind}

-- every shape but the structure and the function block
abbrev fieldless : List ℕ
fieldless = 0 ∷ 1 ∷ 2 ∷ 3 ∷ 4 ∷ 5 ∷ 6 ∷ 7 ∷ 8 ∷ 9 ∷ 10 ∷ 12 ∷ 13 ∷ 15 ∷ 16 ∷ 17 ∷ []

-- but the enumeration
abbrev pub memberless : List ℕ
memberless = 0 ∷ 1 ∷ 2 ∷ 3 ∷ 4 ∷ 5 ∷ 6 ∷ 7 ∷ 8 ∷ 9 ∷ 11 ∷ 12 ∷ 13 ∷ 14 ∷ 15 ∷ 16 ∷ 17 ∷ []

-- but the reference
abbrev targetless : List ℕ
targetless = 0 ∷ 1 ∷ 2 ∷ 3 ∷ 4 ∷ 5 ∷ 6 ∷ 7 ∷ 8 ∷ 9 ∷ 10 ∷ 11 ∷ 12 ∷ 13 ∷ 14 ∷ 15 ∷ 17 ∷ []

-- one of the kinds of a list
abbrev pub Among : List ℕ → Shape → Type 0
Among kinds s = OneOf kinds (tag_of the_type s)

abbrev pub NoArray : Shape → Type 0
NoArray s = (element first count : ℕ) → s ≡ shape.Array element first count → ⊥

abbrev pub NoFields : Shape → Type 0
NoFields s = Among fieldless s

abbrev pub NoMembers : Shape → Type 0
NoMembers s = Among memberless s

abbrev pub NoTarget : Shape → Type 0
NoTarget s = Among targetless s

module _ {X : Type 0} (x : X) (s : Shape) where
  pub no-array : (array : ℕ → ℕ → ℕ → X) → NoArray s → x ≡ on_array s x array
  no-array array h =
      on-kind (λ y. x ≡ y) s _ _ _ _ _ _ _ (λ a b. refl) (λ a b c d e. refl) (λ a b e. refl)
      (λ n a b e. absurd (h n a b e)) (λ n e. refl) (λ n e. refl) refl

  pub no_fields : (structure : ℕ → ℕ → X) (block : Unit {0} → X) → NoFields s
      → x ≡ on_shape s (λ a b. x) (λ a b. x) structure (λ e a b. x) block (λ u. x) (λ u. x)
  no_fields structure block h =
      on-kind (λ y. x ≡ y) s _ _ _ _ _ _ _ (λ a b. refl) (λ a b c d e. refl) (λ a b e. absurd (miss fieldless 11 tt (rw e at h)))
      (λ n a b e. refl) (λ n e. absurd (miss fieldless 14 tt (rw e at h))) (λ n e. refl) refl

  pub no-members : (enumeration : ℕ → ℕ → X) → NoMembers s → x ≡ on_enumeration s x enumeration
  no-members enumeration h =
      on-kind (λ y. x ≡ y) s _ _ _ _ _ _ _ (λ a b. refl) (λ a b c d e. absurd (miss memberless 10 tt (rw e at h))) (λ a b e. refl)
      (λ n a b e. refl) (λ n e. refl) (λ n e. refl) refl

pub no_target : (s : Shape) → NoTarget s → is_reference s ≡ false
no_target s h =
    on-kind (λ y. y ≡ false) s _ _ _ _ _ _ _ (λ a b. refl) (λ a b c d e. refl) (λ a b e. refl)
    (λ n a b e. refl) (λ n e. refl) (λ n e. absurd (miss targetless 16 tt (rw e at h))) refl
