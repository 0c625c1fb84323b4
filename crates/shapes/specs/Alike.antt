-- Comparing shapes where those inside are compared by a number that stands for each, and the lowest shape that is like another.
use Rattle.std.specs.Prelude.{◌≡◌, ◌+◌, Bool, true, false, not, ◌&&◌, ◌||◌, List, [], ◌∷◌, ℕ, zero, suc, eqb, ltb, get_or}
use Rattle.definition.specs.Base.{pick}
use Rattle.definition.specs.Layout.{shapes, word}
use Rattle.definition.specs.Records.{shape_of}
use Rattle.definition.specs.Accept.{same_member, same_dimension, listed, like_by, shapes_like}

-- the number that stands for a shape: in the list, or its own past the list
abbrev pub class_in : List ℕ → ℕ → ℕ
class_in classes n = get_or classes n n

abbrev pub same_in : List ℕ → ℕ → ℕ → Bool
same_in classes m n = eqb (class_in classes m) (class_in classes n)

-- two runs list the same, where answers for a pair of their records say so, whatever the comparison is that they give
pub record ListedBy (answers : ℕ → ℕ → ℕ → Bool → Type 0) (a m b n : ℕ) (r : Bool) : Type 0 where
  pub is : (same : ℕ → ℕ → Bool) → ((j : ℕ) (x : Bool) → answers a b j x → x ≡ same (a + j) (b + j)) → r ≡ listed same a m b n

-- shapes m and n, where both have one kind
unfoldable pub like_at : List ℕ → List ℕ → Bool → ℕ → ℕ → ℕ → Bool
like_at f classes enumerated kind m n =
    like_by f (same_in classes) enumerated (shape_of kind (word f shapes m 1) (word f shapes m 2) (word f shapes m 3) (word f shapes m 4))
    (word f shapes n 1) (word f shapes n 2) (word f shapes n 3) (word f shapes n 4)

-- shapes m and n of one kind, where their own words say all: bits, length and width, or a name
unfoldable pub words_like : List ℕ → ℕ → ℕ → ℕ → Bool
words_like f kind m n =
    let first : Bool = eqb (word f shapes m 1) (word f shapes n 1) in
    get_or (true ∷ first ∷ first ∷ first ∷ first ∷ first ∷ first ∷ first ∷ first ∷ (first && eqb (word f shapes m 2) (word f shapes n 2)) ∷ []) kind first

-- kinds whose shapes are told apart by their first word: bits, a string's length or a name
unfoldable pub told_by_first : ℕ → Bool
told_by_first kind =
    get_or (false ∷ true ∷ true ∷ true ∷ true ∷ true ∷ true ∷ true ∷ true ∷ true ∷ false ∷ false ∷ false ∷ false ∷ true ∷ true ∷ []) kind false

-- whether members and default are the same, where they count
unfoldable pub members_like : List ℕ → List ℕ → Bool → ℕ → ℕ → Bool
members_like f classes enumerated m n =
    not enumerated
    || (listed (same_member f) (word f shapes m 1) (word f shapes m 2) (word f shapes n 1) (word f shapes n 2)
    && eqb (word f shapes m 3) (word f shapes n 3))

unfoldable pub array_like : List ℕ → List ℕ → ℕ → ℕ → Bool
array_like f classes m n =
    same_in classes (word f shapes m 1) (word f shapes n 1)
    && listed (same_dimension f) (word f shapes m 2) (word f shapes m 3) (word f shapes n 2) (word f shapes n 3)

-- the lowest number below n that meets a test, or n
unfoldable pub lowest : (ℕ → Bool) → ℕ → ℕ
lowest p zero = 0
lowest p (suc n) = pick (ltb (lowest p n) n) (lowest p n) (pick (p n) n (suc n))

-- the lowest shape below n that is like it, or n
unfoldable pub first_like : List ℕ → List ℕ → Bool → ℕ → ℕ
first_like f classes enumerated n = lowest (λ m. shapes_like f (same_in classes) enumerated m n) n
