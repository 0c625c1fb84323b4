-- Declaration files for examples, put together section by section.
use Rattle.std.specs.Prelude.{List, [], ◌∷◌, ◌++◌, ℕ, length}
use Rattle.definition.specs.Base.{inline}

abbrev pub Records : Type 0
Records = List (List ℕ)

-- one list behind the other
unfoldable pub join_all : Records → List ℕ
join_all [] = []
join_all (r ∷ rs) = r ++ join_all rs

-- a section after its count
unfoldable pub section : Records → List ℕ
section rs = length rs ∷ join_all rs

unfoldable pub sections : List Records → List ℕ
sections [] = []
sections (s ∷ ss) = section s ++ sections ss

-- the fourteen sections; of Settings only the default string length
unfoldable pub file : ℕ → Records → Records → Records → Records → Records → Records → Records → Records → Records → List ℕ
file length shapes dimensions types variables initializers entries expressions constants characters =
    sections (
    ((length ∷ []) ∷ []) ∷ shapes ∷ [] ∷ [] ∷ dimensions ∷ types ∷ [] ∷ [] ∷ variables ∷ initializers ∷ entries ∷ expressions ∷ constants ∷ characters ∷ [])

-- ---- records
unfoldable pub bool : List ℕ
bool = 0 ∷ 0 ∷ 0 ∷ 0 ∷ 0 ∷ []

unfoldable pub int : ℕ → List ℕ
int bits = 1 ∷ bits ∷ 0 ∷ 0 ∷ 0 ∷ []

-- a type of a shape that nothing declares; its element type as a link
unfoldable pub type : ℕ → ℕ → List ℕ
type shape element = shape ∷ 0 ∷ element ∷ 0 ∷ 0 ∷ 0 ∷ 0 ∷ 0 ∷ 0 ∷ inline ∷ 0 ∷ []

-- an internal variable of type t with initializer 0
unfoldable pub variable : ℕ → List ℕ
variable t = 1 ∷ 4 ∷ t ∷ 0 ∷ []

-- an initializer of a kind that names a type, with nothing else
unfoldable pub naming : ℕ → ℕ → List ℕ
naming kind named = kind ∷ named ∷ 0 ∷ 0 ∷ 0 ∷ 0 ∷ 0 ∷ 0 ∷ []

unfoldable pub integer : ℕ → ℕ → List ℕ
integer sign size = 1 ∷ sign ∷ size ∷ 0 ∷ 0 ∷ []

-- a subrange 1..9 of the type that the link names, with start value 5; and a simple alias of the type that the link names
unfoldable pub subrange_of : ℕ → List ℕ
subrange_of base = 1 ∷ 0 ∷ 0 ∷ 0 ∷ 2 ∷ base ∷ 3 ∷ 0 ∷ 0 ∷ inline ∷ 0 ∷ []

unfoldable pub alias_of : ℕ → List ℕ
alias_of base = 1 ∷ base ∷ 0 ∷ 0 ∷ 1 ∷ 0 ∷ 1 ∷ 0 ∷ 0 ∷ inline ∷ 0 ∷ []

-- ---- files of document 01's examples
-- one Bool type and one plain Simple variable
unfoldable pub plain : List ℕ
plain = file 254 (bool ∷ []) [] (type 0 0 ∷ []) (variable 1 ∷ []) (naming 3 1 ∷ []) [] [] [] []

-- a subrange and an alias among the types
unfoldable pub subrange_and_alias : Records → ℕ → List ℕ
subrange_and_alias types base =
    file 254 (int 16 ∷ (13 ∷ 0 ∷ 0 ∷ 1 ∷ 0 ∷ []) ∷ []) [] types [] (naming 3 base ∷ []) [] [] (integer 0 1 ∷ integer 0 9 ∷ integer 0 5 ∷ []) []

-- type 0 a subrange 1..9 named type 1 with start value 5, type 1 a simple alias of 0: their uses run in a circle
unfoldable pub circle : List ℕ
circle = subrange_and_alias (subrange_of 2 ∷ alias_of 1 ∷ []) 1

-- INT and an array 1..places of INT, with variables and initializers
unfoldable pub array_of : ℕ → Records → Records → List ℕ
array_of places variables initializers =
    file 254 (int 16 ∷ (12 ∷ 0 ∷ 0 ∷ 1 ∷ 0 ∷ []) ∷ []) ((1 ∷ places ∷ []) ∷ []) (type 0 0 ∷ type 1 1 ∷ []) variables initializers [] [] [] []

-- what this file computes with
unfoldable pub opened : Unit {0}
unfolding join_all section sections file bool int type variable naming integer subrange_of alias_of plain subrange_and_alias circle array_of
opened = tt
