-- Parts of the definition's rules that the code has functions for.
use Rattle.std.specs.Prelude.{Bool, true, false, ◌&&◌, List, [], ◌∷◌, ℕ, get_or}
use Rattle.definition.specs.Layout.{shapes, types, initializers, word}
use Rattle.definition.specs.Accept.{number_in, link_in, declaration_points, value_points, plain_rules, point_rules}

-- the kinds of entries that stand in arrays
unfoldable pub array_kind : ℕ → Bool
array_kind kind = get_or (true ∷ true ∷ false ∷ true ∷ true ∷ false ∷ true ∷ []) kind false

-- the parts of a type's and an initializer's rule
unfoldable pub type_links : List ℕ → ℕ → Bool
type_links f t =
    number_in f shapes (word f types t 0) && link_in f types (word f types t 1) && link_in f types (word f types t 2) && link_in f types (word f types t 3)

unfoldable pub type_declared : List ℕ → ℕ → Bool
type_declared f t = declaration_points f (word f types t 4) (word f types t 5) (word f types t 6) (word f types t 7) (word f types t 8)

unfoldable pub initializer_value : List ℕ → ℕ → Bool
initializer_value f i = value_points f (word f initializers i 0) (word f initializers i 3) (word f initializers i 4) (word f initializers i 5)

-- the rule of a record of a section, for refusal 3 and for refusal 4
unfoldable pub plain_rule : List ℕ → ℕ → ℕ → Bool
plain_rule f s = get_or (plain_rules f) s (λ n. false)

unfoldable pub point_rule : List ℕ → ℕ → ℕ → Bool
point_rule f s = get_or (point_rules f) s (λ n. false)
