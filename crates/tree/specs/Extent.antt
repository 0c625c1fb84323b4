-- Where trees end that lie in words. Its laws (proofs/Trees.antt) say it with the definition's trees: it ends at e exactly where the words up to e are whole trees.
use Rattle.std.specs.Prelude.{Bool, ◌&&◌, List, [], ◌∷◌, ℕ, zero, suc, ◌+◌, ◌*◌, leb, length, take, drop, Option, Some, None}
use Rattle.definition.specs.Base.{pick}
use Rattle.definition.specs.Sheet.{parts_of, are_trees}

abbrev pub on_count : {X : Type 0} → ℕ → X → (ℕ → X) → X
on_count zero x f = x
on_count (suc k) x f = f k

-- where k trees end that the words begin with, which lie at `at`: node by node, with the trees that are still to come
unfoldable pub walk : List ℕ → ℕ → ℕ → Option ℕ
walk [] k at = on_count k (Some at) (λ j. None)
walk (a ∷ []) k at = on_count k (Some at) (λ j. None)
walk (a ∷ b ∷ []) k at = on_count k (Some at) (λ j. None)
walk (a ∷ b ∷ c ∷ []) k at = on_count k (Some at) (λ j. None)
walk (a ∷ b ∷ c ∷ d ∷ []) k at = on_count k (Some at) (λ j. None)
walk (a ∷ b ∷ c ∷ d ∷ e ∷ []) k at = on_count k (Some at) (λ j. None)
walk (name ∷ kind ∷ sign ∷ low ∷ high ∷ width ∷ l) k at = on_count k (Some at) (λ j. pick (leb kind 14) (walk l (parts_of kind low + j) (at + 6)) None)

unfoldable pub after_of : List ℕ → ℕ → ℕ → Option ℕ
after_of s at k = walk (drop at s) k at

abbrev pub whole_of : List ℕ → ℕ → Option ℕ
whole_of s at = after_of s at 1

-- exactly so many nodes from a place on are one whole tree: the test of the definition's `tree_cut`
abbrev pub tree_of : List ℕ → ℕ → ℕ → Bool
tree_of s at n = leb (6 * n) (length (drop at s)) && are_trees (take (6 * n) (drop at s)) 1
