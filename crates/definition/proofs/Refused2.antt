-- Files and the lines that the Rust gives for them, with document 01's limit. Written by tools/compare_definition; docs/DEFINITION.md says how.
use mathlib.Core.Path.{◌≡◌, refl}
use mathlib.Core.List.{[], ◌∷◌}
use Rattle.definition.specs.Computing.{computing}
use Rattle.definition.specs.Accept.{verdict}

v477 : verdict (1 ∷ 254 ∷ 1 ∷ 8 ∷ 8 ∷ 0 ∷ 0 ∷ 0 ∷ 0 ∷ 0 ∷ 0 ∷ 3 ∷ 0 ∷ 0 ∷ 0 ∷ 0 ∷ 1 ∷ 0 ∷ 2 ∷ 0 ∷ 0 ∷ 4294967295 ∷ 0 ∷ 0 ∷ 3 ∷ 0 ∷ 0 ∷ 1 ∷ 0 ∷ 1 ∷ 0 ∷ 0 ∷ 4294967295 ∷ 0 ∷ 0 ∷ 0 ∷ 0 ∷ 0 ∷ 0 ∷ 0 ∷ 0 ∷ 0 ∷ 0 ∷ 4294967295 ∷ 0 ∷ 0 ∷ 0 ∷ 1 ∷ 2 ∷ 5 ∷ 0 ∷ 2 ∷ 3 ∷ 3 ∷ 3 ∷ 0 ∷ 1 ∷ 0 ∷ 0 ∷ 0 ∷ 0 ∷ 11 ∷ 2 ∷ 0 ∷ 0 ∷ 0 ∷ 0 ∷ 0 ∷ 0 ∷ 3 ∷ 0 ∷ 0 ∷ 0 ∷ 0 ∷ 0 ∷ 0 ∷ 0 ∷ 0 ∷ 0 ∷ 1 ∷ 8 ∷ 0 ∷ 256 ∷ 0 ∷ 1 ∷ 0 ∷ []) ≡ 4
unfolding computing
v477 = refl

v569 : verdict (1 ∷ 254 ∷ 2 ∷ 3 ∷ 64 ∷ 0 ∷ 0 ∷ 0 ∷ 12 ∷ 4294967295 ∷ 0 ∷ 3 ∷ 0 ∷ 1 ∷ 24 ∷ 0 ∷ 3 ∷ 2 ∷ 4 ∷ 2 ∷ 4 ∷ 0 ∷ 1 ∷ 1 ∷ 1 ∷ 0 ∷ 0 ∷ 0 ∷ 2 ∷ 0 ∷ 1 ∷ 0 ∷ 0 ∷ 4294967295 ∷ 0 ∷ 1 ∷ 3 ∷ 0 ∷ 2 ∷ 0 ∷ 2 ∷ 1 ∷ 0 ∷ 1 ∷ 0 ∷ 8 ∷ 4 ∷ 1 ∷ 1 ∷ 2 ∷ 9 ∷ 1 ∷ 0 ∷ 0 ∷ 4 ∷ 2 ∷ 0 ∷ 0 ∷ 9 ∷ 1 ∷ 0 ∷ 0 ∷ 8 ∷ 1 ∷ 0 ∷ 0 ∷ 9 ∷ 0 ∷ 0 ∷ 1 ∷ 0 ∷ 4 ∷ 0 ∷ 2 ∷ 0 ∷ 6 ∷ 0 ∷ 18 ∷ 2 ∷ 6 ∷ 0 ∷ 1 ∷ 3 ∷ 6 ∷ 0 ∷ 18 ∷ 1 ∷ 6 ∷ 0 ∷ 5 ∷ 4 ∷ 4 ∷ 0 ∷ 3 ∷ 0 ∷ 6 ∷ 0 ∷ 18 ∷ 7 ∷ 6 ∷ 0 ∷ 9 ∷ 8 ∷ 4 ∷ 0 ∷ 2 ∷ 3 ∷ 0 ∷ 2 ∷ 1 ∷ 5 ∷ 0 ∷ 3 ∷ 1 ∷ 0 ∷ 0 ∷ 0 ∷ 0 ∷ 3 ∷ 0 ∷ 0 ∷ 2147483648 ∷ 0 ∷ 1 ∷ 0 ∷ 1 ∷ 0 ∷ 0 ∷ 0 ∷ []) ≡ 4
unfolding computing
v569 = refl
