-- So many words of a record from a place on.
use Rattle.std.specs.Prelude.{List, ℕ, ◌+◌, map}
use Rattle.std.specs.List.{range_with_len}
use Rattle.definition.specs.Layout.{word}

abbrev pub words_from : List ℕ → ℕ → ℕ → ℕ → ℕ → List ℕ
words_from f s n place many = map (λ k. word f s n (place + k)) (range_with_len 0 many)
