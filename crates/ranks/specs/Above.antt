-- Where ranks stand, and the uses of a type in the order of the code.
use Rattle.std.specs.Prelude.{List, [], ◌++◌, ℕ, ◌-◌, eqb, get_or}
use Rattle.definition.specs.Base.{pick, on_link}
use Rattle.definition.specs.Records.{alias_base, element_type, referenced_type}
use Rattle.definition.specs.Uses.{linked, initializer_uses, rank_at}

-- words hold each type's rank at its number
abbrev pub rank_in : List ℕ → ℕ → ℕ
rank_in words = rank_at words

-- the rank at the head of a type's line, to which a word of the index leads
unfoldable pub line_rank : List ℕ → List ℕ → ℕ → ℕ
line_rank index sheet t = get_or sheet (get_or index t 0 - 2) 0

-- the initializer of an alias
unfoldable pub start_uses : List ℕ → ℕ → List ℕ
start_uses f start = on_link start [] (initializer_uses f)

-- the named type of a reference
unfoldable pub reference_uses : List ℕ → ℕ → ℕ → List ℕ
reference_uses f t name = pick (eqb name (referenced_type f t)) [] (linked name)

unfoldable pub links_of : List ℕ → ℕ → List ℕ
links_of f t = linked (alias_base f t) ++ linked (element_type f t)
