-- What an index and a store say of a type, whatever words they have.
use Rattle.std.specs.Prelude.{List, ℕ, ◌+◌, ◌-◌, eqb, leb, ltb, length, get_or, Result, Ok, Err}
use Rattle.definition.specs.Base.{pick}
use Rattle.lines.specs.declared.look.Tree.{Tree}
use Rattle.lines.specs.declared.look.Absent.{Absent}
use Rattle.lines.specs.declared.look.Absent.TheVariants.{Unknown, None, TooLarge}

-- a tree, or why there is none
abbrev pub Remembered : Type 0
Remembered = Result Tree Absent

-- a tree of so many nodes at a place
abbrev pub there : ℕ → ℕ → Remembered
there at nodes = Ok (record { at = at; nodes = nodes })

-- the states of the definition's `outcome_words`
unfoldable pub state_of : ℕ → ℕ → ℕ → Remembered
state_of state at count = pick (eqb state 0) (there at count) (pick (eqb state 2) (Err TooLarge) (Err None))

-- and that of a line without a tree: what is unknown reads as none
abbrev pub state_word : Absent → ℕ
state_word Unknown = 1
state_word None = 1
state_word TooLarge = 2

-- rank, state and count, and the nodes behind them
unfoldable pub line_of : List ℕ → ℕ → Remembered
line_of store at = pick (leb (at + 3) (length store)) (state_of (get_or store (at + 1) 0) (at + 3) (get_or store (at + 2) 0)) (Err None)

unfoldable pub word_of : List ℕ → ℕ → Remembered
word_of store word = pick (eqb word 0) (Err Unknown) (pick (eqb word 1) (Err None) (line_of store (word - 2)))

-- a number past the index has none, as the definition's `at` says it of a number that is no type's
unfoldable pub remembered_of : List ℕ → List ℕ → ℕ → Remembered
remembered_of index store t = pick (ltb t (length index)) (word_of store (get_or index t 0)) (Err None)
