-- Where the lines of a sheet end, by places in its words. The laws in proofs/ join them to the definition's `read_sheet`, which cuts line after line off a list.
use Rattle.std.specs.Prelude.{Bool, ◌&&◌, List, ℕ, zero, suc, ◌+◌, ◌-◌, ◌*◌, eqb, leb, ltb, length, get_or}
use Rattle.definition.specs.Base.{pick}
use Rattle.tree.specs.Extent.{tree_of}
use Rattle.tree.specs.Part.{on_end}
use Rattle.sheet_lines.specs.declared.ends.Form.{Form}
use Rattle.sheet_lines.specs.declared.ends.Form.TheVariants.{Types, Variables, Completed}
use Rattle.std.specs.Prelude.{None, Option, Some}

-- ---- heads: a type's is rank, state and count, a variable's state and count, a completed line's state, kind and count
unfoldable pub head_words : Form → ℕ
head_words Types = 3
head_words Variables = 2
head_words Completed = 3

-- where in the head the state stands
unfoldable pub state_at : Form → ℕ
state_at Types = 1
state_at Variables = 0
state_at Completed = 0

-- a head that stands without nodes, by its state, kind and count: none or too large; or left, and no kind
unfoldable pub empty_head : Form → ℕ → ℕ → ℕ → Bool
empty_head Types state kind many = leb state 2 && eqb many 0
empty_head Variables state kind many = leb state 2 && eqb many 0
empty_head Completed state kind many = eqb state 1 && eqb kind 0 && eqb many 0

-- where the nodes behind a head end
unfoldable pub nodes_end : List ℕ → ℕ → ℕ → ℕ → Bool → Option ℕ
nodes_end s at state many empty = pick (eqb state 0) (pick (tree_of s at many) (Some (at + many * 6)) None) (pick empty (Some at) None)

-- ---- lines
-- with a head that is there
unfoldable pub head_end : Form → List ℕ → ℕ → Option ℕ
head_end form s at =
    let from : ℕ = at + head_words form in
    let state : ℕ = get_or s (at + state_at form) 0 in
    let many : ℕ = get_or s (from - 1) 0 in
    nodes_end s from state many (empty_head form state (get_or s (at + 1) 0) many)

unfoldable pub line_end : Form → List ℕ → ℕ → Option ℕ
line_end form s at = pick (leb (at + head_words form) (length s)) (head_end form s at) None

-- so many lines, one behind the other
unfoldable pub lines_end : Form → List ℕ → ℕ → ℕ → Option ℕ
lines_end form s zero at = Some at
lines_end form s (suc k) at = on_end (lines_end form s k at) (line_end form s) None

-- the place of a line of a section whose first line is at a place; 0 where there is no such line
unfoldable pub line_at : Form → List ℕ → ℕ → ℕ → ℕ
line_at form s at k = on_end (lines_end form s k at) (λ e. e) 0

-- a count that is the file's, and as many lines
unfoldable pub section_end : Form → List ℕ → ℕ → ℕ → Option ℕ
section_end form s n at = pick (ltb at (length s) && eqb (get_or s at 0) n) (lines_end form s n (at + 1)) None
