-- The outcomes that the type lines of a sheet say: what the check takes for the types that a line asks for.
use Rattle.std.specs.Prelude.{◌≡◌, refl, Bool, true, false, List, ℕ, ◌+◌, ◌*◌, eqb, get_or, take, drop}
use Rattle.definition.specs.Base.{pick}
use Rattle.definition.specs.Ask.{ok, none, large, Outcome}
use Rattle.definition.specs.Sheet.{are_trees}
use Rattle.laws.specs.Readable.{whole-tree}
use Rattle.sheet_lines.specs.declared.ends.Form.TheVariants.{Types}
use Rattle.sheet_lines.specs.Ends.{line_at}

-- the tree whose words they are; none where they are no whole tree's
unfoldable pub tree_by : (words : List ℕ) (b : Bool) → are_trees words 1 ≡ b → Outcome
tree_by words true q = ok (whole-tree words q).tree
tree_by words false q = none

unfoldable pub read_tree : List ℕ → Outcome
read_tree words = tree_by words (are_trees words 1) refl

-- by state, count and nodes, which stand behind a rank
unfoldable pub said_at : List ℕ → ℕ → Outcome
said_at s p = pick (eqb (get_or s (p + 1) 0) 0) (read_tree (take (6 * get_or s (p + 2) 0) (drop (p + 3) s))) (pick (eqb (get_or s (p + 1) 0) 1) none large)

unfoldable pub said_by : List ℕ → ℕ → Outcome
said_by s t = said_at s (line_at Types s 1 t)
