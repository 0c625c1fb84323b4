-- `append::Lines::remember_tree` meets its contract. Assumes nothing.
use mathlib.Core.Path.{refl}
use borrow.Author.Rules.{rules}
use Rattle.lines.proofs.Appending.{tree-there}
use Rattle.lines.proofs.append.Lines.remember_tree.Goals as goal

pub returns-clause-appends : goal.returns-clause-appends
returns-clause-appends c = tree-there _ 0 _ _ _ _ _ c.has_room.ensures (search rules) c.copy_nodes.ensures c.in_ok-stop.was c.put_head.ensures.headed refl refl refl
