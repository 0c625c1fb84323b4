-- `compare::line_same` meets its contract. Assumes nothing.
use lib.Dec.{eqb}
use borrow.Author.Rules.{rules}
use Rattle.std.proofs.lemmas.Iterator.{YieldsList-from_slice, YieldsList-from_zip}
use Rattle.std.proofs.lemmas.Iterator.Search.{all_from_yields_List}
use Rattle.sheet_lines.proofs.Comparing.{head-pairs}
use Rattle.sheet_lines.proofs.compare.line_same.Goals as goal

pub returns-then-behind-nodes : goal.returns-then-behind-nodes
returns-then-behind-nodes c =
    head-pairs c.args.line.now c.args.head.now c.args.nodes.now (search rules) {behind = c.in-Some.behind.now} (search rules) (search rules)
    (all_from_yields_List (λ p. eqb p.0 p.1) c.all.new.self _ _ c.all.ensures.ran (YieldsList-from_zip (YieldsList-from_slice c.in-Some.behind.now cc) (YieldsList-from_slice c.args.nodes.now cc)) (λ x b q k. search rules))
