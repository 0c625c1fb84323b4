-- `depths::levels` meets its contract. Assumes nothing.
use borrow.Author.Rules.{rules}
use Rattle.acceptance.proofs.Nests.{entries-found, shapes-found, sum_fits, levels_fit, leveling}
use Rattle.acceptance.proofs.depths.levels.Goals as goal

pub greatest-entries-requires : goal.greatest-entries-requires
greatest-entries-requires c = (search rules, search rules, entries-found c.args.file.now.accepted (search rules) (search rules) (search rules))

pub greatest-shapes-requires : goal.greatest-shapes-requires
greatest-shapes-requires c = (search leveling, search leveling, shapes-found c.args.file.now.accepted (search rules) (search rules) (search rules))

pub overflow_add-result : goal.overflow_add-result
overflow_add-result c = let f = c.args.file.now in sum_fits f.source (search leveling) (search leveling) f.accepted

pub overflow_add-result-2 : goal.overflow_add-result-2
overflow_add-result-2 c = let f = c.args.file.now in levels_fit f.source (search leveling) (search leveling) f.accepted
