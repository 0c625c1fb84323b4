-- `sheet::write_passed` meets its contract. Assumes nothing.
use mathlib.Core.Path.{sym, ◌∙◌}
use native.Mathlib.Omega.{arith}
use Rattle.laws.specs.Accepted.{few-types}
use Rattle.writer.proofs.Whole.{passed-accepted, prefix-zeros}
use Rattle.writer.proofs.sheet.write_passed.Goals as goal

pub slice_bounds-ranks-end : goal.slice_bounds-ranks-end
slice_bounds-ranks-end c = omega (arith, few-types _ (passed-accepted c.requires), c.count-many.ensures)

pub slice_bounds-write_lowest-end : goal.slice_bounds-write_lowest-end
slice_bounds-write_lowest-end c = prefix-zeros c.count-many.result 1024 (omega (arith, few-types _ (passed-accepted c.requires), c.count-many.ensures))

pub write_lowest-requires : goal.write_lowest-requires
write_lowest-requires c =
    let p = c.requires in
    let n = c.count-many in
    (p, sym (prefix-zeros n.result 1024 (omega (arith, few-types _ (passed-accepted p), n.ensures))) ∙ n.ensures)
