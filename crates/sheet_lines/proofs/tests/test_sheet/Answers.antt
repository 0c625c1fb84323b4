-- `tests::test_sheet` meets its contract. Assumes nothing.
use Rattle.sheet_lines.proofs.Testing.{found-lined, found-there, tests-comparable, testing}
use Rattle.sheet_lines.proofs.tests.test_sheet.Goals as goal

pub lines_rise-requires : goal.lines_rise-requires
lines_rise-requires c = let p = c.requires in (p.0, found-lined _ _ p.0 c.find_lines.ensures c.ok_or.ensures.value c.in_ok-lines.was c.count-types.ensures p.1)

pub types_small-requires : goal.types_small-requires
types_small-requires c = found-there _ _ c.requires.0 c.find_lines.ensures c.ok_or.ensures.value c.in_ok-lines.was c.count-types.ensures

pub index_lines-requires-clause-lines : goal.index_lines-requires-clause-lines
index_lines-requires-clause-lines c = (found-there _ _ c.requires.0 c.find_lines.ensures c.ok_or.ensures.value c.in_ok-lines.was c.count-types.ensures, search testing)

pub returns : goal.returns
returns c =
    tests-comparable _ _ c.requires.0 c.find_lines.ensures c.ok_or.ensures.value c.in_ok-lines.was c.lines_rise.ensures (search testing) (search testing) c.count-types.ensures
    c.types_small.ensures (search testing) c.index_lines.ensures (λ at w k. search testing)
