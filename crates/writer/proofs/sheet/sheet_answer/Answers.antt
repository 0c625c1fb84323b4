-- `sheet::sheet_answer` meets its contract. Assumes nothing.
use Rattle.writer.proofs.Refusing.{passed-by}
use Rattle.writer.proofs.Whole.{out-refused, answer-passed, out-passed}
use Rattle.writer.proofs.sheet.sheet_answer.Goals as goal

pub returns-in_err-file-clause-out : goal.returns-in_err-file-clause-out
returns-in_err-file-clause-out c = out-refused _ c.args.out.now _ _ _ c.in_err-file.ensures

pub write_passed-requires : goal.write_passed-requires
write_passed-requires c = let i = c.in_ok-file.ensures in passed-by _ _ _ i.0 i.1

pub returns-clause-answer : goal.returns-clause-answer
returns-clause-answer c = let i = c.in_ok-file.ensures in answer-passed _ c.args.out.now _ _ i.0 i.1 c.write_passed.ensures

pub returns-clause-out : goal.returns-clause-out
returns-clause-out c = let i = c.in_ok-file.ensures in out-passed _ c.args.out.now _ _ i.0 i.1 c.write_passed.ensures
