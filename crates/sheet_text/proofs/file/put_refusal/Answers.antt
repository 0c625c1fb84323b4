-- `file::put_refusal` meets its contract. Assumes nothing.
use borrow.Author.Rules.{rules}
use Rattle.writer.proofs.Refusing.{admitted-none, admitted-not}
use Rattle.sheet_text.proofs.Filing.{long-printed, ten-printed, other-printed}
use Rattle.sheet_text.proofs.file.put_refusal.Goals as goal
use Rattle.sheet_text.proofs.file.put_refusal.Goals.{else-eq-via-then-eq+else-is_ok, else-eq-via-else-eq}

pub returns-then-is_ok : goal.returns-then-is_ok
returns-then-is_ok c =
    long-printed c.requires.0 (search rules) (admitted-none _ _ _ _ c.admitted.result c.admitted.ensures (search rules)) c.put_long.ensures

pub returns : goal.returns
returns c =
    elim c.else-eq.branch [
      | else-eq-via-then-eq+else-is_ok w ↦ ten-printed c.requires.0 (search rules) (admitted-not _ _ _ _ w.admitted.result w.admitted.ensures (search rules)) c.number.ensures c.put_refused.ensures
      | else-eq-via-else-eq w ↦ other-printed c.requires.0 (search rules) c.number.ensures c.put_refused.ensures
    ]
