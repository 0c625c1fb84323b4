-- `completed::slot_answer` meets its contract. Assumes nothing.
use Rattle.definition.specs.Starting.{variable_outcome}
use Rattle.definition.specs.Answers.{completed_answer, completed_out, variable_refused}
use mathlib.Core.Path.{ap}
use mathlib.Core.List.{List}
use Prim.Native.Nat.{ℕ}
use borrow.Author.Rules.{rules}
use Rattle.resolver.proofs.Answering.{passed}
use Rattle.resolver.proofs.Completing.{slot-refused, room-refused, slot-passed, room-passed}
use Rattle.resolver.proofs.completed.slot_answer.Goals as goal

pub returns-in_err-file-clause-answer : goal.returns-in_err-file-clause-answer
unfolding completed_answer variable_refused
returns-in_err-file-clause-answer c = let a = c.args in slot-refused a.words.now a.number (variable_outcome a.words.now a.number) a.out.now _ c.in_err-file.ensures (search rules)

pub returns-in_err-file-clause-out : goal.returns-in_err-file-clause-out
unfolding completed_out variable_refused
returns-in_err-file-clause-out c = let a = c.args in room-refused a.words.now a.number (variable_outcome a.words.now a.number) a.out.now _ c.in_err-file.ensures

pub write_completed-requires : goal.write_completed-requires
write_completed-requires c = let f = c.in_ok-file.ensures in passed _ _ _ _ _ f.1 f.0

pub returns-clause-answer : goal.returns-clause-answer
unfolding completed_answer variable_refused
returns-clause-answer c =
    let a = c.args in
    let f = c.in_ok-file.ensures in
    slot-passed a.words.now a.number (variable_outcome a.words.now a.number) a.out.now f.1 f.0 (ap (λ (l : List ℕ). variable_outcome l a.number) f.0) c.write_completed.ensures

pub returns-clause-out : goal.returns-clause-out
unfolding completed_out variable_refused
returns-clause-out c =
    let a = c.args in
    let f = c.in_ok-file.ensures in
    room-passed a.words.now a.number (variable_outcome a.words.now a.number) a.out.now f.1 f.0 (ap (λ (l : List ℕ). variable_outcome l a.number) f.0) c.write_completed.ensures
