-- `write::memory_answer` meets its contract. Assumes nothing.
use borrow.Author.Rules.{rules}
use Rattle.memory_definition.specs.Answers.{write_memory_answer, write_memory_out}
use Rattle.definition.specs.Answers.{variable_refused}
use Rattle.resolver.proofs.Answering.{passed}
use Rattle.memory.proofs.Writing.{answer-refused, bytes-refused, answer-passed, bytes-passed}
use Rattle.memory.proofs.write.memory_answer.Goals as goal

pub returns-in_err-file-clause-answer : goal.returns-in_err-file-clause-answer
unfolding write_memory_answer variable_refused
returns-in_err-file-clause-answer c = let a = c.args in answer-refused a.words.now a.number a.bytes.now _ c.in_err-file.ensures (search rules)

pub returns-in_err-file-clause-bytes : goal.returns-in_err-file-clause-bytes
unfolding write_memory_out variable_refused
returns-in_err-file-clause-bytes c = let a = c.args in bytes-refused a.words.now a.number a.bytes.now _ c.in_err-file.ensures

pub write_variable-requires : goal.write_variable-requires
write_variable-requires c = let f = c.in_ok-file.ensures in passed _ _ _ _ _ f.1 f.0

pub returns-clause-answer : goal.returns-clause-answer
unfolding write_memory_answer variable_refused
returns-clause-answer c =
    let a = c.args in
    let f = c.in_ok-file.ensures in
    answer-passed a.words.now a.number a.bytes.now f.1 f.0 c.write_variable.ensures

pub returns-clause-bytes : goal.returns-clause-bytes
unfolding write_memory_out variable_refused
returns-clause-bytes c =
    let a = c.args in
    let f = c.in_ok-file.ensures in
    bytes-passed a.words.now a.number a.bytes.now f.1 f.0 c.write_variable.ensures
