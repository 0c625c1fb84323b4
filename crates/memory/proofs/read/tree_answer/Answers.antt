-- `read::tree_answer` meets its contract. Assumes nothing.
use borrow.Author.Rules.{rules}
use Rattle.memory_definition.specs.Answers.{read_memory_answer, read_memory_nodes, read_memory_text}
use Rattle.definition.specs.Answers.{variable_refused}
use Rattle.resolver.proofs.Answering.{passed}
use Rattle.memory.proofs.Reading.{answer-unread, nodes-unread, text-unread, answer-read, nodes-read, text-read}
use Rattle.memory.proofs.read.tree_answer.Goals as goal

pub returns-in_err-file-clause-answer : goal.returns-in_err-file-clause-answer
unfolding read_memory_answer variable_refused
returns-in_err-file-clause-answer c = let a = c.args in answer-unread a.words.now a.number a.bytes.now a.nodes.now a.characters.now _ c.in_err-file.ensures (search rules)

pub returns-in_err-file-clause-nodes : goal.returns-in_err-file-clause-nodes
unfolding read_memory_nodes variable_refused
returns-in_err-file-clause-nodes c = let a = c.args in nodes-unread a.words.now a.number a.bytes.now a.nodes.now a.characters.now _ c.in_err-file.ensures

pub returns-in_err-file-clause-text : goal.returns-in_err-file-clause-text
unfolding read_memory_text variable_refused
returns-in_err-file-clause-text c = let a = c.args in text-unread a.words.now a.number a.bytes.now a.nodes.now a.characters.now _ c.in_err-file.ensures

pub read_variable-requires : goal.read_variable-requires
read_variable-requires c = let f = c.in_ok-file.ensures in passed _ _ _ _ _ f.1 f.0

pub returns-clause-answer : goal.returns-clause-answer
unfolding read_memory_answer variable_refused
returns-clause-answer c =
    let a = c.args in
    let f = c.in_ok-file.ensures in
    answer-read a.words.now a.number a.bytes.now a.nodes.now a.characters.now f.1 f.0 c.read_variable.ensures

pub returns-clause-nodes : goal.returns-clause-nodes
unfolding read_memory_nodes variable_refused
returns-clause-nodes c =
    let a = c.args in
    let f = c.in_ok-file.ensures in
    nodes-read a.words.now a.number a.bytes.now a.nodes.now a.characters.now f.1 f.0 c.read_variable.ensures

pub returns-clause-text : goal.returns-clause-text
unfolding read_memory_text variable_refused
returns-clause-text c =
    let a = c.args in
    let f = c.in_ok-file.ensures in
    text-read a.words.now a.number a.bytes.now a.nodes.now a.characters.now f.1 f.0 c.read_variable.ensures
