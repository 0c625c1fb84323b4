-- `put::put_characters` meets its contract. Assumes nothing.
use Rattle.memory_nodes.proofs.Texts.{characters}
use Rattle.memory_nodes.proofs.put.put_characters.Goals as goal

pub loop-init : goal.loop-init
loop-init c = search characters

pub overflow_cast-character : goal.overflow_cast-character
overflow_cast-character c = search characters

pub put_word-end-requires : goal.put_word-end-requires
put_word-end-requires c = search characters

pub loop-preserved : goal.loop-preserved
loop-preserved c = search characters

pub returns : goal.returns
returns c = search characters
