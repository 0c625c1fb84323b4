-- `string::put_text` meets its contract. Assumes nothing.
use mathlib.Core.Path.{◌≡◌}
use lib.ListN.{length}
use Rattle.text.proofs.Putting.{Putting}
use Rattle.memory_definition.specs.Numbers.{text_bytes}
use Rattle.memory_definition.specs.Forms.{file_characters, characters_from}
use Rattle.memory_bytes.proofs.Spelling.{left}
use Rattle.memory_bytes.proofs.string.put_text.Given as goal

abbrev pub invariant-loop-k : goal.invariant-loop-k
invariant-loop-k l = Putting (text_bytes l.size (characters_from (file_characters l.file) l.first l.many)) l.initial.bytes l.at (text_bytes l.size (left l.file l.first l.many l.k)) l.bytes l.end × (length l.bytes ≡ length l.initial.bytes)
