-- `all::narrow_all` meets its contract. Assumes nothing.
use mathlib.Core.Path.{refl, ◌∙◌}
use borrow.Author.Rules.{rules}
use Rattle.std.proofs.lemmas.Iterator.Search.{all_from_yields_List}
use Rattle.std.proofs.lemmas.Iterator.Consumers.{YieldsList-from_first}
use Rattle.memory_definition.specs.Forms.{narrow, file_characters}
use Rattle.memory_forms.specs.Cell.{cell_of}
use Rattle.memory_forms.specs.Cells.{left}
use Rattle.memory_bytes.proofs.Writing.{narrow-listed}
use Rattle.memory_bytes.proofs.all.narrow_all.Goals as goal

pub returns : goal.returns
returns c =
    let f = c.args.file.now in
    all_from_yields_List (narrow f (file_characters f)) c.all.new.self _ _ c.all.ensures.ran (YieldsList-from_first (λ x. cell_of x.shape x.node) left (left c.args.cells) refl) (λ x b q k. search rules) ∙ narrow-listed f (left c.args.cells)
