-- `all::held_all` meets its contract. Assumes nothing.
use mathlib.Core.Path.{refl, ◌∙◌}
use borrow.Author.Rules.{rules}
use Rattle.std.proofs.lemmas.Iterator.Search.{all_from_yields_List}
use Rattle.std.proofs.lemmas.Iterator.Consumers.{YieldsList-from_first}
use Rattle.std.proofs.lemmas.Iterator.Adapters.{serves_from_places}
use Rattle.memory_definition.specs.Forms.{held}
use Rattle.memory_laws.specs.Placed.{Placed}
use Rattle.memory_forms.specs.Cell.{cell_of}
use Rattle.memory_forms.specs.Cells.{left}
use Rattle.memory_bytes.proofs.Writing.{placed-there, held-listed}
use Rattle.memory_bytes.proofs.all.held_all.Goals as goal

pub all-requires-clause-callable : goal.all-requires-clause-callable
all-requires-clause-callable c =
    serves_from_places (YieldsList-from_first (λ x. cell_of x.shape x.node) left (left c.args.cells) refl) (λ x q k. search rules)
    (λ x k h e. let p : Placed c.args.file.now x.shape = placed-there c.args.file.now (left c.args.cells) c.requires (cell_of x.shape x.node) k h e in search rules)

pub returns : goal.returns
returns c = all_from_yields_List (held c.args.file.now) c.all.new.self _ _ c.all.ensures.ran (YieldsList-from_first (λ x. cell_of x.shape x.node) left (left c.args.cells) refl) (λ x b q k. search rules) ∙ held-listed c.args.file.now (left c.args.cells)
