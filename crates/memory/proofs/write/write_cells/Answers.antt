-- `write::write_cells` meets its contract. Assumes nothing.
use Rattle.memory.proofs.Writing.{unheld, too_wide, cell_writing}
use Rattle.memory.proofs.write.write_cells.Goals as goal

pub returns-then-not-held_all : goal.returns-then-not-held_all
returns-then-not-held_all c = unheld _ _ c.held_all.ensures c.if-not-held_all.true

pub returns-then-not-narrow_all : goal.returns-then-not-narrow_all
returns-then-not-narrow_all c = too_wide _ _ c.held_all.ensures c.if-not-held_all.false c.narrow_all.ensures c.if-not-narrow_all.true

pub returns : goal.returns
returns c = search cell_writing
