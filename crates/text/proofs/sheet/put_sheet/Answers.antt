-- `sheet::put_sheet` meets its contract. Assumes nothing.
use Rattle.text.proofs.Series.{printing-able, printing-more, printing-done}
use Rattle.text.proofs.Room.{sheet-first}
use Rattle.text.proofs.sheet.put_sheet.Goals as goal

pub put-types-requires : goal.put-types-requires
put-types-requires c = printing-able (sheet-first _ c.type_inv.words c.args.text.now c.requires)

pub put-variables-requires : goal.put-variables-requires
put-variables-requires c = printing-able (printing-more (sheet-first _ c.type_inv.words _ c.requires) c.put-types.ensures)

pub put-completed-requires : goal.put-completed-requires
put-completed-requires c = printing-able (printing-more (printing-more (sheet-first _ c.type_inv.words _ c.requires) c.put-types.ensures) c.put-variables.ensures)

pub returns : goal.returns
returns c = (printing-done (printing-more (printing-more (printing-more (sheet-first _ c.type_inv.words _ c.requires) c.put-types.ensures) c.put-variables.ensures) c.put-completed.ensures)).puts
