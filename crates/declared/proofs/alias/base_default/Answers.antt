-- `alias::base_default` meets its contract. Assumes nothing.
use Rattle.build.proofs.defaults.Laws.{tree-room}
use Rattle.declared.proofs.alias.Laws.{base-type, base-typed, base-implicit}
use Rattle.declared.proofs.alias.base_default.Goals as goal

pub type_default-requires : goal.type_default-requires
type_default-requires c = (base-type c.args.known.now.file c.args.place c.args.base c.checked_sub.ensures c.in-Some.is c.requires.1, tree-room _ _ _ _ c.requires.2)

pub returns-in-Some : goal.returns-in-Some
returns-in-Some c = base-typed c.args.known.now.file c.args.place c.args.base c.checked_sub.ensures c.in-Some.is c.type_default.ensures

pub returns-in-None : goal.returns-in-None
returns-in-None c = base-implicit c.args.known.now.file c.args.place c.args.base c.checked_sub.ensures c.in-None.is c.implicit.ensures
