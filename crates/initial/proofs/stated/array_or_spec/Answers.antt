-- `stated::array_or_spec` meets its contract. Assumes nothing.
use Rattle.initial.proofs.given.Laws.{laws, array-given}
use Rattle.initial.proofs.stated.Laws.{array-or-given}
use Rattle.initial.proofs.stated.array_or_spec.Goals as goal

pub array-requires : goal.array-requires
array-requires c = search laws

pub returns : goal.returns
returns c = array-or-given c.args.place c.args.first _ c.if-many-eq0.false (array-given c.ready.ensures c.args.place c.args.first c.args.many c.args.at c.requires.4 c.array.ensures)
