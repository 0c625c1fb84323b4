-- `stated::name_default` meets its contract. Assumes nothing.
use Rattle.initial.proofs.stated.name_default.Goals as goal

pub returns : goal.returns
returns c = rw (c.index.ensures, c.store.ensures) at c.named_default.ensures c.args.known.now.file c.requires.0
