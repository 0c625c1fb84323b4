-- `stated::constant_or_implicit` meets its contract. Assumes nothing.
use Rattle.initial.proofs.stated.Laws.{constant-stated, unstated, implicit-some}
use Rattle.initial.proofs.stated.constant_or_implicit.Goals as goal

pub returns-in-Some : goal.returns-in-Some
returns-in-Some c =
    constant-stated c.args.value c.checked_sub.ensures c.args.place _ c.in-Some.is c.constant_value.ensures (implicit-some _ _ _ _ c.requires.2) c.put_leaf.ensures

pub returns-in-None : goal.returns-in-None
returns-in-None c = unstated c.args.value c.checked_sub.ensures _ _ c.in-None.is c.implicit.ensures
