-- `stated::stated_or_default` meets its contract. Assumes nothing.
use Rattle.build.proofs.Peeks.{link-some}
use Rattle.initial.proofs.stated.Laws.{stated-some, stated-none, start-some}
use Rattle.initial.proofs.stated.stated_or_default.Goals as goal

pub leaf-requires : goal.leaf-requires
leaf-requires g c = c.requires.leaf _ (link-some c.checked_sub.ensures c.in-Some.is)

pub returns-in-Some : goal.returns-in-Some
returns-in-Some g c =
    stated-some c.args.link c.checked_sub.ensures _ _ c.in-Some.is c.leaf.ensures (start-some _ _ _ _ c.requires.room.1) c.put_leaf.ensures

pub returns : goal.returns
returns g c = stated-none c.args.link c.checked_sub.ensures _ _ c.in-None.is c.default_of.ensures
