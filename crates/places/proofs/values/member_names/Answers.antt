-- `values::member_names` meets its contract. Assumes nothing.
use mathlib.Core.Path.{refl}
use native.Mathlib.Omega.{arith}
use Rattle.places.proofs.values.Laws.{members-end, members_run}
use Rattle.places.proofs.values.member_names.Goals as goal

pub part-requires : goal.part-requires
part-requires c = (omega arith, members-end c.args.file.now.accepted c.args.first c.args.many c.requires c.member_at-from.ensures.is c.words.ensures)

pub returns : goal.returns
returns c = members_run c.args.file.now.accepted c.args.first c.args.many c.requires c.member_at-from.ensures.is c.words.ensures refl c.part.ensures
