-- `given::apply_members` meets its contract. Assumes nothing.
use Rattle.build.proofs.Peeks.{some-of}
use Rattle.initial.proofs.given.Laws.{laws, members-none, members-other, members-there, members-given}
use Rattle.initial.proofs.given.apply_members.Goals as goal

pub returns-in_err-value : goal.returns-in_err-value
returns-in_err-value c =
    members-none c.ready.ensures c.args.place c.args.first c.args.many c.args.at c.requires.3 c.requires.2 c.value_at.ensures c.ok_or.ensures.value c.in_err-value.was (search laws)

pub returns-in_default : goal.returns-in_default
returns-in_default c = members-other c.ready.ensures c.args.place c.args.first c.args.many c.args.at c.requires.3 c.requires.2 c.value_at.ensures (some-of c.ok_or.ensures.value c.in_ok-value.was) c.in_default.not-Structure

pub apply_members-requires : goal.apply_members-requires
apply_members-requires c = (
  search laws,
  search laws,
  members-there c.ready.ensures c.args.place c.args.first c.args.many c.args.at c.requires.3 c.requires.2 c.value_at.ensures (some-of c.ok_or.ensures.value c.in_ok-value.was) c.in-Structure.is c.write_structure.ensures (search laws),
)

pub returns : goal.returns
returns c =
    members-given c.ready.ensures c.args.place c.args.first c.args.many c.args.at c.requires.3 c.requires.2 c.value_at.ensures (some-of c.ok_or.ensures.value c.in_ok-value.was) c.in-Structure.is c.write_structure.ensures (search laws)
    c.apply_members.ensures
