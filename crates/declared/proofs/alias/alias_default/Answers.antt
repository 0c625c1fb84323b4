-- `alias::alias_default` meets its contract. Assumes nothing.
use native.Mathlib.Omega.{arith}
use borrow.Author.Rules.{rules}
use Rattle.initial.proofs.start.Laws.{simple-value, members-in}
use Rattle.initial.proofs.stated.Laws.{constant-in, constant-stated, implicit-some, over-fails, name-there, name-over}
use Rattle.declared.proofs.alias.Laws.{asked, implicit-room, alias-tree, members-room, alias-inside, simple-linked, members-linked, alias-simple, alias-members}
use Rattle.declared.proofs.alias.alias_default.Goals as goal

pub constant_or_implicit-requires : goal.constant_or_implicit-requires
constant_or_implicit-requires c = search asked

pub array_or_spec-requires : goal.array_or_spec-requires
array_or_spec-requires c = search asked

pub constant_value-requires : goal.constant_value-requires
constant_value-requires c =
    (c.requires.0.shape, constant-in c.checked_sub.ensures c.in-Some.is (simple-value c.args.known.now.accepted (alias-inside c.requires.1) c.initializer-v.ensures.is c.in-Simple.is))

pub name_default-requires : goal.name_default-requires
name_default-requires c = (simple-linked c.requires.1 c.word-name.ensures c.initializer-v.ensures.is c.in-Simple.is, alias-tree _ _ _ _ _ c.requires.2)

pub returns-in-Some : goal.returns-in-Some
returns-in-Some c =
    alias-simple _ _ _ c.initializer-v.ensures.is c.word-name.ensures c.in-Simple.is
    (constant-stated c.in-Simple.value c.checked_sub.ensures c.args.place _ c.in-Some.is c.constant_value.ensures (implicit-some _ _ _ _ (implicit-room _ _ _ _ _ c.requires.2)) c.put_leaf.ensures)

pub name_default-requires-in-FunctionBlock : goal.name_default-requires-in-FunctionBlock
name_default-requires-in-FunctionBlock c = (members-linked c.requires.1 c.word-name.ensures c.initializer-v.ensures.is c.in-FunctionBlock.is, alias-tree _ _ _ _ _ c.requires.2)

pub returns-in_err-end-in-FunctionBlock : goal.returns-in_err-end-in-FunctionBlock
returns-in_err-end-in-FunctionBlock c =
    alias-members _ _ _ c.initializer-v.ensures.is c.word-name.ensures c.in-FunctionBlock.is (over-fails _ _ _ _ _ _ _ c.in_err-end-in-FunctionBlock.ensures (search rules))

pub apply_members-requires : goal.apply_members-requires
apply_members-requires c =
    let q = c.initializer-v.ensures.is in
    let e = c.in-FunctionBlock.is in (
      c.requires.0,
      members-in c.args.known.now.accepted (alias-inside c.requires.1) q e,
      name-there c.initializer-v.ensures.ready c.word-name.result (members-linked c.requires.1 c.word-name.ensures q e) c.name_default-in-FunctionBlock.ensures c.in_ok-end-in-FunctionBlock.was,
      omega (arith, members-room _ _ _ _ _ c.requires.2 q e, c.name_default-in-FunctionBlock.auto.room),
    )

pub returns-in_ok-end-in-FunctionBlock : goal.returns-in_ok-end-in-FunctionBlock
returns-in_ok-end-in-FunctionBlock c =
    let q = c.initializer-v.ensures.is in
    let e = c.in-FunctionBlock.is in
    alias-members _ _ _ q c.word-name.ensures e
    (name-over c.initializer-v.ensures.ready c.word-name.result (members-linked c.requires.1 c.word-name.ensures q e) c.name_default-in-FunctionBlock.ensures c.in_ok-end-in-FunctionBlock.was c.apply_members.ensures)
