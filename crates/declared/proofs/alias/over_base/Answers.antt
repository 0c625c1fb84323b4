-- `alias::over_base` meets its contract. Assumes nothing.
use mathlib.Core.Path.{◌≡◌, ap, ◌∙◌}
use Rattle.std.specs.Prelude.{Err}
use Rattle.build.specs.declared.built.Unbuilt.TheVariants as unbuilt
use Rattle.declared.proofs.alias.Laws.{laws, over-unstated, over-large, over-own}
use Rattle.declared.proofs.alias.over_base.Goals as goal

pub returns-in_default : goal.returns-in_default
returns-in_default c = over-unstated c.args.base c.checked_sub.result c.checked_sub.ensures c.in_default.not-Some

pub returns-in-Err-TooLarge : goal.returns-in-Err-TooLarge
returns-in-Err-TooLarge c =
    let e : c.in-Err-TooLarge.field-0 ≡ unbuilt.TooLarge = rw c.in-Err-TooLarge.is at c.in-Err-TooLarge.field-0-is in
    over-large c.args.base (c.in-Err-TooLarge.is ∙ ap Err e)

pub returns-in_default-base : goal.returns-in_default-base
returns-in_default-base c = over-own c.args.base c.checked_sub.ensures c.in-Some.is (search laws) (search laws) c.constant_value.ensures c.requires.2 c.put_leaf.ensures
