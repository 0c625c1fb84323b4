-- `like::first_like` meets its contract. Assumes nothing.
use mathlib.Core.Path.{refl}
use borrow.Author.Rules.{rules}
use Rattle.definition.specs.Accept.{shapes_like}
use Rattle.shapes.specs.Alike.{same_in, first_like}
use Rattle.shapes.proofs.Comparing.{lowest-found}
use Rattle.shapes.proofs.like.first_like.Goals as goal

pub returns : goal.returns
unfolding first_like
returns c =
    let s = c.new-sought.result in
    rw (← c.new-sought.ensures.file, ← c.new-sought.ensures.classes, ← c.new-sought.ensures.enumerated)
    (lowest-found (λ m. shapes_like s.file.now (same_in s.classes.now) s.enumerated m c.args.n) _ _ _ c.args.n _ c.find.ensures.ran refl (λ x b q k. search (rules, c.new-sought.ensures.n)) c.unwrap_or.ensures)
