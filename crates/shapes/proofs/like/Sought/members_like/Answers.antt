-- `like::Sought::members_like` meets its contract. Assumes nothing.
use borrow.Author.Rules.{rules}
use Rattle.definition.specs.Accept.{same_member}
use Rattle.shapes.proofs.Comparing.{members-go}
use Rattle.shapes.proofs.like.Sought.members_like.Goals as goal

pub returns : goal.returns
unfolding same_member
returns c = members-go _ _ _ _ _ c.same_word.ensures c.if-not-self.false c.if-not-same_word.false (c.same_runs.ensures.is _ (λ j x k. search rules))
