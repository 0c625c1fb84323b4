-- `named::first_named` meets its contract. Assumes nothing.
use borrow.Author.Rules.{rules}
use Rattle.std.proofs.lemmas.Iterator.{first_from_Range}
use Rattle.places.proofs.named.Laws.{Named, Unnamed, named-by}
use Rattle.places.proofs.named.first_named.Goals as goal

pub returns : goal.returns
returns c =
    named-by _ _ _ _ _ _
    (first_from_Range _ _ _ _ (Named c.args.file.now c.args.section c.args.name) (Unnamed c.args.file.now c.args.section c.args.name) c.find.ensures.ran
    (λ x q h. search rules) (λ x q h. (search rules, search rules)))
