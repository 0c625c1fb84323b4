-- `Source::words_from` meets its contract. Assumes nothing.
use borrow.Author.Rules.{rules}
use Rattle.definition.specs.Layout.{word}
use Rattle.records.proofs.Making.{made-by}
use Rattle.records.proofs.source.Source.words_from.Goals as goal
use Prim.Native.Nat.{◌+◌}

pub returns : goal.returns
returns g c = let a = c.args in made-by (λ k. word a.self.now a.section a.number (a.place + k)) _ _ (λ x y q k. search rules) _ c.from_fn.ensures.items
