-- `narrow::every_below` meets its contract. Assumes nothing.
use mathlib.Core.Path.{refl}
use borrow.Author.Rules.{rules}
use native.Mathlib.Omega.{arith}
use Rattle.std.proofs.lemmas.Iterator.{YieldsList-from_range}
use Rattle.std.proofs.lemmas.Iterator.Search.{all_from_yields_List}
use Rattle.memory_bytes.proofs.Spelling.{below-every}
use Rattle.memory_bytes.proofs.narrow.every_below.Goals as goal

pub returns : goal.returns
returns c = below-every _ _ _ c.args.many (all_from_yields_List _ _ _ _ c.all.ensures.ran (YieldsList-from_range 0 c.args.many c.args.many refl (omega arith)) (λ x b q k. search rules))
