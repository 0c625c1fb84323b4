-- A field's name, and a structure's head, in words.
use Rattle.std.specs.Prelude.{◌≡◌, List, ℕ, ◌-◌, ltb, set}
use Rattle.std.proofs.Math.Seq.{paste}
use Rattle.definition.specs.Base.{pick}
use Rattle.tree.specs.Node.{head_words}
use Rattle.build.specs.declared.built.Unbuilt.TheVariants as unbuilt
use Rattle.definition.specs.Tree.{tree_words}
use Rattle.build.specs.Built.{Built}
use Rattle.std.specs.Prelude.{Err, Ok}

pub record NamesField (at to end name : ℕ) (old : List ℕ) (r : Built) (new : List ℕ) : Type 0 where
  pub says : r ≡ pick (ltb tree_words (end - at)) (Err unbuilt.TooLarge) (Ok end)
  pub is : new ≡ pick (ltb tree_words (end - at)) old (set old to name)

pub record HeadsStructure (at made end : ℕ) (old : List ℕ) (r : Built) (new : List ℕ) : Type 0 where
  pub says : r ≡ Ok end
  pub is : new ≡ paste old at (head_words 14 made) 6
