-- A value without parts, in words.
use Rattle.std.specs.Prelude.{◌≡◌, List, ℕ, ◌+◌, ◌≤◌, length, take, Option}
use Rattle.definition.specs.declared.records.Constant.{Constant}
use Rattle.definition.specs.Tree.{flatten}
use Rattle.definition.specs.Ask.{result_of}
use Rattle.definition.specs.Peek.{got}
use Rattle.definition.specs.Scalar.{as_tree}
use Rattle.build.specs.Built.{Built, Gives}

-- it is written at a place, where there is room
pub record PutsLeaf (v : Option Constant) (at : ℕ) (old : List ℕ) (r : Built) (new : List ℕ) : Type 0 where
  pub kept : take at new ≡ take at old
  pub gives : at + 6 ≤ length old → Gives flatten (got (as_tree (result_of v))) at r new
