-- Entries that give one value without parts, and such a value in the room.
use Rattle.std.specs.Prelude.{◌≡◌, List, ℕ, ◌+◌, ◌≤◌, length, take}
use Rattle.definition.specs.declared.records.Place.{Place}
use Rattle.definition.specs.declared.records.Shape.{Shape}
use Rattle.definition.specs.declared.records.Entry.{Entry}
use Rattle.definition.specs.declared.records.Entry.TheVariants as entry
use Rattle.definition.specs.Records.{constant_at, entry_at}
use Rattle.definition.specs.Syntax.{expr_at}
use Rattle.definition.specs.Tree.{Trees, one}
use Rattle.definition.specs.Ask.{Result, none, Outcome, Ask, done, ◌>>=◌}
use Rattle.definition.specs.Parts.{added}
use Rattle.definition.specs.Scalar.{as_tree, constant_value, enumerated_value, expression_value}
use Rattle.definition.specs.Resolve.{Memo}
use Rattle.laws.specs.Asks.{OnOk}
use Rattle.laws.specs.Values.{Small}
use Rattle.definition.specs.Ask.{result_of}
use Rattle.build.specs.declared.built.Unbuilt.{Unbuilt}
use Rattle.build.specs.declared.built.Unbuilt.TheVariants as unbuilt
use Rattle.build.specs.Built.{Built}
use Rattle.build.specs.Unfit.{unlisted_of}
use Rattle.gather.specs.declared.answers.Filling.{Filling}
use Rattle.gather.specs.Answers.{Listing, Builds, Lists}
use Rattle.std.specs.Prelude.{Err, Ok, Option}
use Rattle.std.specs.Prelude as std
use Rattle.tree_changes.specs.declared.limit.Misfit.{Misfit}
use Rattle.tree_changes.specs.declared.limit.Misfit.TheVariants as misfit
use Rattle.tree_changes.specs.Limit.{Added}
use Rattle.definition.specs.declared.records.Constant.{Constant}

-- what a constant, an enumerated value or an expression gives a place; none for any other entry
unfoldable pub simple_of : List ℕ → Shape → Entry → Outcome
simple_of f s (entry.Constant number) = constant_value f s (constant_at f number)
simple_of f s (entry.Enumerated value qualifier) = enumerated_value f s value qualifier
simple_of f s (entry.Array first many) = none
simple_of f s (entry.Structure first many) = none
simple_of f s (entry.Expression number) = expression_value f s (expr_at f number)
simple_of f s entry.LateBound = none
simple_of f s (entry.Repeat many inner) = none
simple_of f s entry.Unknown = none

-- an answer where values fit, or why they do not
abbrev pub on_added : Added → Listing → Listing
on_added (Ok u) r = r
on_added (Err m) r = Err (unlisted_of m)

-- one more value of an array
abbrev pub pushed : Filling → Ask Outcome → Ask (Result Trees)
pushed l m = m >>= λ t. added l.places l.made l.size (one t)

-- a value is written at a place
pub record Puts (v : Option Constant) (old : List ℕ) (at : ℕ) (r : Built) (new : List ℕ) : Type 0 where
  pub kept : take at new ≡ take at old
  pub says : (M : Memo) (o : Outcome) → as_tree (result_of v) ≡ o → OnOk Small o → at + 6 ≤ length old → Builds M (done o) at r new

-- and becomes the next of an array
pub record Pushes (v : Option Constant) (l : Filling) (old : List ℕ) (at : ℕ) (r : Listing) (new : List ℕ) : Type 0 where
  pub kept : take at new ≡ take at old
  pub says : (M : Memo) (o : Outcome) → as_tree (result_of v) ≡ o → OnOk Small o → at + 6 ≤ length old → Lists M (pushed l (done o)) l at r new

-- a tree that stands at a place becomes the next
pub record PushesTree (b : Built) (l : Filling) (at : ℕ) (r : Listing) : Type 0 where
  pub says : (M : Memo) (m : Ask Outcome) (s : List ℕ) → Builds M m at b s → Lists M (pushed l m) l at r s
