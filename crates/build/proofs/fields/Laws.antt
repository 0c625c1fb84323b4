-- A law for each return of fields.rt. Assumes nothing.
use mathlib.Core.Path.{◌≡◌, refl}
use mathlib.Core.Bool.{true, not}
use mathlib.Core.List.{List}
use Prim.Native.Nat.{ℕ, ◌+◌, ◌-◌, ◌≤◌, ◌<◌}
use lib.Dec.{eqb}
use lib.ListN.{length, set}
use borrow.Author.Rules.{rules}
use borrow.Author.Tests.{le-leb, lt-ltb, le-ltb, ne_eqb, eq-eqb}
use Rattle.definition.specs.Layout.{word}
use Rattle.tree.specs.Words.{WroteNode}
use Rattle.tree.specs.Node.{head_words}
use Rattle.build.specs.declared.built.Unbuilt.TheVariants as unbuilt
use Rattle.definition.specs.Tree.{tree_words}
use Rattle.build.specs.Parts.{is_listed}
use Rattle.build.specs.Fields.{NamesField, HeadsStructure}
use Rattle.std.specs.Prelude.{Err, Ok, Option}

-- ---- `is_listed`
pub listed-other : (f : List ℕ) (section k : ℕ) → (section ≡ 6 → ⊥) → true ≡ is_listed f section k
unfolding is_listed
listed-other f section k n = rw (ne_eqb section 6 n)

pub listed-block : (f : List ℕ) (section k : ℕ) → section ≡ 6 → {w : ℕ} → w ≡ word f section k 2 → not (eqb w 2) ≡ is_listed f section k
unfolding is_listed
listed-block f section k e {w} i = rw (eq-eqb section 6 e, i)

-- ---- `name_field`
module _ (at to end name : ℕ) (old : List ℕ) where
  pub field-large : 12288 < end - at → NamesField at to end name old (Err unbuilt.TooLarge) old
  field-large h = let t = lt-ltb tree_words (end - at) h in record { says = rw t; is = rw t }

  pub field-named : end - at ≤ 12288 → NamesField at to end name old (Ok end) (set old to name)
  field-named h = let t = le-ltb tree_words (end - at) h in record { says = rw t; is = rw t }

-- ---- `head_structure`
pub structure-headed : (at made end : ℕ) (old : List ℕ) → at + 6 ≤ length old → {w : Option ℕ} {new : List ℕ} → WroteNode old at (head_words 14 made) w new
    → HeadsStructure at made end old (Ok end) new
structure-headed at made end old h x = record { says = refl; is = rw (le-leb (at + 6) (length old) h) at x.is }

pub ruleset laws = (rules, listed-other, listed-block, field-large, field-named, structure-headed)
