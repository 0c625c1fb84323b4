-- The lines of types, variables and completed initializers. Assumes nothing.
use mathlib.Core.Path.{◌≡◌, refl, ap, sym, subst, ◌∙◌}
use mathlib.Core.List.{List}
use Prim.Native.Nat.{ℕ, ◌+◌, ◌*◌, ◌<◌}
use native.Mathlib.Omega.{arith}
use lib.Seq.{slice}
use borrow.Author.Rules.{rules}
use Rattle.std.specs.Prelude.{Option, Some, None, Ok, Err}
use Rattle.definition.specs.Layout.{count, types, variables}
use Rattle.definition.specs.Tree.{Tree, nodes, flatten}
use Rattle.definition.specs.Ask.{ok, none, large, Outcome}
use Rattle.definition.specs.Starting.{declaration, type_outcome, variable_outcome}
use Rattle.definition.specs.Complete.{left, completion}
use Rattle.definition.specs.Lines.{outcome_words, completed_words, type_line, variable_line, completed_line}
use Rattle.laws.specs.Sizes.{variable-small}
use Rattle.laws.specs.Whole.{flatten-length}
use Rattle.tree.specs.Words.{Stand}
use Rattle.lines.specs.declared.look.Absent.TheVariants as absent
use Rattle.lines.specs.Look.{Remembered, remembered_of}
use Rattle.build.specs.Built.{Built}
use Rattle.build.specs.Built.{index_in, Builds}
use Rattle.complete.specs.Completion.{Completing}
use Rattle.complete.proofs.Answering.{Takes, answer-takes, answer-leaves}
use Rattle.sheet_parts.specs.declared.line.Line.{Line}
use Rattle.sheet_parts.specs.Line.{value_in, ValueLies, LineLies, line_of, empty_line, remembered_line, built_line}
use Rattle.sheet_parts.specs.Resolved.{Resolved, ranked_line}
use Rattle.sheet_parts.proofs.Lining.{value_line, empty-lies, tree-lies, looks-lies, tells-lies}

-- ---- a type's line, a variable's line
pub line-of : (rank : ℕ) {line : Line} {w : Remembered} → line ≡ remembered_line rank w → {w' : Remembered} → w ≡ w' → line ≡ remembered_line rank w'
line-of rank e i = e ∙ ap (remembered_line rank) i

first-is : (rank : ℕ) (w : Remembered) → (remembered_line rank w).first ≡ rank
first-is rank (Ok tree) = refl
first-is rank (Err absent.Unknown) = refl
first-is rank (Err absent.None) = refl
first-is rank (Err absent.TooLarge) = refl

module _ {f tables store : List ℕ} (k : Resolved f tables store) where
  pub type-lies : (rank : ℕ → ℕ) (t : ℕ) → t < count f types → {line : Line} → line ≡ remembered_line (rank t) (remembered_of (index_in tables) store t) → LineLies (ranked_line f rank t) line store
  unfolding type_line
  type-lies rank t l e =
      let w = remembered_of (index_in tables) store t in
      rw e (value_line (looks-lies (rank t) w store (type_outcome f t) (k.typed t l)) (rank t) (first-is (rank t) w))

  pub variable-lies : {v : ℕ} → v < count f variables → {old new : List ℕ} {made : Built} → Builds f (index_in tables) store flatten (declaration f v) 0 old made new → {line : Line} → line ≡ built_line made
      → ValueLies (variable_line f v) line new
  unfolding variable_line
  variable-lies {v} l {old} {new} {made} b e = rw e (tells-lies made new (variable_outcome f v) (variable-small f v) (k.told v l old new made b))

-- ---- `completed_line`
-- the tree of a line whose state is 0
record TreeIn (o : Outcome) (line : Line) (room : List ℕ) : Type 0 where
  tree : Tree
  is : o ≡ ok tree
  stands : Stand room line.at (flatten tree) (line.at + line.nodes * 6)

lies-tree : (o : Outcome) (line : Line) (room : List ℕ) → ValueLies (outcome_words o) line room → line.state ≡ 0 → TreeIn o line room
unfolding outcome_words value_in
lies-tree (ok t) line room y e =
    let i = y.is in
    let n : line.nodes ≡ nodes t = cc in
    let w : slice line.at (line.at + line.nodes * 6) room ≡ flatten t = cc in
    record { tree = t; is = refl; stands = record { long = omega (arith, flatten-length t); fits = y.within.source; is = w } }
lies-tree none line room y e = let i = y.is in let z : line.state ≡ 1 = cc in absurd (omega arith)
lies-tree large line room y e = let i = y.is in let z : line.state ≡ 2 = cc in absurd (omega arith)

lies-other : (f : List ℕ) (v : ℕ) (o : Outcome) (line : Line) (room : List ℕ) → ValueLies (outcome_words o) line room → (line.state ≡ 0 → ⊥) → completion f v o ≡ left
unfolding outcome_words value_in completion
lies-other f v (ok t) line room y e = let i = y.is in let z : line.state ≡ 0 = cc in absurd (e z)
lies-other f v none line room y e = refl
lies-other f v large line room y e = refl

left-lies : (room : List ℕ) {line : Line} → line ≡ empty_line 1 0 → LineLies (completed_words left) line room
unfolding completed_words
left-lies room e = rw e (value_line (empty-lies 1 0 room) 1 refl)

module _ (f : List ℕ) (v : ℕ) {line : Line} {room : List ℕ} (y : ValueLies (variable_line f v) line room) where
  pub other-left : (line.state ≡ 0 → ⊥) → {r : Line} → r ≡ empty_line 1 0 → LineLies (completed_line f v) r room
  unfolding variable_line completed_line
  other-left e i = rw (lies-other f v (variable_outcome f v) line room y e) (left-lies room i)

  module _ (e : line.state ≡ 0) {end : ℕ} (j : end ≡ line.at + line.nodes * 6) {a : Option ℕ} {new : List ℕ} (d : Completing f v room line.at end a new) where
    there : TreeIn (variable_outcome f v) line room
    unfolding variable_line
    there = lies-tree (variable_outcome f v) line room y e

    stands : Stand room line.at (flatten there.tree) end
    stands = subst (Stand room line.at (flatten there.tree)) (sym j) there.stands

    pub completed-left : a ≡ None → {r : Line} → r ≡ empty_line 1 0 → LineLies (completed_line f v) r new
    unfolding completed_line
    completed-left i q = rw there.is (rw (answer-leaves d there.tree stands i).is (left-lies new q))

    pub completed-done : {kind : ℕ} → a ≡ Some kind → LineLies (completed_line f v) (line_of 0 kind line.nodes line.at) new
    unfolding completed_line completed_words
    completed-done {kind} i =
        let x : Takes f v there.tree kind line.at end new = answer-takes d there.tree stands i in
        let s : Stand new line.at (flatten x.tree) (line.at + line.nodes * 6) = subst (Stand new line.at (flatten x.tree)) j x.stands in
        rw there.is (rw x.is (value_line (tree-lies x.tree 0 kind line.at line.nodes new y.within.few s) 0 refl))

pub ruleset parting = (rules, line-of, variable-lies, other-left, completed-left, completed-done)
