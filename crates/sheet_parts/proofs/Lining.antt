-- A line's words, and the lines of outcomes. Assumes nothing.
use mathlib.Core.Path.{◌≡◌, refl, ap, sym, subst, ◌∙◌}
use mathlib.Core.List.{List, [], ◌∷◌}
use Prim.Native.Nat.{ℕ, ◌+◌, ◌-◌, ◌*◌, ◌/◌, ◌≤◌}
use native.Mathlib.Omega.{arith}
use lib.ListN.{length, take, drop}
use lib.Seq.{slice, length-slice}
use borrow.Author.Rules.{rules}
use Rattle.std.specs.Prelude.{Ok, Err}
use Rattle.definition.specs.Tree as trees
use Rattle.definition.specs.Ask.{ok, none, large, Outcome}
use Rattle.definition.specs.Resolve.{known}
use Rattle.definition.specs.Lines.{outcome_words}
use Rattle.laws.specs.Asks.{OnOk}
use Rattle.laws.specs.Values.{Small}
use Rattle.laws.specs.Whole.{flatten-length}
use Rattle.tree.specs.Words.{Stand}
use Rattle.tree.proofs.Stands.{take-drop}
use Rattle.lines.specs.declared.look.Tree.{Tree}
use Rattle.lines.specs.declared.look.Absent.TheVariants as absent
use Rattle.lines.specs.Look.{Remembered}
use Rattle.lines.specs.Memory.{Looks}
use Rattle.build.specs.Built.{Built}
use Rattle.build.specs.declared.built.Unbuilt.{Unbuilt}
use Rattle.build.specs.declared.built.Unbuilt.TheVariants as unbuilt
use Rattle.driver.specs.Told.{Tells}
use Rattle.sheet_parts.specs.declared.line.Line.{Line}
use Rattle.laws.specs.Puts.{Puts, puts-long, puts_then}
use Rattle.sheet_parts.specs.Line.{value_in, line_in, Within, LineFits, ValueLies, LineLies, line_of, empty_line, remembered_line, built_line}

-- ---- `remembered_line` and `built_line`
module _ (rank : ℕ) {w : Remembered} {l : Line} where
  pub line-unknown : w ≡ Err absent.Unknown → l ≡ empty_line rank 1 → l ≡ remembered_line rank w
  line-unknown e i = i ∙ ap (remembered_line rank) (sym e)

  pub line-none : w ≡ Err absent.None → l ≡ empty_line rank 1 → l ≡ remembered_line rank w
  line-none e i = i ∙ ap (remembered_line rank) (sym e)

  pub line-large : w ≡ Err absent.TooLarge → l ≡ empty_line rank 2 → l ≡ remembered_line rank w
  line-large e i = i ∙ ap (remembered_line rank) (sym e)

pub line-tree : {w : Remembered} (rank : ℕ) {tree : Tree} → w ≡ Ok tree → line_of rank 0 tree.nodes tree.at ≡ remembered_line rank w
line-tree rank e = ap (remembered_line rank) (sym e)

module _ {w : Built} {l : Line} {u : Unbuilt} (q : w ≡ Err u) where
  pub built-none : u ≡ unbuilt.None → l ≡ empty_line 0 1 → l ≡ built_line w
  built-none e i = let k : w ≡ Err unbuilt.None = cc in i ∙ ap built_line (sym k)

  pub built-large : u ≡ unbuilt.TooLarge → l ≡ empty_line 0 2 → l ≡ built_line w
  built-large e i = let k : w ≡ Err unbuilt.TooLarge = cc in i ∙ ap built_line (sym k)

  pub built-wanted : {d : ℕ} → u ≡ unbuilt.Wanted d → l ≡ empty_line 0 1 → l ≡ built_line w
  built-wanted {d} e i = let k : w ≡ Err (unbuilt.Wanted d) = cc in i ∙ ap built_line (sym k)

pub built-ends : {w : Built} {e : ℕ} → w ≡ Ok e → line_of 0 0 (e / 6) 0 ≡ built_line w
built-ends e = ap built_line (sym e)

-- ---- `put_value` and `put_line`
abbrev nodes_of : Line → List ℕ → List ℕ
nodes_of line from = take (line.at + line.nodes * 6 - line.at) (drop line.at from)

nodes-are : (line : Line) (from : List ℕ) → nodes_of line from ≡ slice line.at (line.at + line.nodes * 6) from
nodes-are line from =
    let n : line.at + (line.at + line.nodes * 6 - line.at) ≡ line.at + line.nodes * 6 = omega arith in
    take-drop line.at (line.at + line.nodes * 6 - line.at) from ∙ ap (λ (k : ℕ). slice line.at k from) n

pub value-put : (line : Line) (from : List ℕ) {old one two new : List ℕ} {at b c r : ℕ} → Puts (line.state ∷ []) old at b one → Puts (line.nodes ∷ []) one b c two
    → Puts (nodes_of line from) two c r new → Puts (value_in line from) old at r new
unfolding value_in
value-put line from {old} {one} {two} {new} {at} {b} {c} {r} p q s = puts_then (puts_then p q) (subst (λ (l : List ℕ). Puts l two c r new) (nodes-are line from) s)

module _ {line : Line} (from : List ℕ) {at out : ℕ} (h : LineFits line (length from) at out) where
  pub nodes-inside : line.at + line.nodes * 6 ≤ length from
  nodes-inside = h.within.source

  pub nodes-room : {old one two : List ℕ} {b c : ℕ} → out ≡ length old → Puts (line.state ∷ []) old at b one → Puts (line.nodes ∷ []) one b c two → c + length (nodes_of line from) ≤ length two
  nodes-room e p q =
      omega (arith, ap length (nodes-are line from), length-slice line.at (line.at + line.nodes * 6) from h.within.source, h.target, e, p.ends, q.ends, puts-long p, puts-long q)

pub first_fits : {line : Line} {from at : ℕ} {old : List ℕ} → LineFits line from (at + 1) (length old) → {w : ℕ} {mid : List ℕ} {b : ℕ} → Puts (w ∷ []) old at b mid → LineFits line from b (length mid)
first_fits {line} {from} {at} {old} h {w} {mid} {b} p = let k : b ≡ at + 1 = p.ends in rw (k, puts-long p) h

pub line-put : (line : Line) (from : List ℕ) {old mid new : List ℕ} {at b r : ℕ} → Puts (line.first ∷ []) old at b mid → Puts (value_in line from) mid b r new → Puts (line_in line from) old at r new
unfolding line_in
line-put line from p q = puts_then p q

pub ruleset lining = (rules, line-unknown, line-none, line-large, line-tree, built-ends, built-none, built-large, built-wanted, value-put, nodes-inside, nodes-room, first_fits, line-put)

-- ---- how long a line is, and what is put
value-words : (line : Line) (from : List ℕ) → Within line (length from) → length (value_in line from) ≡ 2 + line.nodes * 6
unfolding value_in
value-words line from h = omega (arith, length-slice line.at (line.at + line.nodes * 6) from h.source)

module _ {ws : List ℕ} {line : Line} {from : List ℕ} (y : ValueLies ws line from) where
  pub value-few : line.nodes ≤ 2048
  value-few = y.within.few

  pub value-long : length ws ≡ 2 + line.nodes * 6
  value-long = ap length (sym y.is) ∙ value-words line from y.within

  pub value-fits : (at out : ℕ) → at + length ws ≤ out → LineFits line (length from) at out
  value-fits at out h = record { within = y.within; target = omega (arith, value-long) }

  pub value-puts : {old new : List ℕ} {at r : ℕ} → Puts (value_in line from) old at r new → Puts ws old at r new
  value-puts {old} {new} {at} {r} p = subst (λ (l : List ℕ). Puts l old at r new) y.is p

  pub value_line : (first : ℕ) → line.first ≡ first → LineLies (first ∷ ws) line from
  unfolding line_in
  value_line first e = record { is = ap (λ (k : ℕ). k ∷ value_in line from) e ∙ ap (λ (l : List ℕ). first ∷ l) y.is; within = y.within }

module _ {ws : List ℕ} {line : Line} {from : List ℕ} (y : LineLies ws line from) where
  pub line-few : line.nodes ≤ 2048
  line-few = y.within.few

  pub line-long : length ws ≡ 3 + line.nodes * 6
  unfolding line_in
  line-long = ap length (sym y.is) ∙ omega (arith, value-words line from y.within)

  pub line-fits : (at out : ℕ) → at + length ws ≤ out → LineFits line (length from) (at + 1) out
  line-fits at out h = record { within = y.within; target = omega (arith, line-long) }

  pub line-puts : {old new : List ℕ} {at r : ℕ} → Puts (line_in line from) old at r new → Puts ws old at r new
  line-puts {old} {new} {at} {r} p = subst (λ (l : List ℕ). Puts l old at r new) y.is p

-- ---- an outcome's line
pub empty-lies : (first state : ℕ) (from : List ℕ) → ValueLies (state ∷ 0 ∷ []) (empty_line first state) from
unfolding value_in
empty-lies first state from = record { is = refl; within = record { source = omega arith; few = omega arith } }

pub tree-lies : (t : trees.Tree) (first state at n : ℕ) (from : List ℕ) → n ≤ 2048 → Stand from at (trees.flatten t) (at + n * 6)
    → ValueLies (state ∷ trees.nodes t ∷ trees.flatten t) (line_of first state n at) from
unfolding value_in
tree-lies t first state at n from s y =
    let e : n ≡ trees.nodes t = omega (arith, y.long, flatten-length t) in
    record {
      is = ap (λ (l : List ℕ). state ∷ n ∷ l) y.is ∙ ap (λ (k : ℕ). state ∷ k ∷ trees.flatten t) e;
      within = record { source = y.fits; few = s };
    }

-- a remembered outcome
pub looks-lies : (rank : ℕ) (w : Remembered) (from : List ℕ) (o : Outcome) → Looks w from (known o) → ValueLies (outcome_words o) (remembered_line rank w) from
unfolding outcome_words
looks-lies rank (Err absent.Unknown) from o h = let z : ◌≡◌ {A = ℕ} 0 1 = cc in absurd (omega arith)
looks-lies rank (Err absent.None) from o h = let e : o ≡ none = cc in rw e (empty-lies rank 1 from)
looks-lies rank (Err absent.TooLarge) from o h = let e : o ≡ large = cc in rw e (empty-lies rank 2 from)
looks-lies rank (Ok w) from o h =
    let i = h.is in
    let e : o ≡ ok h.tree = cc in
    rw e (tree-lies h.tree rank 0 w.at w.nodes from (omega (arith, h.count, h.small.few)) h.stands)

-- a built outcome
pub tells-lies : (w : Built) (room : List ℕ) (o : Outcome) → OnOk Small o → Tells o w room → ValueLies (outcome_words o) (built_line w) room
unfolding outcome_words
tells-lies w room (ok t) s h =
    let k : 0 + length (trees.flatten t) ≡ 0 + trees.nodes t * 6 = omega (arith, flatten-length t) in
    let j : (0 + length (trees.flatten t)) / 6 ≡ trees.nodes t = omega (arith, flatten-length t) in
    let y : Stand room 0 (trees.flatten t) (0 + trees.nodes t * 6) = subst (λ (e : ℕ). Stand room 0 (trees.flatten t) e) k h.gives.stands in
    rw h.gives.says (rw j (tree-lies t 0 0 0 (trees.nodes t) room (omega (arith, s.few)) y))
tells-lies w room none s h = rw h.gives.says (empty-lies 0 1 room)
tells-lies w room large s h = rw h.gives.says (empty-lies 0 2 room)
