-- A variable's tree stands at the variable's place: laws of place.rt. Assumes nothing.
use mathlib.Core.Path.{◌≡◌, refl, ap, sym, subst, ◌∙◌}
use mathlib.Core.Bool.{Bool, true, false, ◌||◌}
use mathlib.Core.List.{List, ◌++◌}
use Prim.Native.Nat.{ℕ, zero, suc, ◌+◌, ◌*◌, ◌≤◌, ◌<◌}
use native.Mathlib.Omega.{arith}
use lib.Dec.{eqb}
use lib.ListN.{length}
use borrow.Author.Rules.{rules}
use Rattle.definition.specs.declared.records.Place.{Place}
use Rattle.definition.specs.Base.{choose}
use Rattle.definition.specs.Layout.{word, count, shapes, variables, types}
use Rattle.definition.specs.Tree.{Tree, nodes, flatten}
use Rattle.definition.specs.Ask.{Result, ok, none, large, Outcome, done, bind, ◌>>=◌, nothing}
use Rattle.definition.specs.Defaults as Defaults
use Rattle.definition.specs.Starting.{initializer, body, variable_outcome, remembered}
use Rattle.definition.specs.Places.{variable_place}
use Rattle.definition.specs.Resolve as Resolve
use Rattle.definition.specs.Resolve.{run, resolve}
use Rattle.laws.specs.Accepted.{Accepted, variable-points}
use Rattle.laws.specs.Asks.{OnOk}
use Rattle.laws.specs.Depths.{few-shapes}
use Rattle.laws.specs.Sizes.{variable-small}
use Rattle.laws.specs.Values.{Small}
use Rattle.laws.specs.Whole.{Good}
use Rattle.shapes.specs.Classes.{Classes, classes_of, classes-at}
use Rattle.tree.specs.Words.{Stand}
use Rattle.definition.specs.Ask.{result_of}
use Rattle.places.specs.Inside.{PlaceIn, variable-found}
use Rattle.memory_definition.specs.Cells.{Cell, place_or, cells, variable_cells}
use Rattle.memory_laws.specs.InWords.{cells_from}
use Rattle.memory_laws.specs.CellShapes.{variable-shaped}
use Rattle.memory_laws.specs.Placed.{PlacedAll, placed-all}
use Rattle.memory_layout.specs.Laid.{Whole}
use Rattle.memory_layout.specs.Laid as layout
use Rattle.memory.specs.Trees.{TreeIn, InWords, Few, Laid}
use Rattle.std.specs.Prelude.{None, Option, Some}

-- ---- a variable without a place has no tree
no_place : (f : List ℕ) (v : ℕ) → variable_place f v (word f variables v 3) ≡ none → variable_outcome f v ≡ none
unfolding Resolve.variable_outcome Resolve.answer run Defaults.declaration ◌>>=◌ bind nothing
no_place f v e = go (eqb (word f variables v 1) 2 || eqb (word f variables v 1) 3)
  where
    go : (b : Bool)
        → (run (resolve (body f) (count f types)) (remembered f)
        (choose b (λ u. nothing) (λ u. done (variable_place f v (word f variables v 3)) >>= initializer f (word f variables v 3)))).value ≡ none
    go true = refl
    go false = rw e

tree_or : Tree → Outcome → Tree
tree_or d (ok t) = t
tree_or d none = d
tree_or d large = d

module _ {f : List ℕ} {v : ℕ} {room : List ℕ} {many : ℕ} (h : TreeIn f v room many) where
  -- there is one tree
  only : (t : Tree) → variable_outcome f v ≡ ok t → h.tree ≡ t
  unfolding tree_or
  only t e = ap (tree_or t) (sym h.is ∙ e)

  small : Small h.tree
  small = let s : OnOk Small (ok h.tree) = subst (OnOk Small) h.is (variable-small f v) in s

  words : Accepted f → v < count f variables → {shapes : List ℕ} → 12288 ≤ length shapes
      → ((t : Tree) → variable_outcome f v ≡ ok t → cells_from room shapes 0 many ≡ variable_cells f v t) → InWords f room shapes many
  words a m {shapes} l is =
      record {
        nodes = omega (arith, h.stands.fits, h.counted);
        places = omega (arith, small.few, h.counted);
        few = omega (arith, small.few, h.counted);
        placed = record { all = subst (PlacedAll f) (sym (is h.tree h.is)) (placed-all f a (variable_cells f v h.tree) (variable-shaped f a v m h.tree)) };
      }

  pub standing : {n : ℕ} → 12288 ≤ n → Whole room 0 n
  standing l = record { tree = h.tree; end = 6 * nodes h.tree; good = small.good; stands = h.stands; fits = omega (arith, small.few) }

  module _ (a : Accepted f) (m : v < count f variables) {i : ℕ} (p : i ≡ word f variables v 3) {r : Option Place} (q : result_of r ≡ variable_place f v i) where
    pub laid : {place : Place} → r ≡ Some place → {shapes : List ℕ} → layout.Laid f room place shapes → {n : ℕ} → length shapes ≡ n → 12288 ≤ n → Laid f v room shapes many
    unfolding variable_cells
    laid {place} e {shapes} l k n = record { words = words a m (omega arith) is; cells = is }
      where
        is : (t : Tree) → variable_outcome f v ≡ ok t → cells_from room shapes 0 many ≡ variable_cells f v t
        is t o =
            let k : h.tree ≡ t = only t o in
            let s : Stand room 0 (flatten t) (6 * nodes t) = subst (λ (u : Tree). Stand room 0 (flatten u) (6 * nodes u)) k h.stands in
            let g : Good t = subst Good k small.good in
            let c : many ≡ nodes t = h.counted ∙ ap nodes k in
            let w : variable_place f v (word f variables v 3) ≡ ok place = ap (variable_place f v) (sym p) ∙ sym q ∙ ap result_of e in
            ap (cells_from room shapes 0) c ∙ l.says t (6 * nodes t) g s ∙ ap (λ (a : Result Place). cells f (place_or a) t) (sym w)

    pub laid_none : r ≡ None → {shapes : List ℕ} → 12288 ≤ length shapes → Laid f v room shapes many
    laid_none e {shapes} n = record { words = words a m n is; cells = is }
      where
        is : (t : Tree) → variable_outcome f v ≡ ok t → cells_from room shapes 0 many ≡ variable_cells f v t
        is t o =
            let w : variable_place f v (word f variables v 3) ≡ none = ap (variable_place f v) (sym p) ∙ sym q ∙ ap result_of e in
            let z : ◌≡◌ {A = Outcome} none (ok t) = sym (no_place f v w) ∙ o in
            let y : ◌≡◌ {A = ℕ} 0 1 = cc in
            absurd (omega arith)

-- ---- the cells of what is laid
cells-many : (room beside : List ℕ) (at n : ℕ) → length (cells_from room beside at n) ≡ n
unfolding cells_from
cells-many room beside at zero = refl
cells-many room beside at (suc n) = ap suc (cells-many room beside (at + 6) n)

pub few-cells : {f : List ℕ} {v : ℕ} {room shapes : List ℕ} {n : ℕ} → Laid f v room shapes n → {cs : List Cell} → cs ≡ cells_from room shapes 0 n → Few f cs
few-cells {f} {v} {room} {shapes} {n} l e =
    record { placed = subst (PlacedAll f) (sym e) l.words.placed.all; few = omega (arith, l.words.few, ap length e, cells-many room shapes 0 n) }

-- ---- what `lay_out` asks
pub classed : (f rest : List ℕ) {classes : List ℕ} → classes ≡ classes_of f ++ rest → Classes f classes
classed f rest e = subst (Classes f) (sym e) (classes-at f rest)

module _ {f : List ℕ} (a : Accepted f) {v : ℕ} (l : v < count f variables) where
  pub placed : {i : ℕ} → i ≡ word f variables v 3 → {r : Option Place} → result_of r ≡ variable_place f v i → {place : Place} → r ≡ Some place → PlaceIn f place
  placed {i} p q e =
      let w = variable-points f a v l in
      variable-found f a v i w.0 (omega (arith, w.1)) q e

pub shapes-fit : {f : List ℕ} → Accepted f → {n : ℕ} → 1024 ≤ n → count f shapes ≤ n
shapes-fit {f} a h = omega (arith, few-shapes f a)

pub ruleset placing = (rules, laid, laid_none, classed, placed, shapes-fit, standing)
