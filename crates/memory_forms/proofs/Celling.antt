-- The nodes of a tree taken one after another from the front of their words. Assumes nothing.
use mathlib.Core.Path.{◌≡◌, refl, ap, sym, ◌∙◌}
use mathlib.Core.List.{List, [], ◌∷◌}
use Prim.Native.Nat.{ℕ, zero, suc, ◌+◌, ◌*◌, ◌/◌, ◌≤◌, ◌<◌, min}
use native.Mathlib.Omega.{arith}
use lib.ListN.{length, get_or, take, drop}
use borrow.Author.Rules.{rules}
use Rattle.std.proofs.lemmas.List.{get_or-take, get_or-drop}
use Rattle.definition.specs.declared.records.Shape.{Shape}
use Rattle.tree.specs.declared.node.Node.{Node}
use Rattle.tree.specs.Node as tree
use Rattle.memory_laws.specs.InWords.{shape_in, cell_in, cells_from}
use Rattle.memory_forms.specs.Cell.{cell_of}
use Rattle.memory_forms.specs.Cells.{cells_in}

-- ---- words at the front and words behind them
module _ (n : ℕ) (s : List ℕ) where
  front : (i : ℕ) → i < n → get_or (take n s) i 0 ≡ get_or s i 0
  front i h = get_or-take n s i 0 h

  behind : (at i : ℕ) → get_or (drop n s) (at + i) 0 ≡ get_or s (n + at + i) 0
  behind at i = let e : n + (at + i) ≡ n + at + i = omega arith in get_or-drop n s (at + i) 0 ∙ ap (λ j. get_or s j 0) e

  behind-first : (at : ℕ) → get_or (drop n s) at 0 ≡ get_or s (n + at) 0
  behind-first at = get_or-drop n s at 0

module _ (n : ℕ) (t s : List ℕ) where
  front-cell : (at : ℕ) → at + 6 ≤ n → cell_in (take n t) (take n s) at ≡ cell_in t s at
  front-cell at h =
      rw (
        front n t at (omega arith),
        front n t (at + 1) (omega arith),
        front n t (at + 2) (omega arith),
        front n t (at + 3) (omega arith),
        front n t (at + 4) (omega arith),
        front n t (at + 5) (omega arith),
        front n s at (omega arith),
        front n s (at + 1) (omega arith),
        front n s (at + 2) (omega arith),
        front n s (at + 3) (omega arith),
        front n s (at + 4) (omega arith),
      ) refl

  front-cells : (k at : ℕ) → at + k * 6 ≤ n → cells_from (take n t) (take n s) at k ≡ cells_from t s at k
  unfolding cells_from
  front-cells zero at h = refl
  front-cells (suc k) at h = rw (front-cell at (omega arith), front-cells k (at + 6) (omega arith)) refl

  behind-cell : (at : ℕ) → cell_in (drop n t) (drop n s) at ≡ cell_in t s (n + at)
  behind-cell at =
      rw (behind-first n t at, behind n t at 1, behind n t at 2, behind n t at 3, behind n t at 4, behind n t at 5, behind-first n s at, behind n s at 1, behind n s at 2, behind n s at 3, behind n s at 4) refl

  behind-cells : (k at : ℕ) → cells_from (drop n t) (drop n s) at k ≡ cells_from t s (n + at) k
  unfolding cells_from
  behind-cells zero at = refl
  behind-cells (suc k) at = let e : n + (at + 6) ≡ n + at + 6 = omega arith in rw (behind-cell at, behind-cells k (at + 6), e) refl

  behind-are : {b d : List ℕ} → b ≡ drop n t → d ≡ drop n s → (k : ℕ) → cells_from b d 0 k ≡ cells_from t s n k
  behind-are q u k = let e : n + 0 ≡ n = omega arith in rw (q, u) (behind-cells k 0 ∙ ap (λ at. cells_from t s at k) e)

-- ---- `new`
pub front-left : (t s : List ℕ) (nodes : ℕ) → nodes * 6 ≤ length t → nodes * 6 ≤ length s → {a b : List ℕ} → a ≡ take (nodes * 6) t → b ≡ take (nodes * 6) s → length a ≡ nodes * 6 → length b ≡ nodes * 6
    → cells_in a b ≡ cells_from t s 0 nodes
front-left t s nodes h l {a} {b} p q i j =
    let e : min (length a / 6) (length b / 6) ≡ nodes = omega (arith, i, j) in
    ap (cells_from a b 0) e ∙ rw (p, q) (front-cells (nodes * 6) t s nodes 0 (omega arith))

-- ---- `len`
cells-many : (t s : List ℕ) (at k : ℕ) → length (cells_from t s at k) ≡ k
unfolding cells_from
cells-many t s at zero = refl
cells-many t s at (suc k) = ap suc (cells-many t s (at + 6) k)

pub left-many : (t s : List ℕ) → min (length t) (length s) / 6 ≡ length (cells_in t s)
left-many t s = let e : min (length t) (length s) / 6 ≡ min (length t / 6) (length s / 6) = omega arith in e ∙ sym (cells-many t s 0 (min (length t / 6) (length s / 6)))

-- ---- `next`
pub none-left : (t s : List ℕ) → length t < 6 → [] ≡ cells_in t s
unfolding cells_from
none-left t s h = let e : min (length t / 6) (length s / 6) ≡ 0 = omega arith in rw e refl

pub no-shape-left : (t s : List ℕ) → length s < 6 → [] ≡ cells_in t s
unfolding cells_from
no-shape-left t s h = let e : min (length t / 6) (length s / 6) ≡ 0 = omega arith in rw e refl

pub one-left : (t s : List ℕ) {a b c d : List ℕ} → a ≡ take 6 t → b ≡ drop 6 t → length b + 6 ≡ length t → c ≡ take 6 s → d ≡ drop 6 s → length d + 6 ≡ length s
    → {sh : Shape} → sh ≡ shape_in c 0 → {n : Node} → n ≡ tree.node_of a 0 → cells_in t s ≡ cell_of sh n ∷ cells_in b d
unfolding cells_from
one-left t s {a} {b} {c} {d} p q i r u j {sh} x {n} y =
    let k : ℕ = min (length b / 6) (length d / 6) in
    let e : min (length t / 6) (length s / 6) ≡ suc k = omega (arith, i, j) in
    let head : cell_of sh n ≡ cell_in t s 0 = rw (x, y, p, r) (front-cell 6 t s 0 (omega arith)) in
    let rest : cells_from b d 0 k ≡ cells_from t s 6 k = behind-are 6 t s q u k in
    rw (e, head, rest) refl

pub ruleset celling = (rules, front-left, left-many, none-left, no-shape-left, one-left)
