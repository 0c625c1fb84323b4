-- A line that is there ends behind as many nodes as its count says. Assumes nothing.
use mathlib.Core.Path.{◌≡◌, refl, ap, sym}
use mathlib.Core.Bool.{Bool, true, false}
use mathlib.Core.List.{List}
use Prim.Native.Nat.{ℕ, ◌+◌, ◌-◌, ◌*◌, ◌^◌, ◌≤◌, ◌<◌}
use native.Mathlib.Omega.{arith}
use lib.Dec.{eqb, leb}
use lib.ListN.{length, get_or}
use borrow.Author.Rules.{rules}
use borrow.Author.Tests.{leb-true}
use mir.Syntax.{w64}
use mir.Val.{Fits}
use Rattle.definition.specs.Base.{pick}
use Rattle.laws.specs.Cases.{never}
use Rattle.tree.specs.Extent.{tree_of}
use Rattle.sheet_lines.specs.declared.ends.Form.{Form}
use Rattle.sheet_lines.specs.Ends.{head_words, state_at, nodes_end, head_end, line_end, lines_end, line_at}
use Rattle.sheet_lines.specs.There.{is_end, LineThere, LinesThere, NodesThere}
use Rattle.sheet_lines.proofs.Ending.{head-shape, empty-zero, tree-within, EndsAt, next-line, broken-line}
use Rattle.std.specs.Prelude.{None, Option, Some}

-- ---- nodes
-- where they end, and that they lie within the words
abbrev Behind : List ℕ → Option ℕ → ℕ → ℕ → Type 0
Behind s x p many = (x ≡ Some (p + many * 6)) × (p + many * 6 ≤ length s)

module _ (s : List ℕ) (p state many : ℕ) (empty : Bool) (h : p ≤ length s) (z : empty ≡ true → many ≡ 0) where
  tree-behind : (b : Bool) → tree_of s p many ≡ b → is_end (pick b (Some (p + many * 6)) None) ≡ true → Behind s (pick b (Some (p + many * 6)) None) p many
  tree-behind true q e = (refl, tree-within s p many q)
  tree-behind false q e = never e

  none-behind : (b : Bool) → empty ≡ b → is_end (pick b (Some p) None) ≡ true → Behind s (pick b (Some p) None) p many
  none-behind true q e =
      let n : many ≡ 0 = z q in
      let k : p ≡ p + many * 6 = omega arith in
      (ap Some k, omega arith)
  none-behind false q e = never e

  nodes-behind : is_end (nodes_end s p state many empty) ≡ true → Behind s (nodes_end s p state many empty) p many
  unfolding nodes_end
  nodes-behind e₀ = go (eqb state 0) e₀
    where
      go : (b : Bool) → is_end (pick b (pick (tree_of s p many) (Some (p + many * 6)) None) (pick empty (Some p) None)) ≡ true
          → Behind s (pick b (pick (tree_of s p many) (Some (p + many * 6)) None) (pick empty (Some p) None)) p many
      go true e = tree-behind (tree_of s p many) refl e
      go false e = none-behind empty refl e

-- ---- a line: the count is the last word of its head
pub record LineShape (form : Form) (s : List ℕ) (at : ℕ) : Type 0 where
  pub ends : line_end form s at ≡ Some (at + head_words form + get_or s (at + head_words form - 1) 0 * 6)
  pub within : at + head_words form + get_or s (at + head_words form - 1) 0 * 6 ≤ length s

shape_of : (form : Form) (s : List ℕ) (at : ℕ) → is_end (line_end form s at) ≡ true → LineShape form s at
unfolding line_end head_end
shape_of form s at e₀ = go (leb (at + head_words form) (length s)) refl e₀
  where
    go : (b : Bool) → leb (at + head_words form) (length s) ≡ b → is_end (pick b (head_end form s at) None) ≡ true → LineShape form s at
    go true q e =
        let h = leb-true (at + head_words form) (length s) q in
        let r = nodes-behind s (at + head_words form) (get_or s (at + state_at form) 0) (get_or s (at + head_words form - 1) 0) _ h (empty-zero form (get_or s (at + state_at form) 0) (get_or s (at + 1) 0) (get_or s (at + head_words form - 1) 0)) e in
        record { ends = rw q r.0; within = r.1 }
    go false q e = never e

module _ {form : Form} {s : List ℕ} {at : ℕ} (x : LineThere form s at) where
  pub there-shape : LineShape form s at
  there-shape = shape_of form s at x.there

  module _ {k : ℕ} (e : k ≡ head_words form) where
    pub there-fits : length s < 2 ^ 64 → Fits w64 (at + k)
    there-fits h = record { fits = omega (arith, there-shape.within) }

    pub there-nodes : NodesThere s (at + k)
    there-nodes = rw e (record { headed = omega (arith, (head-shape form).two); within = there-shape.within })

    pub there-ends : {r : ℕ} → r ≡ at + k + get_or s (at + k - 1) 0 * 6 → line_end form s at ≡ Some r
    there-ends i = rw (i, e) there-shape.ends

module _ {s : List ℕ} {from : ℕ} (x : NodesThere s from) where
  module _ {n : ℕ} (e : n ≡ get_or s (from - 1) 0) where
    pub nodes-fit : length s < 2 ^ 64 → Fits w64 (n * 6)
    nodes-fit h = record { fits = omega (arith, x.within) }

    pub nodes-end : length s < 2 ^ 64 → Fits w64 (from + n * 6)
    nodes-end h = record { fits = omega (arith, x.within) }

    pub nodes-is : from + n * 6 ≡ from + get_or s (from - 1) 0 * 6
    nodes-is = rw e

pub ruleset nexts = (rules, there-fits, there-nodes, there-ends, nodes-fit, nodes-end, nodes-is)

-- ---- in a loop over lines
module _ {form : Form} {s : List ℕ} {at t place : ℕ} (i : EndsAt form s at t place) where
  pub line-there : {n : ℕ} → LinesThere form s n at → t < n → LineThere form s place
  line-there {n} x l = record { there = go (line_end form s place) refl }
    where
      go : (r : Option ℕ) → line_end form s place ≡ r → is_end r ≡ true
      go (Some e) q = refl
      go None q = let z : lines_end form s n at ≡ None = sym (broken-line i (sym q) refl n l) in rw z at x.there

  pub line-next : {e : ℕ} → line_end form s place ≡ Some e → EndsAt form s at (t + 1) e
  line-next q = next-line i refl q

  pub place_is : line_at form s at t ≡ place
  unfolding line_at
  place_is = rw i.ends
