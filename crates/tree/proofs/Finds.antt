-- What the functions on parts answer at each return. Assumes nothing.
use mathlib.Core.Path.{◌≡◌, refl, sym, ◌∙◌}
use mathlib.Core.Bool.{Bool, true, false}
use mathlib.Core.Logic.{◌⊎◌, ⊎_elim}
use mathlib.Core.List.{List}
use Prim.Native.Nat.{ℕ, suc, ◌+◌, ◌-◌, ◌^◌, ◌≤◌, ◌<◌}
use native.Mathlib.Omega.{arith}
use lib.Dec.{eqb, leb}
use lib.ListN.{length, get_or}
use mir.Syntax.{w64}
use mir.Val.{Fits}
use denote.Enum.Declared.{tag_of}
use borrow.Author.Rules.{rules}
use borrow.Author.Tests.{ne_eqb, eq-eqb, lt-ltb, le-ltb, leb-true}
use Rattle.std.specs.Prelude.{Option, Some, None}
use Rattle.definition.specs.Base.{pick}
use Rattle.tree.specs.declared.node.Node.{Node}
use Rattle.tree.specs.declared.part.Value.{Value}
use Rattle.tree.specs.declared.part.Value.TheVariants as value
use Rattle.tree.specs.Extent.{whole_of}
use Rattle.tree.specs.Node.{node_of, node_at}
use Rattle.tree.specs.Part.{on_end, on_structure, span, value_of, value_at, seek, find_of}
use Rattle.tree.specs.contracts.part.Value.{the_type}
use Rattle.tree.proofs.Trees.{ends-in}

-- ---- the loop of `find_from`: what is left comes to what the whole comes to
pub record Seeking (s : List ℕ) (from count name i at : ℕ) : Type 0 where
  pub same : seek s name (count - i) at ≡ seek s name count from

pub seek-first : (s : List ℕ) (from count name : ℕ) → Seeking s from count name 0 from
seek-first s from count name = let z : count - 0 ≡ count = omega arith in record { same = rw z }

pub ends_read : (s : List ℕ) (at : ℕ) {e : ℕ} {w : Option ℕ} → w ≡ whole_of s at → w ≡ Some e → at < length s
ends_read s at {e} q r = let z = ends-in s at e (sym q ∙ r) in omega (arith, z.0, z.1)

module _ {s : List ℕ} {from count name i at : ℕ} (g : Seeking s from count name i at) where
  pub seek-over : count ≤ i → None ≡ seek s name count from
  unfolding seek
  seek-over h = let z : count - i ≡ 0 = omega arith in rw z at g.same

  module _ (h : i < count) {w : Option ℕ} (q : w ≡ whole_of s at) where
    step : on_end w (λ e. pick (eqb (get_or s at 0) name) (Some (span at e)) (seek s name (count - (i + 1)) e)) None ≡ seek s name count from
    unfolding seek
    step = let n : count - i ≡ suc (count - (i + 1)) = omega arith in rw q (rw n at g.same)

    pub seek-none : w ≡ None → None ≡ seek s name count from
    seek-none r = rw r at step

    pub seek-here : {e : ℕ} → w ≡ Some e → get_or s at 0 ≡ name → Some (span at e) ≡ seek s name count from
    seek-here r i = rw (r, eq-eqb (get_or s at 0) name i) at step

    pub seek-on : {e : ℕ} → w ≡ Some e → (get_or s at 0 ≡ name → ⊥) → Seeking s from count name (i + 1) e
    seek-on r j = record { same = rw (r, ne_eqb (get_or s at 0) name j) at step }

-- ---- fields and parts
pub node_in_lem : (s : List ℕ) (at : ℕ) {n : Node} → node_at s at ≡ Some n → at + 6 ≤ length s
node_in_lem s at {n} = go (leb (at + 6) (length s)) refl
  where
    go : (b : Bool) → leb (at + 6) (length s) ≡ b → pick b (Some (node_of s at)) None ≡ Some n → at + 6 ≤ length s
    go true e q = leb-true (at + 6) (length s) e
    go false e q = cc

pub node-fits : (s : List ℕ) (at : ℕ) {w : Option Node} {n : Node} → w ≡ node_at s at → w ≡ Some n → length s < 2 ^ 64 → Fits w64 (at + 6)
node-fits s at q r h = let k = node_in_lem s at (sym q ∙ r) in record { fits = omega arith }

pub value_in_lem : (s : List ℕ) (at : ℕ) {v : Value} → value_at s at ≡ Some v → at + 6 ≤ length s
unfolding value_at
value_in_lem s at {v} = go (node_at s at) refl
  where
    go : (w : Option Node) → node_at s at ≡ w → on_end w (λ n. value_of n.value.kind n.value.low) None ≡ Some v → at + 6 ≤ length s
    go (Some n) e q = node_in_lem s at e
    go None e q = cc

pub value-fits : (s : List ℕ) (at : ℕ) {v : Option Value} {k : ℕ} → v ≡ value_at s at → v ≡ Some (value.Structure k) → length s < 2 ^ 64 → Fits w64 (at + 6)
value-fits s at q r h = let k = value_in_lem s at (sym q ∙ r) in record { fits = omega arith }

-- what `let .. else` leaves of a value that is no structure
abbrev pub NoStructure : Value → Type 0
NoStructure v = (tag_of the_type v ≡ 0) ⊎ (tag_of the_type v ≡ 1)

pub find-other : (s : List ℕ) (at name : ℕ) {v : Option Value} → v ≡ value_at s at → {x : Value} → v ≡ Some x → NoStructure x → None ≡ find_of s at name
unfolding find_of
find-other s at name q {x} i h = rw (← q, i) (go x h)
  where
    go : (w : Value) → NoStructure w → None ≡ on_structure (Some w) (λ n. seek s name n (at + 6)) None
    go value.Leaf k = refl
    go (value.Array n) k = refl
    go (value.Structure n) k = absurd (⊎_elim (λ e. omega arith) (λ e. omega arith) k)

pub ruleset finds =
    (rules, lt-ltb, le-ltb, eq-eqb, ne_eqb, seek-first, ends_read, seek-over, seek-none, seek-here, seek-on, node-fits, value-fits, find-other)
