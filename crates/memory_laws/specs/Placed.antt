-- The shapes of places in an accepted file, and what holds of each: the bits of numbers, the base of a subrange, the sizes of forms. Assumes nothing.
use Rattle.std.specs.Prelude.{◌≡◌, refl, List, [], ◌∷◌}
use Rattle.std.proofs.Common.{sym, ◌∙◌}
use Prim.Native.Nat.{ℕ, zero, suc, ◌+◌, ◌-◌, ◌<◌}
use native.Mathlib.Omega.{arith}
use Rattle.definition.specs.declared.records.Shape.{Shape}
use Rattle.definition.specs.declared.records.Shape.TheVariants as shape
use Rattle.definition.specs.Records.{shape_at}
use Rattle.laws.specs.Accepted.{Accepted}
use Rattle.laws.specs.Pointed.{ShapePointed, shape-pointed}
use Rattle.laws.specs.Bits.{Bits, shape-bits}
use Rattle.memory_definition.specs.Cells.{Cell}
use Rattle.memory_definition.specs.Forms.{form_of}
use Rattle.memory_laws.specs.InWords.{shape_in, cells_from}
use Rattle.memory_laws.specs.Same.{SizedAs}
use Rattle.memory_laws.specs.AcceptedSizes.{Shaped, listed, string, nowhere, ShapedAll, sized-form}

pub record Placed (f : List ℕ) (s : Shape) : Type 0 where
  pub accepted : Accepted f
  pub shaped : Shaped f s

module _ {f : List ℕ} {s : Shape} (p : Placed f s) where
  pub placed-bits : Bits s
  placed-bits = go p.shaped
    where
      go : Shaped f s → Bits s
      go (listed n h e) = rw e (shape-bits f p.accepted n h)
      go (string length width e) = rw e tt
      go (nowhere e) = rw e tt

  pub placed-base : {base low high : ℕ} → s ≡ shape.Subrange base low high → Placed f (shape_at f base)
  placed-base {base} {low} {high} q = record { accepted = p.accepted; shaped = go p.shaped }
    where
      go : Shaped f s → Shaped f (shape_at f base)
      go (listed n h e) =
          let b : ShapePointed f n (shape.Subrange base low high) = rw (sym e ∙ q) at (shape-pointed f p.accepted n h) in
          listed base (omega (arith, b.0)) refl
      go (string length width e) = let z : ◌≡◌ {A = ℕ} 0 1 = cc in absurd (omega arith)
      go (nowhere e) = let z : ◌≡◌ {A = ℕ} 0 1 = cc in absurd (omega arith)

-- ---- nodes in words
abbrev pub PlacedAll : List ℕ → List Cell → Type 0
PlacedAll f [] = Unit {0}
PlacedAll f (c ∷ cs) = Placed f c.shape × PlacedAll f cs

pub placed-all : (f : List ℕ) → Accepted f → (cs : List Cell) → ShapedAll f cs → PlacedAll f cs
placed-all f a [] s = tt
placed-all f a (c ∷ cs) s = (record { accepted = a; shaped = s.0 }, placed-all f a cs s.1)

-- so many nodes from a place on
pub record PlacedIn (f tree shapes : List ℕ) (at left : ℕ) : Type 0 where
  pub all : PlacedAll f (cells_from tree shapes at left)

module _ (f tree shapes : List ℕ) (at : ℕ) where
  first-placed : (left : ℕ) → PlacedAll f (cells_from tree shapes at left) → 0 < left → Placed f (shape_in shapes at)
  unfolding cells_from
  first-placed zero p h = absurd (omega arith)
  first-placed (suc left) p h = p.0

  others-placed : (left : ℕ) → PlacedAll f (cells_from tree shapes at left) → 0 < left → PlacedAll f (cells_from tree shapes (at + 6) (left - 1))
  unfolding cells_from
  others-placed zero p h = absurd (omega arith)
  others-placed (suc left) p h = let e : suc left - 1 ≡ left = omega arith in rw e p.1

module _ {f tree shapes : List ℕ} {at left : ℕ} (p : PlacedIn f tree shapes at left) (h : 0 < left) where
  pub placed_first : Placed f (shape_in shapes at)
  placed_first = first-placed f tree shapes at left p.all h

  pub placed-next : PlacedIn f tree shapes (at + 6) (left - 1)
  placed-next = record { all = others-placed f tree shapes at left p.all h }

pub placed-form : {f : List ℕ} (c : Cell) → Placed f c.shape → SizedAs (form_of f c)
placed-form {f} c p = sized-form f p.accepted c p.shaped
