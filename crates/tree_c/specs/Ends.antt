-- The answers of `tree` as numbers: an end, or 0 where nothing was written.
use Rattle.std.specs.Prelude.{◌≡◌, Bool, ◌&&◌, List, ℕ, ◌+◌, leb, length, drop, Result, Ok, Err}
use Rattle.std.proofs.Math.Seq.{paste}
use Rattle.definition.specs.Base.{pick}
use Rattle.tree.specs.declared.extent.Span.{Span}
use Rattle.tree_changes.specs.declared.grow.Unfit.{Unfit}
use Rattle.tree_changes.specs.Grow.{replaced_of, Splices}

abbrev pub span : ℕ → ℕ → Span
span begin end = record { begin = begin; end = end }

abbrev pub end_of : Result ℕ Unfit → ℕ
end_of (Ok e) = e
end_of (Err u) = 0

pub record ReplacedTo (old : List ℕ) (tree part fresh : Span) (r : ℕ) (new : List ℕ) : Type 0 where
  pub says : r ≡ end_of (replaced_of (length old) tree part fresh)
  pub wrote : Splices old tree part fresh (replaced_of (length old) tree part fresh) new

abbrev pub fits : List ℕ → ℕ → ℕ → List ℕ → ℕ → Bool
fits from a n old at = leb (a + n) (length from) && leb (at + n) (length old)

pub record CopiedTo (from : List ℕ) (a n : ℕ) (old : List ℕ) (at r : ℕ) (new : List ℕ) : Type 0 where
  pub says : r ≡ pick (fits from a n old at) (at + n) 0
  pub is : new ≡ pick (fits from a n old at) (paste old at (drop a from) n) old
