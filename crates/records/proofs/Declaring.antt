-- How many types a `TYPE` declaration declares. Assumes nothing.
use mathlib.Core.Path.{◌≡◌, refl, ap}
use mathlib.Core.Bool.{Bool, true, false, ◌&&◌}
use mathlib.Core.List.{List}
use Prim.Native.Nat.{ℕ, ◌+◌}
use lib.Dec.{leb}
use Rattle.std.specs.Prelude.{cond}
use Rattle.std.specs.List.{count_by, range_with_len}
use Rattle.definition.specs.Base.{pick}
use Rattle.definition.specs.Records.{declaration_kind}
use Rattle.definition.specs.Places.{declared_types}
use Rattle.records.proofs.Ranging.{fold-below}

abbrev pub is_declared : List ℕ → ℕ → Bool
is_declared f t = leb 1 (declaration_kind f t) && leb (declaration_kind f t) 8

one : (b : Bool) → ◌≡◌ {A = ℕ} (pick b 1 0) (cond b 1 0)
one true = refl
one false = refl

pub declared-below : (f : List ℕ) (n : ℕ) → count_by (is_declared f) (range_with_len 0 n) ≡ declared_types f n
unfolding declared_types
declared-below f n = fold-below (λ a t. a + cond (is_declared f t) 1 0) 0 (declared_types f) refl (λ k. ap (λ (x : ℕ). declared_types f k + x) (one (is_declared f k))) n
