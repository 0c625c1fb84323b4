-- An array made from a function of the place: the list of its values. Assumes nothing.
use mathlib.Core.List.{List, map}
use mathlib.Core.Path.{◌≡◌, subst, ◌∙◌}
use Prim.Native.Nat.{ℕ, zero, suc, ◌+◌, ◌<◌}
use native.Mathlib.Omega.{arith}
use lib.ListN.{get_or}
use Rattle.std.specs.List.{range_with_len}
use Rattle.std.specs.Fn.{Called}
use Rattle.std.specs.Array.{IsFromFnResult, IsFromFnResultFrom}
use denote.Param.Members.{Mut}
use Rattle.std.proofs.lemmas.List.FromFn.{fill_by_all}

module _ {F : Type 0} {g : Mut F (ℕ × Unit {0}) ℕ} (value : ℕ → ℕ) (f : F) (ys : List ℕ) (h : (x y : ℕ) (q : F) → Called g f (x, tt) y q → (q ≡ f) × (y ≡ value x)) where
  made_at : (i n : ℕ) → IsFromFnResultFrom g f ys i n → (k : ℕ) → k < n → get_or ys (i + k) 0 ≡ value (i + k)
  made_at i zero p k l = absurd (omega arith)
  made_at i (suc n) p zero l = let e : i + 0 ≡ i = omega arith in rw e (p.2.1 0 ∙ (h i p.1 p.0 p.3).1)
  made_at i (suc n) p (suc k) l =
      let e : i + suc k ≡ i + 1 + k = omega arith in
      rw e (made_at (i + 1) n (subst (λ (q : F). IsFromFnResultFrom g q ys (i + 1) n) (h i p.1 p.0 p.3).0 p.4) k (omega arith))

  pub made-by : (n : ℕ) → IsFromFnResult g f ys n → ys ≡ map value (range_with_len 0 n)
  made-by n i = fill_by_all value ys n 0 i.long (λ k l. let e : 0 + k ≡ k = omega arith in rw e at (made_at 0 n i.each k l))
