-- The first number of a chain of links that passes a test, as a loop over its steps finds it. Assumes nothing.
use mathlib.Core.Path.{◌≡◌, refl, sym}
use mathlib.Core.Bool.{Bool, true, false}
use Prim.Native.Nat.{ℕ, zero, suc, ◌+◌, ◌-◌, ◌<◌, ◌≤◌}
use native.Mathlib.Omega.{arith}
use Rattle.definition.specs.Base.{pick, on_link}
use Rattle.places.specs.Found.{found_up_to}
use Rattle.places.proofs.Steps.{Comes, goes_further, stops_at, ends_at}

pub on-same : {A B : ℕ → ℕ} (l : ℕ) → ((d : ℕ) → A d ≡ B d) → on_link l 0 A ≡ on_link l 0 B
on-same zero h = refl
on-same (suc d) h = h d

module _ (next : ℕ → ℕ) (test : ℕ → Bool) where
  -- what is found passes the test, and is one of those that all in the chain are
  pub found-passes : (P : ℕ → Type 0) → ((x y : ℕ) → P x → suc y ≡ next x → P y) → (k x : ℕ) → P x → {y : ℕ} → suc y ≡ found_up_to next test k x → P y × (test y ≡ true)
  unfolding found_up_to
  found-passes P g zero x h {y} e = absurd (omega (arith, e))
  found-passes P g (suc k) x h {y} e = go (test x) refl (next x) refl e (λ d q r. found-passes P g k d (g x d h q) r)
    where
      go : (b : Bool) → test x ≡ b → (l : ℕ) → next x ≡ l → suc y ≡ pick b (suc x) (on_link l 0 (found_up_to next test k))
          → ((d : ℕ) → suc d ≡ next x → suc y ≡ found_up_to next test k d → P y × (test y ≡ true)) → P y × (test y ≡ true)
      go true q l i e ih =
          let z : x ≡ y = omega (arith, e) in
          let r : P x × (test x ≡ true) = (h, q) in
          rw z at r
      go false q zero i e ih = absurd (omega (arith, e))
      go false q (suc d) i e ih = ih d (sym i) e

-- ---- a loop over such a chain, of whose steps so many of n are done
module _ (next : ℕ → ℕ) (test : ℕ → Bool) {n done x b : ℕ} (i : Comes (found_up_to next test) (n - done) x b) where
  pub chain-ends : n ≤ done → 0 ≡ b
  unfolding found_up_to
  chain-ends l = ends_at i l refl

  module _ (l : done < n) {r : Bool} (is : r ≡ test x) where
    pub chain-here : r ≡ true → suc x ≡ b
    unfolding found_up_to
    chain-here e = stops_at i l (λ k. rw (← is, e))

    module _ (e : r ≡ false) where
      pub chain-stops : 0 ≡ next x → 0 ≡ b
      unfolding found_up_to
      chain-stops z = stops_at i l (λ k. rw (← is, e, ← z))

      pub chain-next : {y : ℕ} → suc y ≡ next x → Comes (found_up_to next test) (n - (done + 1)) y b
      unfolding found_up_to
      chain-next z = goes_further i l (λ k. rw (← is, e, ← z))
