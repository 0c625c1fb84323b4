-- What holds for every number below a count, or for every one of a list. Assumes nothing.
use Rattle.std.proofs.Math.Path.{◌≡◌, refl}
use Rattle.std.specs.Prelude.{Bool}
use Rattle.std.proofs.Math.Bool.{true, false}
use Rattle.std.proofs.Common.{⊎_elim}
use mathlib.Core.List.Memᴰ
use mathlib.Core.List.{List, [], ◌∷◌, Memᴰ}
use Prim.Native.Nat.{ℕ, zero, suc, ◌<◌}
use native.Mathlib.Omega.{arith}
use Rattle.std.proofs.Math.Decide.{ℕ_discrete}
use Rattle.definition.specs.Base.{every}
use Rattle.laws.specs.Cases.{both}

-- ---- below a count
module _ (p : ℕ → Bool) where
  pub every_true : (n : ℕ) → every p n ≡ true → (t : ℕ) → t < n → p t ≡ true
  unfolding every
  every_true zero h t l = absurd (omega arith)
  every_true (suc n) h t l = go (ℕ_discrete t n) (every_true n (both (every p n) (p n) h).0 t)
    where
      go : Dec (t ≡ n) → (t < n → p t ≡ true) → p t ≡ true
      go (yes e) ih = rw e (both (every p n) (p n) h).1
      go (no e) ih = ih (omega (arith, e))

  pub true-every : (n : ℕ) → ((t : ℕ) → t < n → p t ≡ true) → every p n ≡ true
  unfolding every
  true-every zero h = refl
  true-every (suc n) h = rw (true-every n (λ t l. h t (omega arith))) (h n (omega arith))

  -- a test that fails, fails somewhere
  pub every-false : (n : ℕ) → every p n ≡ false → (t : ℕ) × (t < n) × (p t ≡ false)
  unfolding every
  every-false zero h = let z : ◌≡◌ {A = ℕ} 0 1 = cc in absurd (omega arith)
  every-false (suc n) h = go (every p n) refl (every-false n)
    where
      go : (b : Bool) → every p n ≡ b → (every p n ≡ false → (t : ℕ) × (t < n) × (p t ≡ false)) → (t : ℕ) × (t < suc n) × (p t ≡ false)
      go true q ih = (n, omega arith, rw q at h)
      go false q ih = let x = ih q in (x.0, omega (arith, x.1), x.2)

-- ---- of a list
abbrev pub Each : (ℕ → Type 0) → List ℕ → Type 0
Each P [] = Unit {0}
Each P (d ∷ l) = P d × Each P l

pub each_two : {P Q R : ℕ → Type 0} (f : (d : ℕ) → P d → Q d → R d) (l : List ℕ) → Each P l → Each Q l → Each R l
each_two f [] h k = tt
each_two f (d ∷ l) h k = (f d h.0 k.0, each_two f l h.1 k.1)

pub each_in : (P : ℕ → Type 0) (l : List ℕ) (d : ℕ) → Each P l → Memᴰ d l → P d
each_in P [] d h i = absurd (Memᴰ.not-nil i)
each_in P (x ∷ l) d h i = ⊎_elim (λ e. rw e h.0) (λ j. each_in P l d h.1 j) (Memᴰ.cases_cons i)
