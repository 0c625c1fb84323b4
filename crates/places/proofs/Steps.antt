-- A loop that walks a recursion with fuel: what is left comes to what the whole comes to. Assumes nothing.
use mathlib.Core.Path.{◌≡◌, ap, sym, ◌∙◌}
use Prim.Native.Nat.{ℕ, suc, ◌+◌, ◌-◌, ◌<◌, ◌≤◌}
use native.Mathlib.Omega.{arith}

-- with so much fuel left, x comes to b
pub record Comes {A B : Type 0} (g : ℕ → A → B) (left : ℕ) (x : A) (b : B) : Type 0 where
  pub same : g left x ≡ b

-- one step of fuel is there
spent : {left : ℕ} → 0 < left → left ≡ suc (left - 1)
spent l = omega arith

module _ {A B : Type 0} {g : ℕ → A → B} {left : ℕ} {x : A} {b : B} (i : Comes g left x b) where
  pub goes_on : {y : A} → 0 < left → ((k : ℕ) → g (suc k) x ≡ g k y) → Comes g (left - 1) y b
  goes_on l h = record { same = sym (h (left - 1)) ∙ sym (ap (λ n. g n x) (spent l)) ∙ i.same }

  pub stops : {r : B} → 0 < left → ((k : ℕ) → r ≡ g (suc k) x) → r ≡ b
  stops l h = h (left - 1) ∙ sym (ap (λ n. g n x) (spent l)) ∙ i.same

  pub ends : {r : B} → left ≤ 0 → r ≡ g 0 x → r ≡ b
  ends l h = let q : 0 ≡ left = omega arith in h ∙ ap (λ n. g n x) q ∙ i.same

-- the same for a loop over the steps, of which so many of n are done
pub starts_at : {A B : Type 0} (g : ℕ → A → B) (n : ℕ) (x : A) {b : B} → g n x ≡ b → Comes g (n - 0) x b
starts_at g n x e = let all : n - 0 ≡ n = omega arith in record { same = rw all e }

module _ {A B : Type 0} {g : ℕ → A → B} {n done : ℕ} {x : A} {b : B} (i : Comes g (n - done) x b) where
  pub goes_further : {y : A} → done < n → ((k : ℕ) → g (suc k) x ≡ g k y) → Comes g (n - (done + 1)) y b
  goes_further l h = let e : n - done - 1 ≡ n - (done + 1) = omega arith in rw e at (goes_on i (omega arith) h)

  pub stops_at : {r : B} → done < n → ((k : ℕ) → r ≡ g (suc k) x) → r ≡ b
  stops_at l h = stops i (omega arith) h

  pub ends_at : {r : B} → n ≤ done → r ≡ g 0 x → r ≡ b
  ends_at l h = ends i (omega arith) h
