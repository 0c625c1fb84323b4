-- Shape classes: the number of a shape's class is the lowest shape that the Rust's `==` calls equal to it, so two shapes are equal where their classes are one
-- number. Assumes nothing.
use Rattle.std.specs.Prelude.{◌≡◌, Bool, List, ◌++◌, eqb, length, get_or}
use Rattle.std.proofs.Math.Path.{refl, sym}
use Rattle.std.proofs.Common.{◌∙◌}
use Rattle.std.proofs.Math.Bool.{true, false}
use Prim.Native.Nat.{ℕ, zero, suc, ◌≤◌, ◌<◌}
use native.Mathlib.Omega.{arith}
use Rattle.std.proofs.Math.Decide.{ℕ_discrete}
use Rattle.std.proofs.Math.Dec.{ltb}
use Rattle.std.proofs.Math.ListN.{get_or-append}
use borrow.Author.Tests.{ltb-true, ltb-false, eq-eqb, ne_eqb}
use Rattle.definition.specs.Base.{pick}
use Rattle.definition.specs.Layout.{shapes, count}
use Rattle.definition.specs.Accept.{shapes_like, same_shape}
use Rattle.laws.specs.Cases.{never}
use Rattle.laws.specs.Accepted.{Accepted}
use Rattle.laws.specs.SameShapes.{like-agree, same-is, same_self, same-third, same-swap, same_then}
use Rattle.shapes.specs.Alike.{class_in, same_in, lowest, first_like}
use Rattle.records.specs.Tables.{table_of, table-length, table_at}

unfoldable pub shape_class : List ℕ → ℕ → ℕ
shape_class f n = lowest (λ m. same_shape f m n) n

unfoldable pub classes_of : List ℕ → List ℕ
classes_of f = table_of (shape_class f) (count f shapes)

pub class-at : (f : List ℕ) (n d : ℕ) → n < count f shapes → get_or (classes_of f) n d ≡ shape_class f n
unfolding classes_of
class-at f n d h = table_at (shape_class f) (count f shapes) n d h

-- a table that holds the classes of a file's shapes at its front
pub record Classes (f classes : List ℕ) : Type 0 where
  pub at : (n : ℕ) → n < count f shapes → class_in classes n ≡ shape_class f n

pub classes-at : (f rest : List ℕ) → Classes f (classes_of f ++ rest)
unfolding classes_of
classes-at f rest =
    record {
      at = λ n h.
          let l : n < length (table_of (shape_class f) (count f shapes)) = omega (arith, table-length (shape_class f) (count f shapes)) in
          get_or-append (table_of (shape_class f) (count f shapes)) rest n n l ∙ table_at (shape_class f) (count f shapes) n n h;
    }

-- ---- the lowest that meets a test
module _ (p : ℕ → Bool) where
  lowest-found : (n : ℕ) → (lowest p n ≤ n) × (lowest p n < n → p (lowest p n) ≡ true)
  unfolding lowest
  lowest-found zero = (omega arith, λ h. absurd (omega arith))
  lowest-found (suc n) = go (ltb (lowest p n) n) (p n) refl refl (lowest-found n)
    where
      go : (b d : Bool) → ltb (lowest p n) n ≡ b → p n ≡ d → (lowest p n ≤ n) × (lowest p n < n → p (lowest p n) ≡ true)
          → (pick b (lowest p n) (pick d n (suc n)) ≤ suc n) × (pick b (lowest p n) (pick d n (suc n)) < suc n → p (pick b (lowest p n) (pick d n (suc n))) ≡ true)
      go true d q e ih = (omega (arith, ih.0), λ h. ih.1 (ltb-true (lowest p n) n q))
      go false true q e ih = (omega arith, λ h. e)
      go false false q e ih = (omega arith, λ h. absurd (omega arith))

  lowest-least : (n m : ℕ) → m < n → p m ≡ true → lowest p n ≤ m
  unfolding lowest
  lowest-least zero m h e = absurd (omega arith)
  lowest-least (suc n) m h e = go (ltb (lowest p n) n) (p n) refl refl (ℕ_discrete m n) (lowest-least n m)
    where
      go : (b d : Bool) → ltb (lowest p n) n ≡ b → p n ≡ d → Dec (m ≡ n) → (m < n → p m ≡ true → lowest p n ≤ m) → pick b (lowest p n) (pick d n (suc n)) ≤ m
      go true d q w (yes r) ih = let l = ltb-true (lowest p n) n q in omega arith
      go true d q w (no r) ih = ih (omega (arith, r)) e
      go false true q w (yes r) ih = omega arith
      go false false q w (yes r) ih = never (sym w ∙ rw r at e)
      go false d q w (no r) ih =
          let b : m < n = omega (arith, r) in
          let l = ltb-false (lowest p n) n q in
          absurd (omega (arith, ih b e))

  lowest-agree : (q : ℕ → Bool) (n : ℕ) → ((m : ℕ) → m < n → p m ≡ q m) → lowest p n ≡ lowest q n
  unfolding lowest
  lowest-agree q zero h = refl
  lowest-agree q (suc n) h = rw (lowest-agree q n (λ m l. h m (omega arith)), h n (omega arith))

-- ---- an accepted file
module _ (f : List ℕ) (a : Accepted f) where
  -- a shape's class is one of the shapes up to it, and the same as it
  class-found : (n : ℕ) → n < count f shapes → (shape_class f n ≤ n) × (same_shape f (shape_class f n) n ≡ true)
  unfolding shape_class
  class-found n h = go (ℕ_discrete (lowest (λ m. same_shape f m n) n) n) (lowest-found (λ m. same_shape f m n) n)
    where
      go : {c : ℕ} → Dec (c ≡ n) → (c ≤ n) × (c < n → same_shape f c n ≡ true) → (c ≤ n) × (same_shape f c n ≡ true)
      go (yes e) r = (r.0, rw e (same_self f a n h))
      go (no e) r = (r.0, r.1 (omega (arith, e, r.0)))

  class-least : (m n : ℕ) → m < n → same_shape f m n ≡ true → shape_class f n ≤ m
  unfolding shape_class
  class-least m n h e = lowest-least (λ m. same_shape f m n) n m h e

  class-up : (m n : ℕ) → m < count f shapes → n < count f shapes → same_shape f m n ≡ true → shape_class f m ≤ shape_class f n
  class-up m n h l e = go (ltb (shape_class f n) m) refl
    where
      go : (b : Bool) → ltb (shape_class f n) m ≡ b → shape_class f m ≤ shape_class f n
      go true q =
          let c = class-found n l in
          let k : shape_class f n < count f shapes = omega (arith, c.0) in
          class-least (shape_class f n) m (ltb-true (shape_class f n) m q) (same_then f a (shape_class f n) n m k l h c.1 (same-swap f a m n h l e))
      go false q = omega (arith, (class-found m h).0, ltb-false (shape_class f n) m q)

  pub same_class : (m n : ℕ) → m < count f shapes → n < count f shapes → same_shape f m n ≡ eqb (shape_class f m) (shape_class f n)
  same_class m n h l = go (same_shape f m n) refl
    where
      go : (b : Bool) → same_shape f m n ≡ b → b ≡ eqb (shape_class f m) (shape_class f n)
      go true q = sym (eq-eqb (shape_class f m) (shape_class f n) (let x = class-up m n h l q in let y = class-up n m l h (same-swap f a m n h l q) in omega arith))
      go false q =
          sym (ne_eqb (shape_class f m) (shape_class f n)
          (λ e. let c = class-found m h in
          let d = class-found n l in
          let k : shape_class f m < count f shapes = omega (arith, c.0) in
          let s : same_shape f (shape_class f m) n ≡ true = rw e d.1 in
          never (sym q ∙ same-third f a m n (shape_class f m) h l k (same-swap f a (shape_class f m) m k h c.1) (same-swap f a (shape_class f m) n k l s))))

  -- one class more, from those of the lower shapes
  pub next-class : (classes : List ℕ) (n : ℕ) → n < count f shapes → ((i : ℕ) → i < n → class_in classes i ≡ shape_class f i) → first_like f classes false n ≡ shape_class f n
  unfolding first_like shape_class
  next-class classes n h c =
      lowest-agree (λ m. shapes_like f (same_in classes) false m n) (λ m. same_shape f m n) n
      (λ m l. let b : m < count f shapes = omega arith in
      like-agree f a (same_in classes) (same_shape f) m n b h
      (λ i j u v. rw (c i (omega arith), c j v) (sym (same_class i j (omega arith) (omega arith)))) ∙ sym (same-is f a m n b h))

  -- the classes of a file decide
  pub by-class : {classes : List ℕ} → Classes f classes → (m n : ℕ) → m < count f shapes → n < count f shapes → same_shape f m n ≡ same_in classes m n
  by-class c m n h l = rw (c.at m h, c.at n l) (same_class m n h l)
