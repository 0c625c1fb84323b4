-- A property of what is chosen, from each of the cases: one lemma for each way in which the definition chooses. Assumes nothing.
use Rattle.std.specs.Prelude.{◌≡◌, refl, Bool, true, false, ◌&&◌, ◌||◌, ℕ, zero, suc}
use Rattle.std.proofs.Common.{arith}
use Rattle.definition.specs.declared.records.Shape.{Shape}
use Rattle.definition.specs.declared.records.Shape.TheVariants as shape
use Rattle.definition.specs.Base.{pick, choose, on_link}
use Rattle.definition.specs.Shapes.{on_shape}
use Rattle.definition.specs.Parts.{if_stated}

-- ---- tests
pub never : {X : Type 0} → false ≡ true → X
never e = let z : ◌≡◌ {A = ℕ} 0 1 = cc in absurd (omega arith)

pub both : (a b : Bool) → a && b ≡ true → (a ≡ true) × (b ≡ true)
both true b e = (refl, e)
both false b e = never e

pub either : {X : Type 0} (a b : Bool) → a || b ≡ true → (a ≡ true → X) → (b ≡ true → X) → X
either true b e x y = x refl
either false b e x y = y e

pub neither : (a b : Bool) → a || b ≡ false → (a ≡ false) × (b ≡ false)
neither true b e = let z : ◌≡◌ {A = ℕ} 0 1 = cc in absurd (omega arith)
neither false b e = (refl, e)

-- ---- kinds: what holds at each below n, and at every other, holds
abbrev pub Kinds : ℕ → (ℕ → Type 0) → Type 0 → Type 0
Kinds zero P R = ((k : ℕ) → P k) → R
Kinds (suc n) P R = P 0 → Kinds n (λ k. P (suc k)) R

lead : (n : ℕ) (P : ℕ → Type 0) {R S : Type 0} → (R → S) → Kinds n P R → Kinds n P S
lead zero P g c = λ h. g (c h)
lead (suc n) P g c = λ h. lead n (λ k. P (suc k)) g (c h)

pub by_kind : (n : ℕ) (P : ℕ → Type 0) → Kinds n P ((k : ℕ) → P k)
by_kind zero P = λ h. h
by_kind (suc n) P = λ h. lead n (λ k. P (suc k)) (first h) (by_kind n (λ k. P (suc k)))
  where
    first : P 0 → ((k : ℕ) → P (suc k)) → (k : ℕ) → P k
    first h r zero = h
    first h r (suc k) = r k

-- ---- choices
module _ {A : Type 0} (P : A → Type 0) where
  pub on-pick : (b : Bool) (x y : A) → (b ≡ true → P x) → (b ≡ false → P y) → P (pick b x y)
  on-pick true x y p q = p refl
  on-pick false x y p q = q refl

  pub on-choose : (b : Bool) (x y : Unit {0} → A) → (b ≡ true → P (x tt)) → (b ≡ false → P (y tt)) → P (choose b x y)
  on-choose true x y p q = p refl
  on-choose false x y p q = q refl

  pub on-link : (l : ℕ) (x : A) (g : ℕ → A) → P x → ((n : ℕ) → l ≡ suc n → P (g n)) → P (on_link l x g)
  on-link zero x g p q = p
  on-link (suc n) x g p q = q n refl

  pub on-stated : (l : ℕ) (other : Unit {0} → A) (g : ℕ → A) → P (other tt) → ((n : ℕ) → l ≡ suc n → P (g n)) → P (if_stated l other g)
  on-stated zero other g p q = p
  on-stated (suc n) other g p q = q n refl

  pub on_shape_lem : (s : Shape) (string enumeration structure : ℕ → ℕ → A) (array : ℕ → ℕ → ℕ → A) (block reference other : Unit {0} → A)
      → ((a b : ℕ) → P (string a b)) → ((a b : ℕ) → P (enumeration a b)) → ((a b : ℕ) → P (structure a b)) → ((e a b : ℕ) → P (array e a b))
      → P (block tt) → P (reference tt) → P (other tt) → P (on_shape s string enumeration structure array block reference other)
  on_shape_lem shape.Bool s e t a b r o ps pe pt pa pb pr po = po
  on_shape_lem (shape.Int bits) s e t a b r o ps pe pt pa pb pr po = po
  on_shape_lem (shape.UInt bits) s e t a b r o ps pe pt pa pb pr po = po
  on_shape_lem (shape.Real bits) s e t a b r o ps pe pt pa pb pr po = po
  on_shape_lem (shape.Bytes bits) s e t a b r o ps pe pt pa pb pr po = po
  on_shape_lem (shape.Time bits) s e t a b r o ps pe pt pa pb pr po = po
  on_shape_lem (shape.Date bits) s e t a b r o ps pe pt pa pb pr po = po
  on_shape_lem (shape.TimeOfDay bits) s e t a b r o ps pe pt pa pb pr po = po
  on_shape_lem (shape.DateAndTime bits) s e t a b r o ps pe pt pa pb pr po = po
  on_shape_lem (shape.String length width) s e t a b r o ps pe pt pa pb pr po = ps length width
  on_shape_lem (shape.Enumeration first count default underlying) s e t a b r o ps pe pt pa pb pr po = pe first count
  on_shape_lem (shape.Structure first count) s e t a b r o ps pe pt pa pb pr po = pt first count
  on_shape_lem (shape.Array element first count) s e t a b r o ps pe pt pa pb pr po = pa element first count
  on_shape_lem (shape.Subrange base low high) s e t a b r o ps pe pt pa pb pr po = po
  on_shape_lem (shape.FunctionBlock name) s e t a b r o ps pe pt pa pb pr po = pb
  on_shape_lem (shape.Interface name) s e t a b r o ps pe pt pa pb pr po = po
  on_shape_lem (shape.Reference target) s e t a b r o ps pe pt pa pb pr po = pr
  on_shape_lem shape.Unknown s e t a b r o ps pe pt pa pb pr po = po
