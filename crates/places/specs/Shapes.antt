-- A property of what is chosen by a shape, from each of the cases, where a case may use the shape that it is. Assumes nothing.
use Rattle.std.specs.Prelude.{◌≡◌, refl, ℕ}
use Rattle.definition.specs.declared.records.Shape.{Shape}
use Rattle.definition.specs.declared.records.Shape.TheVariants as shape
use Rattle.definition.specs.Shapes.{on_shape}

pub on-kind : {A : Type 0} (P : A → Type 0) (s : Shape) (string enumeration structure : ℕ → ℕ → A) (array : ℕ → ℕ → ℕ → A) (block reference other : Unit {0} → A)
    → ((a b : ℕ) → P (string a b)) → ((a b c d : ℕ) → s ≡ shape.Enumeration a b c d → P (enumeration a b)) → ((a b : ℕ) → s ≡ shape.Structure a b → P (structure a b))
    → ((e a b : ℕ) → s ≡ shape.Array e a b → P (array e a b)) → ((n : ℕ) → s ≡ shape.FunctionBlock n → P (block tt)) → ((n : ℕ) → s ≡ shape.Reference n → P (reference tt))
    → P (other tt) → P (on_shape s string enumeration structure array block reference other)
on-kind P shape.Bool s e t a b r o ps pe pt pa pb pr po = po
on-kind P (shape.Int bits) s e t a b r o ps pe pt pa pb pr po = po
on-kind P (shape.UInt bits) s e t a b r o ps pe pt pa pb pr po = po
on-kind P (shape.Real bits) s e t a b r o ps pe pt pa pb pr po = po
on-kind P (shape.Bytes bits) s e t a b r o ps pe pt pa pb pr po = po
on-kind P (shape.Time bits) s e t a b r o ps pe pt pa pb pr po = po
on-kind P (shape.Date bits) s e t a b r o ps pe pt pa pb pr po = po
on-kind P (shape.TimeOfDay bits) s e t a b r o ps pe pt pa pb pr po = po
on-kind P (shape.DateAndTime bits) s e t a b r o ps pe pt pa pb pr po = po
on-kind P (shape.String length width) s e t a b r o ps pe pt pa pb pr po = ps length width
on-kind P (shape.Enumeration first count default underlying) s e t a b r o ps pe pt pa pb pr po = pe first count default underlying refl
on-kind P (shape.Structure first count) s e t a b r o ps pe pt pa pb pr po = pt first count refl
on-kind P (shape.Array element first count) s e t a b r o ps pe pt pa pb pr po = pa element first count refl
on-kind P (shape.Subrange base low high) s e t a b r o ps pe pt pa pb pr po = po
on-kind P (shape.FunctionBlock name) s e t a b r o ps pe pt pa pb pr po = pb name refl
on-kind P (shape.Interface name) s e t a b r o ps pe pt pa pb pr po = po
on-kind P (shape.Reference target) s e t a b r o ps pe pt pa pb pr po = pr target refl
on-kind P shape.Unknown s e t a b r o ps pe pt pa pb pr po = po
