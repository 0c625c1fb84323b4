-- One kind of shape apart from the others; of the kinds that hold nothing here only the one met is computed.
use Rattle.std.specs.Prelude.{Bool, true, false, ℕ}
use Rattle.definition.specs.declared.records.Shape.{Shape}
use Rattle.definition.specs.declared.records.Shape.TheVariants as shape

abbrev pub on_shape : {X : Type 0} → Shape → (ℕ → ℕ → X) → (ℕ → ℕ → X) → (ℕ → ℕ → X) → (ℕ → ℕ → ℕ → X) → (Unit {0} → X) → (Unit {0} → X) → (Unit {0} → X) → X
on_shape shape.Bool string enumeration structure array block reference other = other tt
on_shape (shape.Int bits) string enumeration structure array block reference other = other tt
on_shape (shape.UInt bits) string enumeration structure array block reference other = other tt
on_shape (shape.Real bits) string enumeration structure array block reference other = other tt
on_shape (shape.Bytes bits) string enumeration structure array block reference other = other tt
on_shape (shape.Time bits) string enumeration structure array block reference other = other tt
on_shape (shape.Date bits) string enumeration structure array block reference other = other tt
on_shape (shape.TimeOfDay bits) string enumeration structure array block reference other = other tt
on_shape (shape.DateAndTime bits) string enumeration structure array block reference other = other tt
on_shape (shape.String length width) string enumeration structure array block reference other = string length width
on_shape (shape.Enumeration first count default underlying) string enumeration structure array block reference other = enumeration first count
on_shape (shape.Structure first count) string enumeration structure array block reference other = structure first count
on_shape (shape.Array element first count) string enumeration structure array block reference other = array element first count
on_shape (shape.Subrange base low high) string enumeration structure array block reference other = other tt
on_shape (shape.FunctionBlock name) string enumeration structure array block reference other = block tt
on_shape (shape.Interface name) string enumeration structure array block reference other = other tt
on_shape (shape.Reference target) string enumeration structure array block reference other = reference tt
on_shape shape.Unknown string enumeration structure array block reference other = other tt

abbrev pub on_string : {X : Type 0} → Shape → X → (ℕ → ℕ → X) → X
on_string s x g = on_shape s g (λ a b. x) (λ a b. x) (λ e a b. x) (λ u. x) (λ u. x) (λ u. x)

abbrev pub on_enumeration : {X : Type 0} → Shape → X → (ℕ → ℕ → X) → X
on_enumeration s x g = on_shape s (λ a b. x) g (λ a b. x) (λ e a b. x) (λ u. x) (λ u. x) (λ u. x)

abbrev pub on_array : {X : Type 0} → Shape → X → (ℕ → ℕ → ℕ → X) → X
on_array s x g = on_shape s (λ a b. x) (λ a b. x) (λ a b. x) g (λ u. x) (λ u. x) (λ u. x)

abbrev pub is_reference : Shape → Bool
is_reference s = on_shape s (λ a b. false) (λ a b. false) (λ a b. false) (λ e a b. false) (λ u. false) (λ u. true) (λ u. false)
