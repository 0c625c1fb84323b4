-- The widths of numbers in an accepted file: 8, 16, 32 or 64 bits. Assumes nothing.
use Rattle.std.specs.Prelude.{◌≡◌, true, ◌&&◌, List, [], ◌∷◌, ℕ, ◌<◌}
use Rattle.std.proofs.Common.{lit<}
use Rattle.definition.specs.declared.records.Shape.{Shape}
use Rattle.definition.specs.declared.records.Shape.TheVariants as shape
use Rattle.definition.specs.Base.{unused}
use Rattle.definition.specs.Layout.{word, count, shapes}
use Rattle.definition.specs.Records.{shape_of, shape_at}
use Rattle.definition.specs.Accept.{is_bits, shape_plain, plain_rules}
use Rattle.laws.specs.Cases.{both, by_kind}
use Rattle.laws.specs.Accepted.{Accepted, word-rule}

-- an integer, a bit string, a time or a date has one of these widths; a REAL's is not asked for
abbrev pub Bits : Shape → Type 0
Bits shape.Bool = Unit {0}
Bits (shape.Int bits) = is_bits bits ≡ true
Bits (shape.UInt bits) = is_bits bits ≡ true
Bits (shape.Real bits) = Unit {0}
Bits (shape.Bytes bits) = is_bits bits ≡ true
Bits (shape.Time bits) = is_bits bits ≡ true
Bits (shape.Date bits) = is_bits bits ≡ true
Bits (shape.TimeOfDay bits) = is_bits bits ≡ true
Bits (shape.DateAndTime bits) = is_bits bits ≡ true
Bits (shape.String length width) = Unit {0}
Bits (shape.Enumeration first count default underlying) = Unit {0}
Bits (shape.Structure first count) = Unit {0}
Bits (shape.Array element first count) = Unit {0}
Bits (shape.Subrange base low high) = Unit {0}
Bits (shape.FunctionBlock name) = Unit {0}
Bits (shape.Interface name) = Unit {0}
Bits (shape.Reference target) = Unit {0}
Bits shape.Unknown = Unit {0}

bits-rule : (a b c d kind : ℕ) → shape_plain kind a b c d ≡ true → Bits (shape_of kind a b c d)
unfolding shape_plain shape_of
bits-rule a b c d =
    by_kind 17 (λ k. shape_plain k a b c d ≡ true → Bits (shape_of k a b c d))
    (λ e. tt) own own (λ e. tt) own own own own own
    (λ e. tt) (λ e. tt) (λ e. tt) (λ e. tt) (λ e. tt) (λ e. tt) (λ e. tt) (λ e. tt)
    (λ k e. tt)
  where
    own : is_bits a && unused (b ∷ c ∷ d ∷ []) ≡ true → is_bits a ≡ true
    own e = (both (is_bits a) (unused (b ∷ c ∷ d ∷ [])) e).0

pub shape-bits : (f : List ℕ) → Accepted f → (n : ℕ) → n < count f shapes → Bits (shape_at f n)
unfolding plain_rules shape_at
shape-bits f a n h =
    bits-rule (word f shapes n 1) (word f shapes n 2) (word f shapes n 3) (word f shapes n 4) (word f shapes n 0) (word-rule f a shapes n (lit< tt) h)
