-- The shapes that the last arm of a `match` leaves to convert.rt and default.rt, told by their tags. Assumes nothing.
use mathlib.Core.List.{List, [], ◌∷◌}
use Prim.Native.Nat.{ℕ}
use types.Run.{OneOf, miss}
use denote.Enum.Declared.{tag_of}
use Rattle.definition.specs.contracts.records.Shape.{the_type}
use Rattle.definition.specs.declared.records.Shape.{Shape}
use Rattle.definition.specs.declared.records.Shape.TheVariants as shape

-- structures, arrays, function blocks, interfaces, references, and kinds that are unknown
abbrev pub no_scalars : List ℕ
no_scalars = 11 ∷ 12 ∷ 14 ∷ 15 ∷ 16 ∷ 17 ∷ []

pub no-scalar : (P : Shape → Type 0) (s : Shape) → OneOf no_scalars (tag_of the_type s)
    → ((first count : ℕ) → P (shape.Structure first count)) → ((element first count : ℕ) → P (shape.Array element first count))
    → ((name : ℕ) → P (shape.FunctionBlock name)) → ((name : ℕ) → P (shape.Interface name)) → ((target : ℕ) → P (shape.Reference target)) → P shape.Unknown → P s
no-scalar P shape.Bool h st ar fb it re un = absurd (miss no_scalars 0 tt h)
no-scalar P (shape.Int bits) h st ar fb it re un = absurd (miss no_scalars 1 tt h)
no-scalar P (shape.UInt bits) h st ar fb it re un = absurd (miss no_scalars 2 tt h)
no-scalar P (shape.Real bits) h st ar fb it re un = absurd (miss no_scalars 3 tt h)
no-scalar P (shape.Bytes bits) h st ar fb it re un = absurd (miss no_scalars 4 tt h)
no-scalar P (shape.Time bits) h st ar fb it re un = absurd (miss no_scalars 5 tt h)
no-scalar P (shape.Date bits) h st ar fb it re un = absurd (miss no_scalars 6 tt h)
no-scalar P (shape.TimeOfDay bits) h st ar fb it re un = absurd (miss no_scalars 7 tt h)
no-scalar P (shape.DateAndTime bits) h st ar fb it re un = absurd (miss no_scalars 8 tt h)
no-scalar P (shape.String length width) h st ar fb it re un = absurd (miss no_scalars 9 tt h)
no-scalar P (shape.Enumeration first count default underlying) h st ar fb it re un = absurd (miss no_scalars 10 tt h)
no-scalar P (shape.Structure first count) h st ar fb it re un = st first count
no-scalar P (shape.Array element first count) h st ar fb it re un = ar element first count
no-scalar P (shape.Subrange base low high) h st ar fb it re un = absurd (miss no_scalars 13 tt h)
no-scalar P (shape.FunctionBlock name) h st ar fb it re un = fb name
no-scalar P (shape.Interface name) h st ar fb it re un = it name
no-scalar P (shape.Reference target) h st ar fb it re un = re target
no-scalar P shape.Unknown h st ar fb it re un = un
