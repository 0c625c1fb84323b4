-- Numbers, REALs and characters as bytes (document 02, Q-1: "numbers little-endian at their shape's size, Int and Time in two's complement").
use Rattle.std.specs.Prelude.{Bool, ◌&&◌, List, [], ◌∷◌, ◌++◌, ℕ, zero, suc, ◌+◌, ◌-◌, ◌*◌, ◌/◌, ◌%◌, ◌^◌, eqb, leb, length, take, drop, replicate, Float}
use Rattle.std.specs.Float.{nan, inf, fin, Format, binary32, binary64}
use Rattle.std.specs.Float.Ieee.{round, up, down, to_bits, of_bits}
use Rattle.definition.specs.declared.records.Constant.{Constant}
use Rattle.definition.specs.Base.{pick}
use Rattle.definition.specs.Records.{constant_of}
use Rattle.definition.specs.Scalar.{size_of}

-- ---- little-endian: the low byte first
unfoldable pub little_endian : ℕ → ℕ → List ℕ
little_endian zero n = []
little_endian (suc k) n = (n % 256) ∷ little_endian k (n / 256)

unfoldable pub number_from : List ℕ → ℕ
number_from [] = 0
number_from (b ∷ bs) = b + 256 * number_from bs

-- ---- two's complement (IEC 61131-3, table 10): a number below 0 stands as 2 ^ bits more
unfoldable pub complement : ℕ → Constant → ℕ
complement bits c = pick (eqb c.sign 1) (2 ^ bits - size_of c) (size_of c)

-- read: the upper half of a signed number's range is below 0
unfoldable pub is_negative : Bool → ℕ → ℕ → Bool
is_negative signed bits n = signed && leb (2 ^ (bits - 1)) n

-- a literal of a kind and a width, from its sign and its size
unfoldable pub literal : ℕ → ℕ → Bool → ℕ → Constant
literal kind width negative size = constant_of kind (pick negative 1 0) (size % 2 ^ 32) (size / 2 ^ 32) width

unfoldable pub literal_read : Bool → ℕ → ℕ → ℕ → ℕ → Constant
literal_read signed bits kind width n =
    let negative : Bool = is_negative signed bits n in
    literal kind width negative (pick negative (2 ^ bits - n) n)

-- ---- REAL: an f64's value as the nearest of binary32, ties to even (IEEE 754, 4.3.1 and 5.4.2). A value that rounds to 2 ^ 128 or more is an infinity; below 2 ^ -126
-- the values are the multiples of 2 ^ -149, so that at most 2 ^ -150 is 0; the sign stays.
unfoldable pub in_format : Format → Float → Float
in_format g nan = nan
in_format g (inf s) = inf s
in_format g (fin s m e) = round g s (m * up e) (down e)

-- the bits of an f64 as those of a binary32, and back, which is exact
unfoldable pub narrowed : ℕ → ℕ
narrowed n = to_bits binary32 (in_format binary32 (of_bits binary64 n))

unfoldable pub widened : ℕ → ℕ
widened n = to_bits binary64 (of_bits binary32 n)

-- ---- strings: "its greatest length and its length, two bytes each, then its characters, one byte each if narrow and two if wide, zero-filled"
unfoldable pub character_bytes : ℕ → ℕ
character_bytes width = pick (eqb width 0) 1 2

unfoldable pub text_bytes : ℕ → List ℕ → List ℕ
text_bytes size [] = []
text_bytes size (c ∷ cs) = little_endian size c ++ text_bytes size cs

unfoldable pub string_bytes : ℕ → ℕ → List ℕ → List ℕ
string_bytes most width cs =
    little_endian 2 most
    ++ little_endian 2 (length cs)
    ++ text_bytes (character_bytes width) cs
    ++ replicate (character_bytes width * (most - length cs)) 0

-- read: so many characters
unfoldable pub text_from : ℕ → ℕ → List ℕ → List ℕ
text_from size zero bs = []
text_from size (suc k) bs = number_from (take size bs) ∷ text_from size k (drop size bs)

unfoldable pub length_from : List ℕ → ℕ
length_from bs = number_from (take 2 (drop 2 bs))

unfoldable pub string_from : ℕ → List ℕ → List ℕ
string_from width bs = text_from (character_bytes width) (length_from bs) (drop 4 bs)

-- what this file computes with
unfoldable pub opened : Unit {0}
unfolding little_endian number_from complement is_negative literal literal_read in_format narrowed widened character_bytes text_bytes string_bytes text_from length_from string_from round to_bits of_bits
opened = tt
