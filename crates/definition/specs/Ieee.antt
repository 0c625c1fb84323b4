-- An integer as a REAL or an LREAL: rounded once to the nearest value of the format, ties to even (IEEE 754, 4.3.1; document 01, "Rules easily lost").
use Rattle.std.specs.Prelude.{Bool, ℕ, eqb}
use Rattle.std.specs.Float.{Format, binary32, binary64}
use Rattle.std.specs.Float.Ieee.{round, to_bits}
use Rattle.definition.specs.Base.{pick}

-- LREAL has 64 bits; any other Real is a REAL
unfoldable pub format_of : ℕ → Format
format_of bits = pick (eqb bits 64) binary64 binary32

-- the bits of the f64 that is the rounded value
unfoldable pub rounded : ℕ → Bool → ℕ → ℕ
rounded bits negative size = to_bits binary64 (round (format_of bits) negative size 1)

-- what this file computes with
unfoldable pub opened : Unit {0}
unfolding round to_bits format_of rounded
opened = tt
