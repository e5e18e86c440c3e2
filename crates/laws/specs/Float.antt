-- Numbers that every crate names, the finite test, and the range from -1 to 1.
use Rattle.std.specs.Prelude.{Bool, true, false, T, Float}
use Rattle.std.specs.Float.{nan, inf, fin, binary64}
use Rattle.std.specs.Float.Ieee.{le, neg, of_bits, fits}

abbrev pub zer : Float
zer = of_bits binary64 0

abbrev pub one : Float
one = of_bits binary64 0x3ff0000000000000

abbrev pub two : Float
two = of_bits binary64 0x4000000000000000

-- x is an f64
abbrev pub F64 : Float → Type 0
F64 x = T (fits binary64 x)

-- neither an infinity nor a NaN
abbrev pub is_fin : Float → Bool
is_fin nan = false
is_fin (inf s) = false
is_fin (fin s m e) = true

-- from -1 to 1
abbrev pub InUnit : Float → Type 0
InUnit v = T (le (neg one) v) × T (le v one)
