-- The small functions on f64, as Rust's methods of the same names have them.
-- The finite test is `is_fin` of laws; bits are lib.Ieee's `to_bits` and `of_bits`; casts its `to_unsigned` and `of_int`.
use Rattle.std.specs.Prelude.{ℕ, false, cond, pos, from_bits, is_nan, Float}
use Rattle.std.specs.Float.{nan, inf, fin, binary64}
use Rattle.std.specs.Float.Ieee.{lt, of_int, to_unsigned}

-- core::f64::consts: PI is 3.141592653589793, and TAU, a whole turn in radians, 6.283185307179586
abbrev pub pi : Float
pi = from_bits binary64 0x400921fb54442d18

abbrev pub tau : Float
tau = from_bits binary64 0x401921fb54442d18

-- the sign cleared
unfoldable pub fabs_of : Float → Float
fabs_of nan = nan
fabs_of (inf s) = inf false
fabs_of (fin s m e) = fin false m e

-- a NaN passes, and so does -0.0 between the ends
unfoldable pub clamp_of : Float → Float → Float → Float
clamp_of x lo hi = cond (lt x lo) lo (cond (lt hi x) hi x)

-- with one NaN, the other number
unfoldable pub min_of : Float → Float → Float
min_of a b = cond (lt a b) a (cond (is_nan b) a b)

unfoldable pub max_of : Float → Float → Float
max_of a b = cond (lt b a) a (cond (is_nan b) a b)

-- Rust's `x as u64`: toward zero, a NaN to 0, and the nearest end where x is out of range
abbrev pub whole_of : Float → ℕ
whole_of x = to_unsigned 64 x

-- Rust's `n as f64`: the nearest float
abbrev pub real_of : ℕ → Float
real_of n = of_int binary64 (pos n)
