-- 2 ^ x and 3000 ^ r: this project's own definitions. Each operation is rounded once.
use Rattle.std.specs.Prelude.{◌*◌, ◌%◌, false, cond, from_bits, to_bits, Float}
use Rattle.std.specs.Float.{nan, inf, binary64}
use Rattle.std.specs.Float.Ieee.{lt, le, eq, neg, add, sub, mul}
use Rattle.laws.specs.Float.{zer, one, two}

-- c0 + c1 z + .. + c5 z ^ 5, taken in pairs
unfoldable pub six_of : Float → Float → Float → Float → Float → Float → Float → Float
six_of z c0 c1 c2 c3 c4 c5 =
    let w = mul binary64 z z in
    add binary64 (add binary64 c0 (mul binary64 z c1))
    (mul binary64 w (add binary64 (add binary64 c2 (mul binary64 z c3)) (mul binary64 w (add binary64 c4 (mul binary64 z c5)))))

-- 2 ^ f for an f from -1/2 to 1/2: 1 + c1 f + .. + c11 f ^ 11, c1 = ln 2 and the others nearly the best ones.
-- The even powers and the odd ones are two sums of one shape, which a processor works out side by side.
unfoldable pub exp_part : Float → Float
exp_part f =
    let z = mul binary64 f f in
    add binary64
    (six_of z one
    (from_bits binary64 0x3fcebfbdff82c598)
    (from_bits binary64 0x3f83b2ab6fba1dda)
    (from_bits binary64 0x3f2430913096fd9f)
    (from_bits binary64 0x3eb62bfd47773353)
    (from_bits binary64 0x3e3e6063f7217bc6))
    (mul binary64 f (six_of z
    (from_bits binary64 0x3fe62e42fefa39ef)
    (from_bits binary64 0x3fac6b08d704a0c2)
    (from_bits binary64 0x3f55d87fe78a5276)
    (from_bits binary64 0x3eeffcbfc670dcd4)
    (from_bits binary64 0x3e7b524fae627834)
    (from_bits binary64 0x3dfe9d3fe3952179)))

-- 1.5 * 2 ^ 52 + 1023: a number added to it comes out rounded to a whole k, and the lowest bits of the sum are 1023 + k,
-- the exponent's field of 2 ^ k
abbrev pub biased : Float
biased = from_bits binary64 0x43380000000003ff

-- the power of two whose exponent's field stands in the lowest bits of t
unfoldable pub scale_of : Float → Float
scale_of t = from_bits binary64 (to_bits binary64 t % 4096 * 4503599627370496)

-- 2 ^ x for an x from -1022 to 1023: with k the whole number nearest to x, 2 ^ (x - k) times 2 ^ k
unfoldable pub scaled_of : Float → Float → Float
scaled_of x t = mul binary64 (exp_part (sub binary64 x (sub binary64 t biased))) (scale_of t)

unfoldable pub mid_of : Float → Float
mid_of x = scaled_of x (add binary64 x biased)

-- -1022 to below 1023; up to 1024, where k may be 1024, twice 2 ^ (x - 1); +infinity from 1024 on, 0 below -1022, NaN of NaN
unfoldable pub exp2_of : Float → Float
exp2_of x =
    cond (lt x (from_bits binary64 0x408ff80000000000))
    (cond (le (neg (from_bits binary64 0x408ff00000000000)) x) (mid_of x) zer)
    (cond (lt x (from_bits binary64 0x4090000000000000)) (mul binary64 (mid_of (sub binary64 x one)) two)
    (cond (le (from_bits binary64 0x4090000000000000) x) (inf false) nan))

-- 3000 at 1; else 2 ^ (r * 11.550746785383243), the factor being log2 3000. So it is 1 at 0, and outside [0, 1] what exp2_of gives.
unfoldable pub pow3000_of : Float → Float
pow3000_of r = cond (eq r one) (from_bits binary64 0x40a7700000000000) (exp2_of (mul binary64 r (from_bits binary64 0x402719fb7b8f3242)))
