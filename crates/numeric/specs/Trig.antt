-- Sine and cosine of radians, |x| at most 512: this project's own definitions. Each operation is rounded once.
use Rattle.std.specs.Prelude.{ℕ, ◌+◌, ◌%◌, Bool, false, cond, ◌==◌, from_bits, to_bits, Float}
use Rattle.std.specs.Float.{nan, binary64}
use Rattle.std.specs.Float.Ieee.{le, neg, add, sub, mul}
use Rattle.laws.specs.Float.{one}

-- c1 - c2 z + c3 z ^ 2 - .. + c7 z ^ 6, taken in pairs
unfoldable pub pairs_of : Float → Float → Float → Float → Float → Float → Float → Float → Float
pairs_of z c1 c2 c3 c4 c5 c6 c7 =
    let w = mul binary64 z z in
    add binary64 (sub binary64 c1 (mul binary64 z c2))
    (mul binary64 w (add binary64 (sub binary64 c3 (mul binary64 z c4))
    (mul binary64 w (add binary64 (sub binary64 c5 (mul binary64 z c6))
    (mul binary64 w c7)))))

-- r - r ^ 3 / 3! + .. - r ^ 15 / 15!, the coefficients 1/3!, 1/5!, .., 1/15! each the nearest float
unfoldable pub kernel_sin : Float → Float
kernel_sin r =
    let z = mul binary64 r r in
    sub binary64 r (mul binary64 r (mul binary64 z (pairs_of z
    (from_bits binary64 0x3fc5555555555555)
    (from_bits binary64 0x3f81111111111111)
    (from_bits binary64 0x3f2a01a01a01a01a)
    (from_bits binary64 0x3ec71de3a556c734)
    (from_bits binary64 0x3e5ae64567f544e4)
    (from_bits binary64 0x3de6124613a86d09)
    (from_bits binary64 0x3d6ae7f3e733b81f))))

-- 1 - r ^ 2 / 2! + .. - r ^ 14 / 14!, the coefficients 1/2!, 1/4!, .., 1/14! each the nearest float
unfoldable pub kernel_cos : Float → Float
kernel_cos r =
    let z = mul binary64 r r in
    sub binary64 one (mul binary64 z (pairs_of z
    (from_bits binary64 0x3fe0000000000000)
    (from_bits binary64 0x3fa5555555555555)
    (from_bits binary64 0x3f56c16c16c16c17)
    (from_bits binary64 0x3efa01a01a01a01a)
    (from_bits binary64 0x3e927e4fb7789f5c)
    (from_bits binary64 0x3e21eed8eff8d898)
    (from_bits binary64 0x3da93974a8c07c9d)))

-- |x| is at most 0.7853981633974483: no right angle is taken off
unfoldable pub is_near : Float → Bool
is_near x = cond (le x (from_bits binary64 0x3fe921fb54442d18)) (le (neg (from_bits binary64 0x3fe921fb54442d18)) x) false

-- 1.5 * 2 ^ 52: a number added to it comes out rounded to a whole k, and the lowest bits of the sum are those of k
abbrev pub shift : Float
shift = from_bits binary64 0x4338000000000000

-- x in right angles (x times 2 / pi), on top of the shift
unfoldable pub shifted_of : Float → Float
shifted_of x = add binary64 (mul binary64 x (from_bits binary64 0x3fe45f306dc9c883)) shift

-- x less k right angles, a right angle in two parts: 40 leading bits of pi / 2, so that k times them is exact, and the rest
unfoldable pub rest_of : Float → Float → Float
rest_of x k = sub binary64 (sub binary64 x (mul binary64 k (from_bits binary64 0x3ff921fb54442000))) (mul binary64 k (from_bits binary64 0x3d6a308d313198a3))

-- the sine of r and q right angles
unfoldable pub quadrant : ℕ → Float → Float
quadrant q r = cond (q == 0) (kernel_sin r) (cond (q == 1) (kernel_cos r) (cond (q == 2) (neg (kernel_sin r)) (neg (kernel_cos r))))

-- the sine of x and `ahead` right angles
unfoldable pub turned_of : ℕ → Float → Float
turned_of ahead x = quadrant ((to_bits binary64 (shifted_of x) % 4 + ahead) % 4) (rest_of x (sub binary64 (shifted_of x) shift))

unfoldable pub far_of : ℕ → Float → Float
far_of ahead x = cond (le x (from_bits binary64 0x4080000000000000)) (cond (le (neg (from_bits binary64 0x4080000000000000)) x) (turned_of ahead x) nan) nan

unfoldable pub sin_of : Float → Float
sin_of x = cond (is_near x) (kernel_sin x) (far_of 0 x)

unfoldable pub cos_of : Float → Float
cos_of x = cond (is_near x) (kernel_cos x) (far_of 1 x)
