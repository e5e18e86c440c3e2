-- What the scope promises of these functions, for all x, and what the crates above need of them: the statements.
-- proofs/Laws.antt has the proof of each under the same name in small letters.
use Rattle.std.specs.Prelude.{◌≡◌, ℕ, suc, ◌+◌, ◌-◌, ◌*◌, ◌^◌, ◌<◌, ◌≤◌, Bool, true, false, cond, not, T, ◌⊎◌, ℤ, pos, negsuc, from_bits, is_nan, nat_lt, Float}
use Rattle.std.specs.Float.{nan, inf, fin, binary64}
use Rattle.std.specs.Float.Ieee.{up, down, lt, le, neg, sub, of_int}
use Rattle.std.specs.Float.Ieee.Exact.{HasValue}
use Rattle.laws.specs.Float.{zer, one, two, F64, is_fin, InUnit}
use Rattle.numeric.specs.Basic.{fabs_of, clamp_of, min_of, max_of, whole_of, real_of}
use Rattle.numeric.specs.Floor.{floor_of}
use Rattle.numeric.specs.Draw.{draw_of, bipolar_of}
use Rattle.numeric.specs.Power.{exp2_of, pow3000_of}
use Rattle.numeric.specs.Trig.{shift, shifted_of, rest_of, sin_of, cos_of}

-- ---- sine and cosine
-- |x| is at most 512
abbrev pub Inside : Float → Type 0
Inside x = T (le x (from_bits binary64 0x4080000000000000)) × T (le (neg (from_bits binary64 0x4080000000000000)) x)

-- what is left of x after the nearest number of right angles is taken off lies from -1 to 1
abbrev pub RestInside : Type 0
RestInside = (x : Float) → Inside x → InUnit (rest_of x (sub binary64 (shifted_of x) shift))

abbrev pub SinInside : Type 0
SinInside = (x : Float) → Inside x → InUnit (sin_of x)

abbrev pub CosInside : Type 0
CosInside = (x : Float) → Inside x → InUnit (cos_of x)

abbrev pub SinOutside : Type 0
SinOutside = (x : Float) → (Inside x → ⊥) → sin_of x ≡ nan

abbrev pub CosOutside : Type 0
CosOutside = (x : Float) → (Inside x → ⊥) → cos_of x ≡ nan

abbrev pub SinZero : Type 0
SinZero = sin_of zer ≡ zer

abbrev pub CosZero : Type 0
CosZero = cos_of zer ≡ one

-- -0.0 is a 0 too
abbrev pub SinMinusZero : Type 0
SinMinusZero = sin_of (neg zer) ≡ zer

abbrev pub CosMinusZero : Type 0
CosMinusZero = cos_of (neg zer) ≡ one

-- above 0 and up to 2 the sine has no minus sign: it is its own size
abbrev pub SinPositive : Type 0
SinPositive = (x : Float) → F64 x → T (lt zer x) → T (le x two) → fabs_of (sin_of x) ≡ sin_of x

-- ---- 2 ^ x
-- z is from -1022 to 1023
abbrev pub InRange : ℤ → Type 0
InRange (pos n) = n ≤ 1023
InRange (negsuc k) = suc k ≤ 1022

-- exact for whole x: `fin false 1 z` is 2 ^ z
abbrev pub Exp2Whole : Type 0
Exp2Whole = (z : ℤ) → InRange z → exp2_of (of_int binary64 z) ≡ fin false 1 z

-- and -0.0 is whole
abbrev pub Exp2MinusZero : Type 0
Exp2MinusZero = exp2_of (neg zer) ≡ one

-- +infinity from 1024 on
abbrev pub Exp2Above : Type 0
Exp2Above = (x : Float) → T (le (from_bits binary64 0x4090000000000000) x) → exp2_of x ≡ inf false

-- 0 below -1022
abbrev pub Exp2Below : Type 0
Exp2Below = (x : Float) → T (lt x (neg (from_bits binary64 0x408ff00000000000))) → exp2_of x ≡ zer

-- NaN of NaN
abbrev pub Exp2Nan : Type 0
Exp2Nan = exp2_of nan ≡ nan

-- and a number of a number
abbrev pub Exp2Number : Type 0
Exp2Number = (x : Float) → T (not (is_nan x)) → T (not (is_nan (exp2_of x)))

-- never with a minus sign
abbrev pub Exp2Positive : Type 0
Exp2Positive = (x : Float) → fabs_of (exp2_of x) ≡ exp2_of x

-- ---- 3000 ^ r
abbrev pub Pow3000Zero : Type 0
Pow3000Zero = pow3000_of zer ≡ one

abbrev pub Pow3000MinusZero : Type 0
Pow3000MinusZero = pow3000_of (neg zer) ≡ one

abbrev pub Pow3000One : Type 0
Pow3000One = pow3000_of one ≡ from_bits binary64 0x40a7700000000000

abbrev pub Pow3000Nan : Type 0
Pow3000Nan = pow3000_of nan ≡ nan

-- a number of a number, outside [0, 1] too
abbrev pub Pow3000Number : Type 0
Pow3000Number = (r : Float) → T (not (is_nan r)) → T (not (is_nan (pow3000_of r)))

-- where r is from 0 to 1 it isn't below 0 and is at most 65536: a coarse bound, for at 1 it is 3000
abbrev pub Pow3000Range : Type 0
Pow3000Range = (r : Float) → T (le zer r) → T (le r one) → T (le zer (pow3000_of r)) × T (le (pow3000_of r) (from_bits binary64 0x40f0000000000000))

-- ---- the draw
-- k * 2 ^ -53, nothing lost
abbrev pub DrawExact : Type 0
DrawExact = (k : ℕ) → k < 2 ^ 53 → HasValue (draw_of k) false k (2 ^ 53)

-- (2 k - 2 ^ 53) / 2 ^ 53, free of rounding: below 0 exactly where 2 k is below 2 ^ 53
abbrev pub BipolarExact : Type 0
BipolarExact = (k : ℕ) → k < 2 ^ 53
    → HasValue (bipolar_of k) (nat_lt (2 * k) (2 ^ 53)) (cond (nat_lt (2 * k) (2 ^ 53)) (2 ^ 53 - 2 * k) (2 * k - 2 ^ 53)) (2 ^ 53)

-- ---- the floor
-- v is the whole number q or -q, not above ±m * 2 ^ e and less than 1 below it
abbrev pub WholeBelow : Bool → ℕ → ℤ → Float → Type 0
WholeBelow false m e v = (q : ℕ) × HasValue v false q 1 × (q * down e ≤ m * up e) × (m * up e < (q + 1) * down e)
WholeBelow true m e v = (q : ℕ) × HasValue v true q 1 × (m * up e ≤ q * down e) × (q * down e < m * up e + down e)

-- a finite number's floor is finite, whole, not above it, and less than 1 below it
abbrev pub FloorWhole : Type 0
FloorWhole = (s : Bool) (m : ℕ) (e : ℤ) → F64 (fin s m e) → WholeBelow s m e (floor_of (fin s m e))

abbrev pub FloorFinite : Type 0
FloorFinite = (x : Float) → F64 x → T (is_fin x) → T (is_fin (floor_of x))

abbrev pub FloorBelow : Type 0
FloorBelow = (x : Float) → F64 x → T (is_fin x) → T (le (floor_of x) x)

-- x less its floor, rounded, lies in [0, 1]
abbrev pub FloorRest : Type 0
FloorRest = (x : Float) → F64 x → T (is_fin x) → T (le zer (sub binary64 x (floor_of x))) × T (le (sub binary64 x (floor_of x)) one)

-- ---- ranges of clamp, min and max
abbrev pub ClampRange : Type 0
ClampRange = (x lo hi : Float) → T (le lo hi) → T (not (is_nan x)) → T (le lo (clamp_of x lo hi)) × T (le (clamp_of x lo hi) hi)

abbrev pub ClampNan : Type 0
ClampNan = (lo hi : Float) → clamp_of nan lo hi ≡ nan

-- min and max are one of their arguments
abbrev pub MinEither : Type 0
MinEither = (a b : Float) → (min_of a b ≡ a) ⊎ (min_of a b ≡ b)

abbrev pub MaxEither : Type 0
MaxEither = (a b : Float) → (max_of a b ≡ a) ⊎ (max_of a b ≡ b)

-- not above, not below, each of them that is a number
abbrev pub MinRange : Type 0
MinRange = (a b : Float) → (T (not (is_nan a)) → T (le (min_of a b) a)) × (T (not (is_nan b)) → T (le (min_of a b) b))

abbrev pub MaxRange : Type 0
MaxRange = (a b : Float) → (T (not (is_nan a)) → T (le a (max_of a b))) × (T (not (is_nan b)) → T (le b (max_of a b)))

-- with one NaN, the other
abbrev pub MinNan : Type 0
MinNan = (x : Float) → (min_of nan x ≡ x) × (min_of x nan ≡ x)

abbrev pub MaxNan : Type 0
MaxNan = (x : Float) → (max_of nan x ≡ x) × (max_of x nan ≡ x)

-- ---- ranges of the casts
-- the cast keeps the order, and is below 2 ^ 64
abbrev pub WholeMonotone : Type 0
WholeMonotone = (x y : Float) → T (le x y) → whole_of x ≤ whole_of y

abbrev pub WholeTop : Type 0
WholeTop = (x : Float) → whole_of x < 2 ^ 64

-- a number below the whole number n is cast below n
abbrev pub WholeLess : Type 0
WholeLess = (x : Float) (n : ℕ) → n ≤ 2 ^ 53 → 0 < n → T (lt x (real_of n)) → whole_of x < n

-- there and back for a whole number up to 2 ^ 53
abbrev pub WholeReal : Type 0
WholeReal = (n : ℕ) → n ≤ 2 ^ 53 → whole_of (real_of n) ≡ n
