-- Sine and cosine: their values at 0, NaN beyond 512, and from -1 to 1 up to there.
-- The range needs no word on errors: each pair of terms is from 0 to a half of the pair before it, and rounding keeps that.
use Rattle.std.proofs.Common.{◌≡◌, ℕ, ◌≤◌, Bool, true, false, cond, not, ◌&&◌, T, eqb, refl, lit<, lit≤}
use lib.Ieee.{Float, add, binary64, eq, le, lt, mul, nan, neg, of_bits, sub}
use lib.Ieee.Bits.{is_true}
use lib.Ieee.Fits.{and_l, and_r}
use Rattle.laws.proofs.Interval.{Part, Sized, between_of, in_part, is_between, neg_unit, part_add, part_mul, part_mul'}
use Rattle.laws.proofs.Interval.{part_of, part_sized, part_square, part_sub, sized_mul, unit_sub, unit_within}
use Rattle.laws.proofs.Order.{float_le_trans}
use Rattle.laws.specs.Float.{InUnit, one}
use Rattle.numeric.proofs.RestLaws.{rest_inside}
use Rattle.numeric.specs.Promises.{CosInside, CosMinusZero, CosOutside, CosZero, Inside, SinInside, SinMinusZero, SinOutside, SinZero}
use Rattle.numeric.specs.Trig.{cos_of, far_of, is_near, kernel_cos, kernel_sin, pairs_of, quadrant, rest_of, shift, shifted_of, sin_of, turned_of}

pub sin_zero : SinZero
unfolding sin_of is_near kernel_sin pairs_of of_bits add sub mul le lt eq neg
sin_zero = refl

pub cos_zero : CosZero
unfolding cos_of is_near kernel_cos pairs_of of_bits add sub mul le lt eq neg
cos_zero = refl

pub sin_minus_zero : SinMinusZero
unfolding sin_of is_near kernel_sin pairs_of of_bits add sub mul le lt eq neg
sin_minus_zero = refl

pub cos_minus_zero : CosMinusZero
unfolding cos_of is_near kernel_cos pairs_of of_bits add sub mul le lt eq neg
cos_minus_zero = refl

abbrev high : Float
high = of_bits binary64 0x4080000000000000

abbrev quarter : Float
quarter = of_bits binary64 0x3fe921fb54442d18

-- ---- outside it is NaN
-- what is at most 0.785.. is at most 1 and 512
quarter_one : T (le quarter one) × T (le (neg one) (neg quarter))
unfolding le lt eq neg of_bits
quarter_one = (tt, tt)

quarter_high : T (le quarter high) × T (le (neg high) (neg quarter))
unfolding le lt eq neg of_bits
quarter_high = (tt, tt)

near_below : (x : Float) → T (le x quarter) → T (le x high)
near_below x h = float_le_trans x quarter high h quarter_high.0

near_above : (x : Float) → T (le (neg quarter) x) → T (le (neg high) x)
near_above x h = float_le_trans (neg high) (neg quarter) x quarter_high.1 h

not_near : (x : Float) → T (not (le x high && le (neg high) x)) → is_near x ≡ false
unfolding is_near
not_near x h = go (le x quarter) (le (neg quarter) x) (le x high) (le (neg high) x) (near_below x) (near_above x) h
  where
    go : (a b c d : Bool) → (T a → T c) → (T b → T d) → T (not (c && d)) → cond a b false ≡ false
    go true true true true f g h = absurd h
    go true true true false f g h = absurd (g tt)
    go true true false d f g h = absurd (f tt)
    go true false c d f g h = refl
    go false b c d f g h = refl

far_outside : (a : ℕ) (x : Float) → T (not (le x high && le (neg high) x)) → far_of a x ≡ nan
unfolding far_of
far_outside a x h = go (le x high) (le (neg high) x) h
  where
    go : (c d : Bool) → T (not (c && d)) → cond c (cond d (turned_of a x) nan) nan ≡ nan
    go true true h = absurd h
    go true false h = refl
    go false d h = refl

out_of : (a b : Bool) → (T a × T b → ⊥) → T (not (a && b))
out_of true true h = h (tt, tt)
out_of true false h = tt
out_of false b h = tt

pub sin_outside : SinOutside
unfolding sin_of
sin_outside x h = let o = out_of (le x high) (le (neg high) x) h in simp (not_near x o, far_outside 0 x o)

pub cos_outside : CosOutside
unfolding cos_of
cos_outside x h = let o = out_of (le x high) (le (neg high) x) h in simp (not_near x o, far_outside 1 x o)

-- ---- the kernels lie from -1 to 1 where |r| is at most 1
-- the coefficients fall: c1 is at most 1/2, c3 1/4, c5 and c7 1/8, and each other is below the one before it, with a power of two between them
abbrev falls : ℕ → ℕ → ℕ → Float → Float → Float → Float → Float → Float → Float → Bool
falls j1 j3 j5 c1 c2 c3 c4 c5 c6 c7 =
    (is_between j1 1 c1 && in_part j1 c2) && ((is_between j3 2 c3 && in_part j3 c4) && ((is_between j5 3 c5 && in_part j5 c6) && in_part 3 c7))

pairs_part : (j1 j3 j5 : ℕ) (z c1 c2 c3 c4 c5 c6 c7 : Float) → Part 0 z → j1 ≤ 1074 → j3 ≤ 1074 → j5 ≤ 1074 → T (falls j1 j3 j5 c1 c2 c3 c4 c5 c6 c7)
    → Part 0 (pairs_of z c1 c2 c3 c4 c5 c6 c7)
unfolding pairs_of
pairs_part j1 j3 j5 z c1 c2 c3 c4 c5 c6 c7 Z l1 l3 l5 f =
    let w = mul binary64 z z in
    let W : Part 0 w = part_mul 0 z z (lit≤ tt) Z Z in
    let f3 = and_r (is_between j1 1 c1 && in_part j1 c2) ((is_between j3 2 c3 && in_part j3 c4) && ((is_between j5 3 c5 && in_part j5 c6) && in_part 3 c7)) f in
    let f5 = and_r (is_between j3 2 c3 && in_part j3 c4) ((is_between j5 3 c5 && in_part j5 c6) && in_part 3 c7) f3 in
    let a = pair j5 3 c5 c6 (lit≤ tt) l5 (and_l (is_between j5 3 c5 && in_part j5 c6) (in_part 3 c7) f5) in
    let b = part_add 2 (sub binary64 c5 (mul binary64 z c6)) (mul binary64 w c7) (lit≤ tt) a
    (part_mul' 3 w c7 (lit≤ tt) W (part_of 3 c7 (and_r (is_between j5 3 c5 && in_part j5 c6) (in_part 3 c7) f5))) in
    let c = pair j3 2 c3 c4 (lit≤ tt) l3 (and_l (is_between j3 2 c3 && in_part j3 c4) ((is_between j5 3 c5 && in_part j5 c6) && in_part 3 c7) f3) in
    let d = part_add 1 (sub binary64 c3 (mul binary64 z c4)) (mul binary64 w _) (lit≤ tt) c (part_mul' 2 w _ (lit≤ tt) W b) in
    let e = pair j1 1 c1 c2 (lit≤ tt) l1
    (and_l (is_between j1 1 c1 && in_part j1 c2) ((is_between j3 2 c3 && in_part j3 c4) && ((is_between j5 3 c5 && in_part j5 c6) && in_part 3 c7)) f) in
    part_add 0 (sub binary64 c1 (mul binary64 z c2)) (mul binary64 w _) (lit≤ tt) e (part_mul' 1 w _ (lit≤ tt) W d)
  where
    pair : (j i : ℕ) (c d : Float) → i ≤ 1074 → j ≤ 1074 → T (is_between j i c && in_part j d) → Part i (sub binary64 c (mul binary64 z d))
    pair j i c d I J t = part_sub j i c (mul binary64 z d) I (between_of j i c (and_l (is_between j i c) (in_part j d) t))
        (part_mul' j z d J Z (part_of j d (and_r (is_between j i c) (in_part j d) t)))

pub sin_pairs : (z : Float) → Part 0 z
    → Part 0 (pairs_of z (of_bits binary64 0x3fc5555555555555) (of_bits binary64 0x3f81111111111111) (of_bits binary64 0x3f2a01a01a01a01a)
    (of_bits binary64 0x3ec71de3a556c734) (of_bits binary64 0x3e5ae64567f544e4) (of_bits binary64 0x3de6124613a86d09) (of_bits binary64 0x3d6ae7f3e733b81f))
unfolding of_bits
sin_pairs z Z = pairs_part 3 13 26 z _ _ _ _ _ _ _ Z (lit≤ tt) (lit≤ tt) (lit≤ tt) tt

pub cos_pairs : (z : Float) → Part 0 z
    → Part 0 (pairs_of z (of_bits binary64 0x3fe0000000000000) (of_bits binary64 0x3fa5555555555555) (of_bits binary64 0x3f56c16c16c16c17)
    (of_bits binary64 0x3efa01a01a01a01a) (of_bits binary64 0x3e927e4fb7789f5c) (of_bits binary64 0x3e21eed8eff8d898) (of_bits binary64 0x3da93974a8c07c9d))
unfolding of_bits
cos_pairs z Z = pairs_part 1 10 22 z _ _ _ _ _ _ _ Z (lit≤ tt) (lit≤ tt) (lit≤ tt) tt

sin_unit : (s : Bool) (r : Float) → Sized s 0 r → InUnit (kernel_sin r)
unfolding kernel_sin
sin_unit s r p =
    let Z : Part 0 (mul binary64 r r) = part_square s r p in
    unit_sub s r _ p (sized_mul s 0 r _ (lit≤ tt) p (part_mul 0 (mul binary64 r r) _ (lit≤ tt) Z (sin_pairs (mul binary64 r r) Z)))

cos_unit : (s : Bool) (r : Float) → Sized s 0 r → InUnit (kernel_cos r)
unfolding kernel_cos
cos_unit s r p =
    let Z : Part 0 (mul binary64 r r) = part_square s r p in
    unit_sub false one _ (1, 1, lit< tt, lit≤ tt, unfold of_bits in (refl, refl))
    (part_sized (mul binary64 (mul binary64 r r) _) (part_mul 0 (mul binary64 r r) _ (lit≤ tt) Z (cos_pairs (mul binary64 r r) Z)))

quadrant_unit : (q : ℕ) (r : Float) → InUnit (kernel_sin r) → InUnit (kernel_cos r) → InUnit (quadrant q r)
unfolding quadrant
quadrant_unit q r s c = go (eqb q 0) (eqb q 1) (eqb q 2)
  where
    go : (i j k : Bool) → InUnit (cond i (kernel_sin r) (cond j (kernel_cos r) (cond k (neg (kernel_sin r)) (neg (kernel_cos r)))))
    go true j k = s
    go false true k = c
    go false false true = neg_unit (kernel_sin r) s
    go false false false = neg_unit (kernel_cos r) c

kernels_unit : (r : Float) → T (le r one) → T (le (neg one) r) → InUnit (kernel_sin r) × InUnit (kernel_cos r)
kernels_unit r h k = let w = unit_within r (k, h) in (sin_unit w.0 r w.1, cos_unit w.0 r w.1)

turned_unit : (a : ℕ) (x : Float) → Inside x → InUnit (turned_of a x)
unfolding turned_of
turned_unit a x h =
    let r = rest_of x (sub binary64 (shifted_of x) shift) in
    let u : InUnit r = rest_inside x h in
    let k = kernels_unit r u.1 u.0 in
    quadrant_unit _ r k.0 k.1

far_unit : (a : ℕ) (x : Float) → Inside x → InUnit (far_of a x)
unfolding far_of
far_unit a x h = simp (is_true (le x high) h.0, is_true (le (neg high) x) h.1) (turned_unit a x h)

-- what is near is from -1 to 1
pub near_in : (x : Float) → T (is_near x) → InUnit x
unfolding is_near
near_in x h = (
  float_le_trans (neg one) (neg quarter) x quarter_one.1 (second (le x quarter) (le (neg quarter) x) h),
  float_le_trans x quarter one (first (le x quarter) (le (neg quarter) x) h) quarter_one.0,
)
  where
    first : (a b : Bool) → T (cond a b false) → T a
    first true b t = tt
    first false b t = t

    second : (a b : Bool) → T (cond a b false) → T b
    second true b t = t
    second false b t = absurd t

near_unit : (x : Float) → T (is_near x) → InUnit (kernel_sin x) × InUnit (kernel_cos x)
near_unit x h = let u = near_in x h in kernels_unit x u.1 u.0

near_or_far : (k : Float) (a : ℕ) (x : Float) → (T (is_near x) → InUnit k) → Inside x → InUnit (cond (is_near x) k (far_of a x))
near_or_far k a x f h = go (is_near x) f
  where
    go : (b : Bool) → (T b → InUnit k) → InUnit (cond b k (far_of a x))
    go true f = f tt
    go false f = far_unit a x h

pub sin_inside : SinInside
unfolding sin_of
sin_inside x h = near_or_far (kernel_sin x) 0 x (λ t. (near_unit x t).0) h

pub cos_inside : CosInside
unfolding cos_of
cos_inside x h = near_or_far (kernel_cos x) 1 x (λ t. (near_unit x t).1) h
