-- 2 ^ x has no minus sign: of the polynomial's two parts the even one is at least 1, and the odd one from -1 to 1.
use Rattle.std.proofs.Common.{◌≡◌, ℕ, suc, ◌+◌, ◌*◌, ◌≤◌, Bool, true, false, cond, not, T, sym, refl, subst, mul-le-mul_right, mul-pos, arith, lit<, lit≤}
use lib.Ieee.{Float, add, binary64, fin, inf, is_nan, le, lt, mul, nan, neg, of_bits, sub, sum}
use lib.Ieee.Bits.{of_bits-fits}
use lib.Ieee.Fits.{add-fits}
use Rattle.laws.proofs.Interval.{Exact, Part, Under, Within, in_part, neg_unit, part_add}
use Rattle.laws.proofs.Interval.{part_mul, part_mul', part_of, part_square, round_under, within_finite, within_mul, within_unit}
use Rattle.laws.proofs.Number.{fin_number, lt_number}
use Rattle.laws.proofs.Order.{float_le_trans, le_of_lt_false, le_of_lt_true, neg_neg}
use Rattle.laws.proofs.Sign.{Plus, add_above, add_plus, less_plus, mul_plus, positive_plus}
use Rattle.laws.proofs.Tests.{of_true}
use Rattle.laws.proofs.Values.{add_round, exact_at}
use Rattle.laws.specs.Float.{F64, one, two, zer}
use Rattle.numeric.proofs.BasicLaws.{plus_own}
use Rattle.numeric.proofs.PowerRange.{exp_within, less_one, scale_positive, split}
use Rattle.numeric.specs.Power.{biased, exp2_of, exp_part, mid_of, scale_of, scaled_of, six_of}
use Rattle.numeric.specs.Promises.{Exp2Positive}

-- ---- the even part
number_left : (x y : Float) → T (not (is_nan (add binary64 x y))) → T (not (is_nan x))
unfolding add is_nan
number_left nan y h = h
number_left (inf s) y h = tt
number_left (fin s m e) y h = tt

-- a sum of such terms isn't below its first
six_above : (z c0 c1 c2 c3 c4 c5 : Float) → Plus z → F64 c0 → Plus c0 → Plus c1 → Plus c2 → Plus c3 → Plus c4 → Plus c5
    → T (not (is_nan (six_of z c0 c1 c2 c3 c4 c5))) → Plus (six_of z c0 c1 c2 c3 c4 c5) × T (le c0 (six_of z c0 c1 c2 c3 c4 c5))
unfolding six_of
six_above z c0 c1 c2 c3 c4 c5 Z f p0 p1 p2 p3 p4 p5 q =
    let w = mul binary64 z z in
    let W = mul_plus z z Z Z in
    let a = add binary64 c0 (mul binary64 z c1) in
    let A = pair c0 c1 p0 p1 in
    let r = mul binary64 w (add binary64 (add binary64 c2 (mul binary64 z c3)) (mul binary64 w (add binary64 c4 (mul binary64 z c5)))) in
    let R = mul_plus w _ W (add_plus _ _ (pair c2 c3 p2 p3) (mul_plus w _ W (pair c4 c5 p4 p5))) in (
      add_plus a r A R,
      float_le_trans c0 a (add binary64 a r) (add_above c0 (mul binary64 z c1) f p0 (mul_plus z c1 Z p1) (number_left a r q))
          (add_above a r (add-fits binary64 c0 (mul binary64 z c1)) A R q),
    )
  where
    pair : (c d : Float) → Plus c → Plus d → Plus (add binary64 c (mul binary64 z d))
    pair c d p q = add_plus c (mul binary64 z d) p (mul_plus z d Z q)

-- ---- the odd part is at most 14/16
more : (p : ℕ) (x y : Float) → Exact (suc p) 16 → Under p 16 false x → Part 4 y → Under (suc p) 16 false (add binary64 x y)
unfolding sum
more p x y top (a, c, C, h, v) (b, d, D, k, w) =
    subst (Under (suc p) 16 false) (sym (add_round x y false false a c b d C D v w))
    (round_under false (a * d + b * c) (c * d) (suc p) 16 (mul-pos C D) (lit< tt) (both a b c d p (mul-le-mul_right d h) (mul-le-mul_right c k)) top)
  where
    both : (a b c d p : ℕ) → a * 16 * d ≤ p * c * d → b * 16 * c ≤ d * c → (a * d + b * c) * 16 ≤ suc p * (c * d)
    both a b c d p h k = omega arith

odd_within : (z c0 c1 c2 c3 c4 c5 : Float) → Part 0 z → Under 12 16 false c0 → T (in_part 4 c1) → T (in_part 6 c2) → T (in_part 6 c3) → T (in_part 6 c4)
    → T (in_part 6 c5)
    → Within 0 (six_of z c0 c1 c2 c3 c4 c5)
unfolding six_of
odd_within z c0 c1 c2 c3 c4 c5 Z h0 h1 h2 h3 h4 h5 =
    let w = mul binary64 z z in
    let W : Part 0 w = part_mul 0 z z (lit≤ tt) Z Z in
    let p = add binary64 c0 (mul binary64 z c1) in
    let q = add binary64 c2 (mul binary64 z c3) in
    let r = add binary64 c4 (mul binary64 z c5) in
    let u = add binary64 q (mul binary64 w r) in
    let U : Part 4 u = part_add 4 q (mul binary64 w r) (lit≤ tt) (pair c2 c3 h2 h3) (part_mul' 5 w r (lit≤ tt) W (pair c4 c5 h4 h5)) in
    let P : Under 13 16 false p = more 12 c0 (mul binary64 z c1) (exact_at false 13 4 (lit< tt) (lit≤ tt)) h0
    (part_mul' 4 z c1 (lit≤ tt) Z (part_of 4 c1 h1)) in
    small (add binary64 p (mul binary64 w u)) (more 13 p (mul binary64 w u) (exact_at false 14 4 (lit< tt) (lit≤ tt)) P (part_mul' 4 w u (lit≤ tt) W U))
  where
    pair : (c d : Float) → T (in_part 6 c) → T (in_part 6 d) → Part 5 (add binary64 c (mul binary64 z d))
    pair c d h k = part_add 5 c (mul binary64 z d) (lit≤ tt) (part_of 6 c h) (part_mul' 6 z d (lit≤ tt) Z (part_of 6 d k))

    small : (x : Float) → Under 14 16 false x → Within 0 x
    small x (a, c, C, h, v) = (false, (a, c, C, less a c h, v))
      where
        less : (a c : ℕ) → a * 16 ≤ 14 * c → a ≤ 1 * c
        less a c h = omega arith

-- ---- their sum
sum_plus : (x y : Float) → Plus x → T (le one x) → Within 0 y → Plus (add binary64 x y)
unfolding sub
sum_plus x y p h w =
    subst (λ (z : Float). Plus (add binary64 x z)) (neg_neg y)
    (less_plus x (neg y) p (float_le_trans (neg y) one x (neg_unit y (within_unit y w)).1 h))

-- ---- the polynomial, where |f| is at most 1
abbrev even : Float → Float
even z =
    six_of z (of_bits binary64 0x3ff0000000000000) (of_bits binary64 0x3fcebfbdff82c598) (of_bits binary64 0x3f83b2ab6fba1dda)
    (of_bits binary64 0x3f2430913096fd9f) (of_bits binary64 0x3eb62bfd47773353) (of_bits binary64 0x3e3e6063f7217bc6)

abbrev odd : Float → Float
odd z =
    six_of z (of_bits binary64 0x3fe62e42fefa39ef) (of_bits binary64 0x3fac6b08d704a0c2) (of_bits binary64 0x3f55d87fe78a5276)
    (of_bits binary64 0x3eeffcbfc670dcd4) (of_bits binary64 0x3e7b524fae627834) (of_bits binary64 0x3dfe9d3fe3952179)

part_plus : (i : ℕ) (x : Float) → Part i x → Plus x
part_plus i nan p = tt
part_plus i (inf s) p = absurd p.4
part_plus i (fin s m e) p = rw p.4.0 tt

even_above : (z : Float) → Plus z → T (not (is_nan (even z))) → Plus (even z) × T (le one (even z))
even_above z Z = six_above z _ _ _ _ _ _ Z (of_bits-fits binary64 0x3ff0000000000000) k0 k1 k2 k3 k4 k5
  where
    k0 : Plus (of_bits binary64 0x3ff0000000000000)
    k0 = unfold of_bits in tt

    k1 : Plus (of_bits binary64 0x3fcebfbdff82c598)
    k1 = unfold of_bits in tt

    k2 : Plus (of_bits binary64 0x3f83b2ab6fba1dda)
    k2 = unfold of_bits in tt

    k3 : Plus (of_bits binary64 0x3f2430913096fd9f)
    k3 = unfold of_bits in tt

    k4 : Plus (of_bits binary64 0x3eb62bfd47773353)
    k4 = unfold of_bits in tt

    k5 : Plus (of_bits binary64 0x3e3e6063f7217bc6)
    k5 = unfold of_bits in tt

odd_unit : (z : Float) → Part 0 z → Within 0 (odd z)
unfolding of_bits
odd_unit z Z =
    odd_within z (of_bits binary64 0x3fe62e42fefa39ef) (of_bits binary64 0x3fac6b08d704a0c2) (of_bits binary64 0x3f55d87fe78a5276)
    (of_bits binary64 0x3eeffcbfc670dcd4) (of_bits binary64 0x3e7b524fae627834) (of_bits binary64 0x3dfe9d3fe3952179) Z
    (6243314768165359, 9007199254740992, lit< tt, lit≤ tt, (refl, refl)) tt tt tt tt tt

exp_plus : (f : Float) → Within 0 f → Plus (exp_part f)
unfolding exp_part
exp_plus f h =
    let z = mul binary64 f f in
    let Z : Part 0 z = part_square h.0 f h.1 in
    let e = even_above z (part_plus 0 z Z)
    (number_left (even z) (mul binary64 f (odd z)) (fin_number (exp_part f) (within_finite 4 (exp_part f) (exp_within f h)))) in
    sum_plus (even z) (mul binary64 f (odd z)) e.0 e.1 (within_mul 0 0 f (odd z) (lit≤ tt) h (odd_unit z Z))

-- ---- 2 ^ x
mid_plus : (x : Float) → T (le (neg (of_bits binary64 0x408ff00000000000)) x) → T (le x (of_bits binary64 0x408ff80000000000)) → Plus (mid_of x)
unfolding mid_of scaled_of
mid_plus x l h =
    let k = split x l h in
    let t = add binary64 x biased in
    let f = sub binary64 x (sub binary64 t biased) in
    mul_plus (exp_part f) (scale_of t) (exp_plus f k.4)
    (positive_plus (scale_of t) (scale_positive t k.0 k.1 k.2 (add-fits binary64 x biased) k.3))

pub power_plus : (x : Float) → Plus (exp2_of x)
unfolding exp2_of
power_plus x = go (lt x c1023) (le (neg c1022) x) (lt x c1024) (le c1024 x) refl refl refl
  where
    c1022 : Float
    c1022 = of_bits binary64 0x408ff00000000000

    c1023 : Float
    c1023 = of_bits binary64 0x408ff80000000000

    c1024 : Float
    c1024 = of_bits binary64 0x4090000000000000

    go : (a b c d : Bool) → lt x c1023 ≡ a → le (neg c1022) x ≡ b → lt x c1024 ≡ c
        → Plus (cond a (cond b (mid_of x) zer) (cond c (mul binary64 (mid_of (sub binary64 x one)) two) (cond d (inf false) nan)))
    go true true c d p l h = mid_plus x (of_true (le (neg c1022) x) l) (le_of_lt_true x c1023 (of_true (lt x c1023) p))
    go true false c d p l h = unfold of_bits in tt
    go false b true d p l h =
        let k = less_one x (le_of_lt_false x c1023 (lt_number x c1024 h) (unfold is_nan of_bits in tt) p) (of_true (lt x c1024) h) in
        mul_plus (mid_of (sub binary64 x one)) two (mid_plus (sub binary64 x one) k.0 k.1) (unfold of_bits in tt)
    go false b false true p l h = tt
    go false b false false p l h = tt

pub exp2_positive : Exp2Positive
exp2_positive x = plus_own (exp2_of x) (power_plus x)
