-- 2 ^ x is exact at whole x, +infinity from 1024 on, 0 below -1022 and NaN of NaN; 3000 ^ r is right at 0, at 1 and at NaN.
use Rattle.std.proofs.Common.{◌≡◌, ℕ, suc, ◌+◌, ◌-◌, ◌*◌, ◌/◌, ◌%◌, ◌^◌, ◌<◌, ◌≤◌, Bool, true, false, cond, not, ◌||◌, T, leb, ℤ, pos, negsuc, sym, refl, ap}
use Rattle.std.proofs.Common.{◌∙◌, subst, le_trans, mod-eq_of_lt, zero-lt-suc, mul-one, mul-div_cancel, arith, lit<, lit≤, leb→le, pow_pos}
use native.Mathlib.Nat.{mul-mod_left}
use lib.Dec.{nleb→lt}
use lib.Ieee.{Float, add, binary64, eq, fin, inf, is_nan, le, lt, minus, mul, neg, odd, of_bits, of_fields, of_int, round, size, sub, sum, to_bits}
use lib.Ieee.Back.{round_whole}
use lib.Ieee.Bits.{is_true, of_bits-fits, to_bits-of_bits}
use lib.Ieee.Exact.{HasValue, odd_sign}
use lib.Ieee.Fits.{add-fits}
use lib.Ieee.Order.{le_of_values}
use Rattle.laws.proofs.Number.{fin_number, lt_number, value_finite}
use Rattle.laws.proofs.Order.{float_le_trans, le_false, le_neg, le_of_lt_false, lt_by_values, lt_false, lt_not_ge, neg_lt_nonneg, neg_lt_pos, neg_neg}
use Rattle.laws.proofs.Tests.{eqb_no, leb_no, leb_yes}
use Rattle.laws.proofs.Unique.{one_times, value_unique}
use Rattle.laws.proofs.Values.{add_round, neg_round, of_int_val, rescale, sub_round, sub_self_zero, sum_neg, sum_neg_pos, sum_pos_neg}
use Rattle.laws.specs.Float.{F64, one, zer}
use Rattle.numeric.specs.Power.{biased, exp2_of, exp_part, mid_of, pow3000_of, scale_of, scaled_of, six_of}
use Rattle.numeric.specs.Promises.{Exp2Above, Exp2Below, Exp2MinusZero, Exp2Nan, Exp2Whole}
use Rattle.numeric.specs.Promises.{Pow3000MinusZero, Pow3000Nan, Pow3000One, Pow3000Zero}

-- ---- the bits of a power of two
fields_pow : (x : ℕ) → suc x < 2047 → of_fields binary64 false (suc x) 0 ≡ fin false 1 (minus (x + 52) 1074)
unfolding of_fields
fields_pow x h = ap (λ (b : Bool). cond b (inf false) (fin false 1 (minus (x + 52) 1074))) (eqb_no (suc x) 2047 (apart x h))
  where
    apart : (x : ℕ) → suc x < 2047 → suc x ≡ 2047 → ⊥
    apart x h e = omega arith

bits_lt : (x : ℕ) → suc x < 2047 → suc x * 4503599627370496 < 9223372036854775808
bits_lt x h = omega arith

pub bits_pow : (x : ℕ) → suc x < 2047 → of_bits binary64 (suc x * 4503599627370496) ≡ fin false 1 (minus (x + 52) 1074)
unfolding of_bits
bits_pow x h =
    let b = suc x * 4503599627370496 in
    let l : b < 9223372036854775808 = bits_lt x h in
    ap (λ (z : Bool). of_fields binary64 z (b % 9223372036854775808 / 4503599627370496) (b % 4503599627370496)) (leb_no 9223372036854775808 b l)
    ∙ ap (λ (z : ℕ). of_fields binary64 false (z / 4503599627370496) (b % 4503599627370496)) (mod-eq_of_lt l)
    ∙ ap (λ (z : ℕ). of_fields binary64 false z (b % 4503599627370496)) (mul-div_cancel (suc x) (lit< tt))
    ∙ ap (λ (z : ℕ). of_fields binary64 false (suc x) z) (mul-mod_left (suc x) 4503599627370496)
    ∙ fields_pow x h

minus_up : (n : ℕ) → minus (1022 + n + 52) 1074 ≡ pos n
minus_up n = ap (λ (b : Bool). cond b (pos (1022 + n + 52 - 1074)) (negsuc (1074 - suc (1022 + n + 52)))) (leb_yes 1074 (1022 + n + 52) (ok n)) ∙ ap pos (at n)
  where
    ok : (n : ℕ) → 1074 ≤ 1022 + n + 52
    ok n = omega arith

    at : (n : ℕ) → 1022 + n + 52 - 1074 ≡ n
    at n = omega arith

minus_down : (k : ℕ) → k ≤ 1021 → minus (1021 - k + 52) 1074 ≡ negsuc k
minus_down k h =
    ap (λ (b : Bool). cond b (pos (1021 - k + 52 - 1074)) (negsuc (1074 - suc (1021 - k + 52)))) (leb_no 1074 (1021 - k + 52) (ok k h)) ∙ ap negsuc (at k h)
  where
    ok : (k : ℕ) → k ≤ 1021 → 1021 - k + 52 < 1074
    ok k h = omega arith

    at : (k : ℕ) → k ≤ 1021 → 1074 - suc (1021 - k + 52) ≡ k
    at k h = omega arith

pub bits_up : (n : ℕ) → n ≤ 1023 → of_bits binary64 ((1023 + n) * 4503599627370496) ≡ fin false 1 (pos n)
bits_up n h = ap (λ (z : ℕ). of_bits binary64 (z * 4503599627370496)) (same n) ∙ bits_pow (1022 + n) (room n h) ∙ ap (λ (z : ℤ). fin false 1 z) (minus_up n)
  where
    same : (n : ℕ) → 1023 + n ≡ suc (1022 + n)
    same n = omega arith

    room : (n : ℕ) → n ≤ 1023 → suc (1022 + n) < 2047
    room n h = omega arith

bits_down : (k : ℕ) → suc k ≤ 1022 → of_bits binary64 ((1023 - suc k) * 4503599627370496) ≡ fin false 1 (negsuc k)
bits_down k h =
    ap (λ (z : ℕ). of_bits binary64 (z * 4503599627370496)) (same k h) ∙ bits_pow (1021 - k) (room k) ∙ ap (λ (z : ℤ). fin false 1 z) (minus_down k (less k h))
  where
    same : (k : ℕ) → suc k ≤ 1022 → 1023 - suc k ≡ suc (1021 - k)
    same k h = omega arith

    room : (k : ℕ) → suc (1021 - k) < 2047
    room k = omega arith

    less : (k : ℕ) → suc k ≤ 1022 → k ≤ 1021
    less k h = omega arith

-- so these powers are f64s
fits_up : (n : ℕ) → n ≤ 1023 → F64 (fin false 1 (pos n))
fits_up n h = subst (λ (x : Float). F64 x) (bits_up n h) (of_bits-fits binary64 ((1023 + n) * 4503599627370496))

fits_down : (k : ℕ) → suc k ≤ 1022 → F64 (fin false 1 (negsuc k))
fits_down k h = subst (λ (x : Float). F64 x) (bits_down k h) (of_bits-fits binary64 ((1023 - suc k) * 4503599627370496))

-- ---- the bits of a whole number from 2 ^ 52 to below 2 ^ 53
whole_pattern : (j : ℕ) → j < 4503599627370496 → HasValue (of_bits binary64 (4841369599423283200 + j)) false (4503599627370496 + j) 1
unfolding of_bits of_fields
whole_pattern j h =
    let b = 4841369599423283200 + j in
    subst (λ (z : Bool). HasValue (of_fields binary64 z (b % 9223372036854775808 / 4503599627370496) (b % 4503599627370496)) false (4503599627370496 + j) 1)
    (sym (leb_no 9223372036854775808 b (low j h)))
    (subst (λ (z : ℕ). HasValue (of_fields binary64 false z (b % 4503599627370496)) false (4503599627370496 + j) 1) (sym (field j h))
    (subst (λ (z : ℕ). HasValue (of_fields binary64 false 1075 z) false (4503599627370496 + j) 1) (sym (digits j h))
    (rescale (odd 53 false (4503599627370496 + j) 1074 1074) false ((4503599627370496 + j) * 2 ^ 1074) (2 ^ 1074) (4503599627370496 + j) 1 (pow_pos 1074)
    (sym (mul-one ((4503599627370496 + j) * 2 ^ 1074))) (odd_sign 53 false (4503599627370496 + j) 1074 1074))))
  where
    low : (j : ℕ) → j < 4503599627370496 → 4841369599423283200 + j < 9223372036854775808
    low j h = omega arith

    field : (j : ℕ) → j < 4503599627370496 → (4841369599423283200 + j) % 9223372036854775808 / 4503599627370496 ≡ 1075
    field j h = omega arith

    digits : (j : ℕ) → j < 4503599627370496 → (4841369599423283200 + j) % 4503599627370496 ≡ j
    digits j h = omega arith

whole_bits : (t : Float) (j : ℕ) → j < 4503599627370496 → F64 t → HasValue t false (4503599627370496 + j) 1 → to_bits binary64 t ≡ 4841369599423283200 + j
whole_bits t j h f v =
    ap (to_bits binary64) (value_unique t (of_bits binary64 (4841369599423283200 + j)) false (4503599627370496 + j) 1 (zero-lt-suc 0) f
    (of_bits-fits binary64 (4841369599423283200 + j)) v (whole_pattern j h))
    ∙ to_bits-of_bits binary64 (4841369599423283200 + j) (low j h)
    (fin_number (of_bits binary64 (4841369599423283200 + j))
    (value_finite (of_bits binary64 (4841369599423283200 + j)) false (4503599627370496 + j) 1 (whole_pattern j h)))
  where
    low : (j : ℕ) → j < 4503599627370496 → 4841369599423283200 + j < 18446744073709551616
    low j h = omega arith

-- ---- a whole x, and its sum with the bias
val_up : (n : ℕ) → n ≤ 1023 → HasValue (of_int binary64 (pos n)) false n 1
val_up n h = of_int_val n (le_trans h (lit≤ tt))

val_down : (k : ℕ) → suc k ≤ 1022 → HasValue (of_int binary64 (negsuc k)) true (suc k) 1
unfolding of_int
val_down k h = round_whole binary64 true (suc k) (le_trans h (lit≤ tt))

neg_int : (k : ℕ) → neg (of_int binary64 (negsuc k)) ≡ of_int binary64 (pos (suc k))
unfolding of_int
neg_int k = neg_round (suc k) 1

sum_up : (n : ℕ) → n ≤ 1023 → HasValue (add binary64 (of_int binary64 (pos n)) biased) false (n + 6755399441056767) 1
unfolding of_bits
sum_up n h =
    subst (λ (z : Float). HasValue z false (n + 6755399441056767) 1)
    (sym (add_round (of_int binary64 (pos n)) (fin false 6755399441056767 (pos 0)) false false n 1 6755399441056767 1 (zero-lt-suc 0) (zero-lt-suc 0)
    (val_up n h) (refl, refl) ∙ plain n ∙ ap (λ (z : ℕ). round binary64 false (z + 6755399441056767) 1) (mul-one n)))
    (round_whole binary64 false (n + 6755399441056767) (room n h))
  where
    plain : (n : ℕ) → sum binary64 false (n * 1) false 6755399441056767 1 ≡ round binary64 false (n * 1 + 6755399441056767) 1
    plain n = unfold sum in refl

    room : (n : ℕ) → n ≤ 1023 → n + 6755399441056767 ≤ 9007199254740992
    room n h = omega arith

sum_down : (k : ℕ) → suc k ≤ 1022 → HasValue (add binary64 (of_int binary64 (negsuc k)) biased) false (6755399441056767 - suc k) 1
unfolding of_bits
sum_down k h =
    subst (λ (z : Float). HasValue z false (6755399441056767 - suc k) 1)
    (sym (add_round (of_int binary64 (negsuc k)) (fin false 6755399441056767 (pos 0)) true false (suc k) 1 6755399441056767 1 (zero-lt-suc 0) (zero-lt-suc 0)
    (val_down k h) (refl, refl) ∙ sum_neg_pos (suc k * 1) 6755399441056767 1 (least k h)
    ∙ ap (λ (z : ℕ). round binary64 false (6755399441056767 - z) 1) (mul-one (suc k))))
    (round_whole binary64 false (6755399441056767 - suc k) (room k))
  where
    least : (k : ℕ) → suc k ≤ 1022 → suc k * 1 ≤ 6755399441056767
    least k h = omega arith

    room : (k : ℕ) → 6755399441056767 - suc k ≤ 9007199254740992
    room k = omega arith

-- less the bias again is x
back_up : (n : ℕ) → n ≤ 1023 → sub binary64 (add binary64 (of_int binary64 (pos n)) biased) biased ≡ of_int binary64 (pos n)
unfolding of_bits of_int
back_up n h =
    sub_round (add binary64 (of_int binary64 (pos n)) (fin false 6755399441056767 (pos 0))) (fin false 6755399441056767 (pos 0)) false false
    (n + 6755399441056767) 1 6755399441056767 1 (zero-lt-suc 0) (zero-lt-suc 0) (sum_up n h) (refl, refl)
    ∙ sum_pos_neg ((n + 6755399441056767) * 1) 6755399441056767 1 (least n)
    ∙ ap (λ (z : ℕ). round binary64 false z 1) (at n)
  where
    least : (n : ℕ) → 6755399441056767 ≤ (n + 6755399441056767) * 1
    least n = omega arith

    at : (n : ℕ) → (n + 6755399441056767) * 1 - 6755399441056767 ≡ n
    at n = omega arith

back_down : (k : ℕ) → suc k ≤ 1022 → sub binary64 (add binary64 (of_int binary64 (negsuc k)) biased) biased ≡ of_int binary64 (negsuc k)
unfolding of_bits of_int
back_down k h =
    sub_round (add binary64 (of_int binary64 (negsuc k)) (fin false 6755399441056767 (pos 0))) (fin false 6755399441056767 (pos 0)) false false
    (6755399441056767 - suc k) 1 6755399441056767 1 (zero-lt-suc 0) (zero-lt-suc 0) (sum_down k h) (refl, refl)
    ∙ sum_neg ((6755399441056767 - suc k) * 1) 6755399441056767 1 (least k)
    ∙ ap (λ (z : ℕ). round binary64 true z 1) (at k h)
  where
    least : (k : ℕ) → (6755399441056767 - suc k) * 1 < 6755399441056767
    least k = omega arith

    at : (k : ℕ) → suc k ≤ 1022 → 6755399441056767 - (6755399441056767 - suc k) * 1 ≡ suc k
    at k h = omega arith

-- t is the whole number 1.5 * 2 ^ 52 + F
pub scale_at : (t : Float) (F : ℕ) → F ≤ 2046 → F64 t → HasValue t false (6755399441055744 + F) 1 → scale_of t ≡ of_bits binary64 (F * 4503599627370496)
unfolding scale_of
scale_at t F h f v =
    ap (λ (z : ℕ). of_bits binary64 (z % 4096 * 4503599627370496))
    (whole_bits t (2251799813685248 + F) (room F h) f (subst (λ (z : ℕ). HasValue t false z 1) (same F) v))
    ∙ ap (λ (z : ℕ). of_bits binary64 (z * 4503599627370496)) (lowest_bits F h)
  where
    room : (F : ℕ) → F ≤ 2046 → 2251799813685248 + F < 4503599627370496
    room F h = omega arith

    same : (F : ℕ) → 6755399441055744 + F ≡ 4503599627370496 + (2251799813685248 + F)
    same F = omega arith

    lowest_bits : (F : ℕ) → F ≤ 2046 → (4841369599423283200 + (2251799813685248 + F)) % 4096 ≡ F
    lowest_bits F h = omega arith

scale_up : (n : ℕ) → n ≤ 1023 → scale_of (add binary64 (of_int binary64 (pos n)) biased) ≡ fin false 1 (pos n)
scale_up n h = scale_at (add binary64 (of_int binary64 (pos n)) biased) (1023 + n) (room n h) (add-fits binary64 (of_int binary64 (pos n)) biased)
    (subst (λ (z : ℕ). HasValue (add binary64 (of_int binary64 (pos n)) biased) false z 1) (same n) (sum_up n h)) ∙ bits_up n h
  where
    room : (n : ℕ) → n ≤ 1023 → 1023 + n ≤ 2046
    room n h = omega arith

    same : (n : ℕ) → n + 6755399441056767 ≡ 6755399441055744 + (1023 + n)
    same n = omega arith

scale_down : (k : ℕ) → suc k ≤ 1022 → scale_of (add binary64 (of_int binary64 (negsuc k)) biased) ≡ fin false 1 (negsuc k)
scale_down k h = scale_at (add binary64 (of_int binary64 (negsuc k)) biased) (1023 - suc k) (room k) (add-fits binary64 (of_int binary64 (negsuc k)) biased)
    (subst (λ (z : ℕ). HasValue (add binary64 (of_int binary64 (negsuc k)) biased) false z 1) (same k h) (sum_down k h)) ∙ bits_down k h
  where
    room : (k : ℕ) → 1023 - suc k ≤ 2046
    room k = omega arith

    same : (k : ℕ) → suc k ≤ 1022 → 6755399441056767 - suc k ≡ 6755399441055744 + (1023 - suc k)
    same k h = omega arith

-- the rest is 0
exp_zero : exp_part zer ≡ one
unfolding exp_part six_of of_bits add mul
exp_zero = refl

mid_up : (n : ℕ) → n ≤ 1023 → mid_of (of_int binary64 (pos n)) ≡ fin false 1 (pos n)
unfolding mid_of scaled_of
mid_up n h = simp (
  back_up n h,
  sub_self_zero (of_int binary64 (pos n)) (value_finite (of_int binary64 (pos n)) false n 1 (val_up n h)),
  exp_zero,
  scale_up n h,
  one_times (fin false 1 (pos n)) (fits_up n h),
)

mid_down : (k : ℕ) → suc k ≤ 1022 → mid_of (of_int binary64 (negsuc k)) ≡ fin false 1 (negsuc k)
unfolding mid_of scaled_of
mid_down k h = simp (
  back_down k h,
  sub_self_zero (of_int binary64 (negsuc k)) (value_finite (of_int binary64 (negsuc k)) true (suc k) 1 (val_down k h)),
  exp_zero,
  scale_down k h,
  one_times (fin false 1 (negsuc k)) (fits_down k h),
)

-- ---- 2 ^ x at whole x
abbrev c1024 : Float
c1024 = of_bits binary64 0x4090000000000000

abbrev c1023 : Float
c1023 = of_bits binary64 0x408ff80000000000

abbrev c1022 : Float
c1022 = of_bits binary64 0x408ff00000000000

wide : (n : ℕ) → n ≤ 1022 → n ≤ 1023
wide n h = omega arith

below_top : (n : ℕ) → n ≤ 1022 → lt (of_int binary64 (pos n)) c1023 ≡ true
unfolding of_bits
below_top n h = lt_by_values (of_int binary64 (pos n)) (fin false 1023 (pos 0)) n 1 1023 1 (zero-lt-suc 0) (zero-lt-suc 0) (val_up n (wide n h)) (refl, refl)
    ∙ leb_yes (suc (n * 1)) 1023 (ok n h)
  where
    ok : (n : ℕ) → n ≤ 1022 → suc (n * 1) ≤ 1023
    ok n h = omega arith

above_low : (n : ℕ) → n ≤ 1023 → le (neg c1022) (of_int binary64 (pos n)) ≡ true
unfolding of_bits neg le
above_low n h =
    ap (λ (b : Bool). b || eq (fin true 511 (pos 1)) (of_int binary64 (pos n))) (neg_lt_nonneg 511 (pos 1) (of_int binary64 (pos n)) n 1 (lit< tt) (val_up n h))

exp2_most : (n : ℕ) → n ≤ 1022 → exp2_of (of_int binary64 (pos n)) ≡ fin false 1 (pos n)
unfolding exp2_of
exp2_most n h = simp (below_top n h, above_low n (wide n h), mid_up n (wide n h))

less_one : sub binary64 (of_int binary64 (pos 1023)) one ≡ of_int binary64 (pos 1022)
unfolding sub of_int of_bits
less_one = refl

exp2_top : exp2_of (of_int binary64 (pos 1023)) ≡ fin false 1 (pos 1023)
unfolding exp2_of
exp2_top = simp (not_less, is_less, less_one, mid_up 1022 (lit≤ tt), twice)
  where
    not_less : lt (of_int binary64 (pos 1023)) c1023 ≡ false
    not_less = unfold lt of_int of_bits in refl

    is_less : lt (of_int binary64 (pos 1023)) c1024 ≡ true
    is_less = unfold lt of_int of_bits in refl

    twice : mul binary64 (fin false 1 (pos 1022)) (of_bits binary64 0x4000000000000000) ≡ fin false 1 (pos 1023)
    twice = unfold mul of_bits in refl

exp2_up : (n : ℕ) → n ≤ 1023 → exp2_of (of_int binary64 (pos n)) ≡ fin false 1 (pos n)
exp2_up n h = go (leb n 1022) (leb→le n 1022) (nleb→lt n 1022)
  where
    last : (n : ℕ) → n ≤ 1023 → 1022 < n → n ≡ 1023
    last n h k = omega arith

    go : (b : Bool) → (T b → n ≤ 1022) → (T (not b) → 1022 < n) → exp2_of (of_int binary64 (pos n)) ≡ fin false 1 (pos n)
    go true f g = exp2_most n (f tt)
    go false f g = subst (λ (z : ℕ). exp2_of (of_int binary64 (pos z)) ≡ fin false 1 (pos z)) (sym (last n h (g tt))) exp2_top

low_enough : (k : ℕ) → suc k ≤ 1022 → le (neg c1022) (of_int binary64 (negsuc k)) ≡ true
low_enough k h = is_true (le (neg c1022) (of_int binary64 (negsuc k)))
    (subst (λ (z : Float). T (le (neg c1022) z)) (ap neg (sym (neg_int k)) ∙ neg_neg (of_int binary64 (negsuc k)))
    (le_neg (of_int binary64 (pos (suc k))) c1022
    (unfold of_bits in
    le_of_values (of_int binary64 (pos (suc k))) (fin false 511 (pos 1)) (suc k) 1 1022 1 (zero-lt-suc 0) (zero-lt-suc 0)
    (val_up (suc k) (le_trans h (lit≤ tt))) (refl, refl) (ok k h))))
  where
    ok : (k : ℕ) → suc k ≤ 1022 → suc k * 1 ≤ 1022
    ok k h = omega arith

exp2_down : (k : ℕ) → suc k ≤ 1022 → exp2_of (of_int binary64 (negsuc k)) ≡ fin false 1 (negsuc k)
unfolding exp2_of
exp2_down k h = simp (below_t, low_enough k h, mid_down k h)
  where
    below_t : lt (of_int binary64 (negsuc k)) c1023 ≡ true
    below_t = unfold of_bits in neg_lt_pos (of_int binary64 (negsuc k)) (suc k) 1 1023 (pos 0) (lit< tt) (val_down k h)

pub exp2_whole : Exp2Whole
exp2_whole (pos n) h = exp2_up n h
exp2_whole (negsuc k) h = exp2_down k h

-- ---- outside
tops : T (le c1023 c1024) × T (le (neg c1022) c1023)
unfolding le lt eq neg of_bits
tops = (tt, tt)

pub exp2_above : Exp2Above
unfolding exp2_of
exp2_above x h = simp (lt_false x c1023 (float_le_trans c1023 c1024 x tops.0 h), lt_false x c1024 h, is_true (le c1024 x) h)

-- what is below -1022 is below 1023
low_below : (x : Float) → T (lt x (neg c1022)) → lt x c1023 ≡ true
low_below x h = go (lt x c1023) refl
  where
    go : (b : Bool) → lt x c1023 ≡ b → b ≡ true
    go true e = refl
    go false e = absurd (lt_not_ge x (neg c1022) h
        (float_le_trans (neg c1022) c1023 x tops.1
        (le_of_lt_false x c1023 (lt_number x (neg c1022) (is_true (lt x (neg c1022)) h)) (unfold is_nan of_bits in tt) e)))

pub exp2_below : Exp2Below
unfolding exp2_of
exp2_below x h = simp (low_below x h, le_false x (neg c1022) h)

pub exp2_nan : Exp2Nan
unfolding exp2_of lt le of_bits
exp2_nan = refl

pub exp2_minus_zero : Exp2MinusZero
unfolding exp2_of mid_of scaled_of scale_of exp_part six_of lt le eq neg add sub mul of_bits to_bits size
exp2_minus_zero = refl

-- ---- 3000 ^ r
pub pow3000_one : Pow3000One
unfolding pow3000_of eq of_bits
pow3000_one = refl

pub pow3000_zero : Pow3000Zero
unfolding pow3000_of exp2_of mid_of scaled_of scale_of exp_part six_of eq lt le neg add sub mul of_bits to_bits size
pow3000_zero = refl

pub pow3000_minus_zero : Pow3000MinusZero
unfolding pow3000_of exp2_of mid_of scaled_of scale_of exp_part six_of eq lt le neg add sub mul of_bits to_bits size
pow3000_minus_zero = refl

pub pow3000_nan : Pow3000Nan
unfolding pow3000_of exp2_of eq lt le mul of_bits
pow3000_nan = refl
