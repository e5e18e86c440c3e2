-- What the bodies of is_finite, fabs, of_bits and to_u64 work out.
use Rattle.std.proofs.Common.{◌≡◌, ℕ, ◌*◌, ◌%◌, ◌<◌, ◌≤◌, Bool, true, false, not, T, pos, sym, refl, ap, ◌∙◌, subst, true≢false, zero-lt-suc}
use Rattle.std.proofs.Common.{one-mul, zero-add, zero-mul, mul-one, arith, ltb-false, le-ltb, lt-ltb}
use mathlib.Core.Bool.{false≢true}
use lib.Ieee.{Float, add, binary64, down, eq, fin, fits, inf, lt, nan, nan_bits, neg, of_bits, round, sub, sum, up}
use lib.Ieee.Back.{whole_unique}
use lib.Ieee.Bits.{nan_bits_above, nan_bits_is}
use lib.Ieee.Fits.{down_pos, neg-fits}
use lib.Ieee.Exact.{HasValue}
use Rattle.laws.proofs.Interval.{Within}
use Rattle.laws.proofs.Number.{is_nan_lem}
use Rattle.laws.proofs.Sign.{Plus}
use Rattle.laws.proofs.Unique.{round_own}
use Rattle.laws.proofs.Values.{sub_round, sub_self_zero}
use Rattle.laws.specs.Float.{F64, is_fin, zer}
use Rattle.numeric.specs.Basic.{fabs_of}

-- ---- is_finite
pub finite_test : (x : Float) → eq (sub binary64 x x) zer ≡ is_fin x
finite_test nan = unfold sub eq of_bits in refl
finite_test (inf true) = unfold sub eq of_bits in refl
finite_test (inf false) = unfold sub eq of_bits in refl
finite_test (fin s m e) = ap (λ (z : Float). eq z zer) (sub_self_zero (fin s m e) tt) ∙ unfold eq of_bits in refl

-- ---- fabs
pub fabs_kept : (x : Float) → lt zer x ≡ true → x ≡ fabs_of x
unfolding lt of_bits fabs_of
fabs_kept nan h = refl
fabs_kept (inf true) h = absurd (false≢true h)
fabs_kept (inf false) h = refl
fabs_kept (fin true m e) h = absurd (false≢true h)
fabs_kept (fin false m e) h = refl

pub fabs_turned : (x : Float) → F64 x → lt zer x ≡ false → sub binary64 zer x ≡ fabs_of x
unfolding of_bits fabs_of
fabs_turned nan t h = unfold sub neg add in refl
fabs_turned (inf true) t h = unfold sub neg add in refl
fabs_turned (inf false) t h = absurd (true≢false (unfold lt in h))
fabs_turned (fin false m e) t h =
    ap (λ (y : Float). sub binary64 (fin false 0 (pos 0)) y) (sym zero_is) ∙ unfold of_bits in sub_self_zero (fin false 0 (pos 0)) tt ∙ zero_is
  where
    nil : (n d : ℕ) → n * 1 ≤ 0 * d → n * 1 ≡ 0 * d
    nil n d h = omega arith

    zero_is : fin false 0 (pos 0) ≡ fin false m e
    zero_is = whole_unique binary64 (fin false 0 (pos 0)) (fin false m e) false 0 (unfold fits in tt) t (refl, refl)
        (refl, nil (m * up e) (down e) (ltb-false (0 * down e) (m * up e * 1) (unfold lt in h)))
fabs_turned (fin true m e) t h =
    sub_round (fin false 0 (pos 0)) (fin true m e) false true 0 1 (m * up e) (down e) (zero-lt-suc 0) (down_pos e) (refl, refl) (refl, refl)
    ∙ plain (m * up e) (down e)
    ∙ round_own false (fin false m e) (m * up e) (down e) (down_pos e) (unfold neg in neg-fits binary64 (fin true m e) t) (refl, refl)
  where
    plain : (n d : ℕ) → sum binary64 false (0 * d) false (n * 1) (1 * d) ≡ round binary64 false n d
    plain n d = unfold sum in simp (zero-mul, zero-add, mul-one, one-mul)

pub fabs_plain : (x : Float) (a c : ℕ) → HasValue x false a c → fabs_of x ≡ x
unfolding fabs_of
fabs_plain nan a c v = absurd v
fabs_plain (inf s) a c v = absurd v
fabs_plain (fin true m e) a c v = absurd (true≢false v.0)
fabs_plain (fin false m e) a c v = refl

pub fabs_neg : (x : Float) → fabs_of (neg x) ≡ fabs_of x
unfolding fabs_of neg
fabs_neg nan = refl
fabs_neg (inf s) = refl
fabs_neg (fin s m e) = refl

pub fabs_twice : (x : Float) → fabs_of (fabs_of x) ≡ fabs_of x
unfolding fabs_of
fabs_twice nan = refl
fabs_twice (inf s) = refl
fabs_twice (fin s m e) = refl

-- without a minus sign, and only so, a number is its own size
pub plus_own : (x : Float) → Plus x → fabs_of x ≡ x
unfolding fabs_of
plus_own nan p = refl
plus_own (inf true) p = absurd p
plus_own (inf false) p = refl
plus_own (fin true m e) p = absurd p
plus_own (fin false m e) p = refl

abbrev minus : Float → Bool
minus nan = false
minus (inf s) = s
minus (fin s m e) = s

pub own_plus : (x : Float) → fabs_of x ≡ x → Plus x
unfolding fabs_of
own_plus nan h = tt
own_plus (inf true) h = false≢true (ap minus h)
own_plus (inf false) h = tt
own_plus (fin true m e) h = false≢true (ap minus h)
own_plus (fin false m e) h = tt

pub within_fabs : (i : ℕ) (x : Float) → Within i x → Within i (fabs_of x)
unfolding fabs_of
within_fabs i nan h = absurd h.1.4
within_fabs i (inf s) h = absurd h.1.4
within_fabs i (fin s m e) h = let p = h.1 in (false, (p.0, p.1, p.2, p.3, (refl, p.4.1)))

-- ---- bits and of_bits
-- a bit pattern up to infinity's, the sign aside, is no NaN's, and every one above is
pub quiet_bits : (b : ℕ) → b % 9223372036854775808 ≤ 9218868437227405312 → T (not (nan_bits binary64 b))
quiet_bits b h = subst (λ (z : Bool). T (not z)) (sym (nan_bits_above binary64 b ∙ le-ltb 9218868437227405312 (b % 9223372036854775808) h)) tt

pub nan_bits_lem : (b : ℕ) → 9218868437227405312 < b % 9223372036854775808 → nan ≡ of_bits binary64 b
nan_bits_lem b h =
    sym (is_nan_lem (of_bits binary64 b) (sym (nan_bits_is binary64 b) ∙ nan_bits_above binary64 b ∙ lt-ltb 9218868437227405312 (b % 9223372036854775808) h))
