-- Where clamp, min, max and the casts land, and the casts that oscillators make:
-- of a clamped period, of a rate over 20, of a phase over 256 cells, of a share of n.
use Rattle.std.proofs.Common.{◌≡◌, ℕ, zero, suc, ◌+◌, ◌-◌, ◌*◌, ◌/◌, ◌%◌, ◌^◌, ◌<◌, ◌≤◌, min, Bool, true, false, cond, not, T, eqb, ◌⊎◌, pos, sym, refl, ap}
use Rattle.std.proofs.Common.{◌∙◌, subst, inl, inr, true≢false, zero-le, le_trans, le_of_eq, le_refl, not-suc-le-zero, lt_of_le_of_lt, mul-le-mul_right}
use Rattle.std.proofs.Common.{div-lt_iff_lt-mul, div-add-mod', mul-one, div-one, arith, lit<, lit≤, le→leb, eqb→eq, ltb→lt}
use native.Mathlib.Nat.{min-le_left, min-le_right, zero-div}
use lib.Ieee.{Float, binary64, div, down, eq, fin, in_float, inf, is_nan, le, lt, nan, of_bits, of_int, round, sub, to_unsigned, up}
use lib.Ieee.Back.{unsigned_back, whole_unique}
use lib.Ieee.Bits.{is_false}
use lib.Ieee.Casts.{to_unsigned-lt}
use lib.Ieee.Exact.{HasValue}
use lib.Ieee.Fits.{down_pos, of_int-fits}
use lib.Ieee.Nearest.{div_mono}
use lib.Ieee.Order.{le_of_values}
use lib.Ieee.Positive.{between}
use Rattle.laws.proofs.Monotone.{div_le}
use Rattle.laws.proofs.Number.{div_number, le_numbers}
use Rattle.laws.proofs.Order.{float_le_refl, le_below, le_of_lt_false, le_of_lt_true, lt_by_values, lt_nan, nan_lt, inf_not_below}
use Rattle.laws.proofs.Tests.{of_false, zero_of}
use Rattle.laws.proofs.Values.{of_int_val, sub_round, sum_pos_neg}
use Rattle.laws.specs.Float.{F64, one, two}
use Rattle.numeric.specs.Basic.{clamp_of, max_of, min_of, real_of, whole_of}
use Rattle.numeric.specs.Floor.{floor_of}
use Rattle.numeric.specs.Promises.{ClampNan, ClampRange, MaxEither, MaxNan, MaxRange, MinEither}
use Rattle.numeric.specs.Promises.{MinNan, MinRange, WholeLess, WholeMonotone, WholeReal, WholeTop}

-- ---- clamp
pub clamp_range : ClampRange
unfolding clamp_of
clamp_range x lo hi h q = go (lt x lo) (lt hi x) refl refl
  where
    n : T (not (is_nan lo)) × T (not (is_nan hi))
    n = le_numbers lo hi h

    go : (a b : Bool) → lt x lo ≡ a → lt hi x ≡ b → T (le lo (cond a lo (cond b hi x))) × T (le (cond a lo (cond b hi x)) hi)
    go true b e f = (float_le_refl lo n.0, h)
    go false true e f = (h, float_le_refl hi n.1)
    go false false e f = (le_of_lt_false x lo q n.0 e, le_of_lt_false hi x n.1 q f)

pub clamp_nan : ClampNan
unfolding clamp_of
clamp_nan lo hi = simp (nan_lt lo, lt_nan hi)

-- ---- min and max: a where p holds or b is a NaN, else b
abbrev chosen : Bool → Bool → Float → Float → Float
chosen p q a b = cond p a (cond q a b)

chosen_either : (p q : Bool) (a b : Float) → (chosen p q a b ≡ a) ⊎ (chosen p q a b ≡ b)
chosen_either true q a b = inl refl
chosen_either false true a b = inl refl
chosen_either false false a b = inr refl

-- R is at most, or at least
chosen_range : (R : Float → Float → Type 0) (p q : Bool) (a b : Float) → ((x : Float) → T (not (is_nan x)) → R x x) → is_nan b ≡ q → (T p → R a b)
    → (T (not p) → T (not (is_nan a)) → T (not (is_nan b)) → R b a)
    → (T (not (is_nan a)) → R (chosen p q a b) a) × (T (not (is_nan b)) → R (chosen p q a b) b)
chosen_range R true q a b r e f g = (r a, λ _. f tt)
chosen_range R false true a b r e f g = (r a, λ h. absurd (subst (λ (z : Bool). T (not z)) e h))
chosen_range R false false a b r e f g = (λ h. g tt h (of_false (is_nan b) e), r b)

chosen_nan : (p : Bool) (x : Float) → p ≡ false → chosen p (is_nan x) nan x ≡ x
unfolding is_nan
chosen_nan p nan e = simp (e)
chosen_nan p (inf s) e = simp (e)
chosen_nan p (fin s m d) e = simp (e)

pub min_either : MinEither
unfolding min_of
min_either a b = chosen_either (lt a b) (is_nan b) a b

pub max_either : MaxEither
unfolding max_of
max_either a b = chosen_either (lt b a) (is_nan b) a b

pub min_range : MinRange
unfolding min_of
min_range a b =
    chosen_range (λ x y. T (le x y)) (lt a b) (is_nan b) a b float_le_refl refl (le_of_lt_true a b) (λ n p q. le_of_lt_false a b p q (is_false (lt a b) n))

pub max_range : MaxRange
unfolding max_of
max_range a b =
    chosen_range (λ x y. T (le y x)) (lt b a) (is_nan b) a b float_le_refl refl (le_of_lt_true b a) (λ n p q. le_of_lt_false b a q p (is_false (lt b a) n))

pub min_nan : MinNan
unfolding min_of is_nan
min_nan x = (chosen_nan (lt nan x) x (nan_lt x), simp (lt_nan x))

pub max_nan : MaxNan
unfolding max_of is_nan
max_nan x = (chosen_nan (lt x nan) x (lt_nan x), simp (nan_lt x))

-- ---- casts
min_mono : (a b k : ℕ) → a ≤ b → min a k ≤ min b k
min_mono a b k h = omega arith

pub whole_monotone : WholeMonotone
unfolding to_unsigned
whole_monotone nan y h = zero-le
whole_monotone (inf true) y h = zero-le
whole_monotone (inf false) nan h = absurd (unfold le lt eq in h)
whole_monotone (inf false) (inf true) h = absurd (unfold le lt eq in h)
whole_monotone (inf false) (inf false) h = le_refl 18446744073709551615
whole_monotone (inf false) (fin t n d) h = absurd (unfold le lt eq in h)
whole_monotone (fin true m e) y h = zero-le
whole_monotone (fin false m e) nan h = absurd (unfold le lt eq in h)
whole_monotone (fin false m e) (inf true) h = absurd (unfold le lt eq in h)
whole_monotone (fin false m e) (inf false) h = min-le_right (m * up e / down e) 18446744073709551615
whole_monotone (fin false m e) (fin true n d) h =
    le_trans (min-le_left (m * up e / down e) 18446744073709551615)
    (le_of_eq (ap (λ (z : ℕ). z / down e) (zero_of (m * up e) (down d) (down_pos d) (le_of_eq (le_below false true m n e d h).0)) ∙ zero-div (down e)))
whole_monotone (fin false m e) (fin false n d) h = min_mono (m * up e / down e) (n * up d / down d) 18446744073709551615
    (div_mono (m * up e) (down e) (n * up d) (down d) (down_pos e) (down_pos d) (le_below false false m n e d h))

pub whole_top : WholeTop
whole_top x = to_unsigned-lt 64 x

pub whole_real : WholeReal
whole_real n h = (unsigned_back binary64 64 n (held n h) (lt_of_le_of_lt h (lit< tt))).1
  where
    held : (n : ℕ) → n ≤ 2 ^ 53 → T (in_float binary64 (pos n))
    held n h = unfold in_float in le→leb n (2 ^ 53) h

pub whole_less : WholeLess
unfolding to_unsigned
whole_less nan n h p l = p
whole_less (inf true) n h p l = p
whole_less (inf false) n h p l = absurd (subst T (inf_not_below (real_of n)) l)
whole_less (fin true m e) n h p l = p
whole_less (fin false m e) n h p l =
    lt_of_le_of_lt (min-le_left (m * up e / down e) 18446744073709551615)
    ((div-lt_iff_lt-mul (down_pos e)).1 (subst (λ (z : ℕ). z < n * down e) (mul-one (m * up e))
    (ltb→lt (m * up e * 1) (n * down e)
    (subst T (lt_by_values (fin false m e) (real_of n) (m * up e) (down e) n 1 (down_pos e) (lit< tt) (refl, refl) (of_int_val n h)) l))))

-- ---- casts of what is clamped, divided and scaled
real_le : (a b : ℕ) → a ≤ b → b ≤ 2 ^ 53 → T (le (real_of a) (real_of b))
real_le a b h k = le_of_values (real_of a) (real_of b) a 1 b 1 (lit< tt) (lit< tt) (of_int_val a (le_trans h k)) (of_int_val b k) (mul-le-mul_right 1 h)

-- clamped from a to b, so is the whole part
pub clamp_whole : (x : Float) (a b : ℕ) → a ≤ b → b ≤ 2 ^ 53 → T (not (is_nan x))
    → (a ≤ whole_of (clamp_of x (real_of a) (real_of b))) × (whole_of (clamp_of x (real_of a) (real_of b)) ≤ b)
clamp_whole x a b h k q =
    let r = clamp_range x (real_of a) (real_of b) (real_le a b h k) q in (
      le_trans (le_of_eq (sym (whole_real a (le_trans h k)))) (whole_monotone (real_of a) (clamp_of x (real_of a) (real_of b)) r.0),
      le_trans (whole_monotone (clamp_of x (real_of a) (real_of b)) (real_of b) r.1) (le_of_eq (whole_real b k)),
    )

-- 1 off a whole number
pub suc_less : (n : ℕ) → suc n ≤ 2 ^ 53 → sub binary64 (real_of (suc n)) one ≡ real_of n
unfolding of_int
suc_less n h =
    sub_round (real_of (suc n)) one false false (suc n) 1 1 1 (lit< tt) (lit< tt) (of_int_val (suc n) h) (unfold of_bits in (refl, refl))
    ∙ sum_pos_neg (suc n * 1) 1 1 (least n)
    ∙ ap (λ (z : ℕ). round binary64 false z 1) (rest n)
  where
    least : (n : ℕ) → 1 ≤ suc n * 1
    least n = omega arith

    rest : (n : ℕ) → suc n * 1 - 1 ≡ n
    rest n = omega arith

pub real_less : (n : ℕ) → 1 ≤ n → n ≤ 2 ^ 53 → sub binary64 (real_of n) one ≡ real_of (n - 1)
real_less zero h k = absurd (not-suc-le-zero h)
real_less (suc n) h k = suc_less n k ∙ ap real_of (rest n)
  where
    rest : (n : ℕ) → n ≡ suc n - 1
    rest n = omega arith

-- a period from 2 to n - 1
pub period_whole : (x : Float) (n : ℕ) → 3 ≤ n → n ≤ 2 ^ 53 → T (not (is_nan x))
    → (2 ≤ whole_of (clamp_of x two (sub binary64 (real_of n) one))) × (whole_of (clamp_of x two (sub binary64 (real_of n) one)) ≤ n - 1)
period_whole x n h k q = simp (real_less n (le_trans (lit≤ tt) h) k, two_real) (clamp_whole x 2 (n - 1) (low n h) (le_trans (less n) k) q)
  where
    two_real : two ≡ real_of 2
    two_real = unfold of_bits of_int in refl

    low : (n : ℕ) → 3 ≤ n → 2 ≤ n - 1
    low n h = omega arith

    less : (n : ℕ) → n - 1 ≤ n
    less n = omega arith

-- a rate from 1000 to 192000 over 20
abbrev pub lowest : Float
lowest = of_bits binary64 0x408f400000000000

abbrev pub highest : Float
highest = of_bits binary64 0x4107700000000000

abbrev pub twenty : Float
twenty = of_bits binary64 0x4034000000000000

pub rate_whole : (x : Float) → T (le lowest x) → T (le x highest) → (50 ≤ whole_of (div binary64 x twenty)) × (whole_of (div binary64 x twenty) ≤ 9600)
rate_whole x l h = (
  le_trans (le_of_eq least) (whole_monotone (div binary64 lowest twenty) (div binary64 x twenty) (divided lowest x l)),
  le_trans (whole_monotone (div binary64 x twenty) (div binary64 highest twenty) (divided x highest h)) (le_of_eq most),
)
  where
    divided : (x y : Float) → T (le x y) → T (le (div binary64 x twenty) (div binary64 y twenty))
    divided = div_le twenty (unfold of_bits in tt)

    least : 50 ≡ whole_of (div binary64 lowest twenty)
    least = unfold div of_bits to_unsigned in refl

    most : whole_of (div binary64 highest twenty) ≡ 9600
    most = unfold div of_bits to_unsigned in refl

-- and such a rate over a number is a number
pub rate_number : (x y : Float) → T (le lowest x) → T (le x highest) → T (not (is_nan y)) → T (not (is_nan (div binary64 x y)))
rate_number x y l h q = div_number x y (between lowest x highest (unfold of_bits in tt) (unfold of_bits in tt) l h) q

-- ---- the floor of a number from 0 up is its whole part
pub floor_cast : (x : Float) (a c : ℕ) → 0 < c → F64 x → HasValue x false a c → a ≤ 2 ^ 53 * c → floor_of x ≡ real_of (whole_of x)
unfolding floor_of to_unsigned
floor_cast nan a c C t v h = absurd v
floor_cast (inf s) a c C t v h = absurd v
floor_cast (fin true m e) a c C t v h = absurd (true≢false v.0)
floor_cast (fin false m e) a c C t v h = go (eqb N 0) (eqb→eq N 0) ∙ ap real_of (sym cut)
  where
    N : ℕ
    N = m * up e % down e

    q : ℕ
    q = m * up e / down e

    small : q ≤ 2 ^ 53
    small = le_trans (div_mono (m * up e) (down e) a c (down_pos e) C (le_of_eq v.1))
        (le_trans (div_mono a c (2 ^ 53) 1 C (lit< tt) (le_trans (le_of_eq (mul-one a)) h)) (le_of_eq (div-one (2 ^ 53))))

    cut : min q 18446744073709551615 ≡ q
    cut = fits_in q small
      where
        fits_in : (q : ℕ) → q ≤ 9007199254740992 → min q 18446744073709551615 ≡ q
        fits_in q h = omega arith

    exact : N ≡ 0 → m * up e * 1 ≡ q * down e
    exact z = mul-one (m * up e) ∙ sym (div-add-mod' (m * up e) (down e)) ∙ whole (q * down e) N z
      where
        whole : (a r : ℕ) → r ≡ 0 → a + r ≡ a
        whole a r z = omega arith

    go : (b : Bool) → (T b → N ≡ 0) → cond b (fin false m e) (real_of q) ≡ real_of q
    go true f = whole_unique binary64 (fin false m e) (real_of q) false q t (of_int-fits binary64 (pos q)) (refl, exact (f tt)) (of_int_val q small)
    go false f = refl
