-- Periods: a rate over 20 can be cut, and a rate over 20 Hz or more lies below the clamp's upper end.
use Rattle.std.proofs.Common.{◌≡◌, ℕ, ◌+◌, ◌-◌, ◌*◌, ◌/◌, ◌%◌, ◌<◌, ◌≤◌, min, true, false, not, T, ltb, sym, refl, ap, ◌∙◌, le_trans, le_of_eq, mod-lt, add-mul}
use Rattle.std.proofs.Common.{div-add-mod', arith, lit<, lt→ltb}
use lib.Ieee.{Float, nan, inf, fin, binary64, up, down, lt, le, eq, sub, div, is_nan, of_bits, to_unsigned}
use lib.Ieee.Bits.{is_true}
use lib.Ieee.Order.{le_of_values}
use lib.Ieee.Positive.{positive, num, den, den_pos, own_value, between}
use Rattle.laws.proofs.Monotone.{div_le, div_anti}
use Rattle.laws.proofs.Order.{le_lt_trans, lt_false, lt_by_values, le_of_lt_true, float_le_trans}
use Rattle.laws.proofs.Tests.{of_true}
use Rattle.laws.proofs.Values.{of_int_val}
use Rattle.laws.specs.Float.{one, two}
use Rattle.numeric.specs.Basic.{clamp_of, whole_of, real_of}
use Rattle.numeric.proofs.RangeLaws.{lowest, highest, twenty, rate_whole, real_less, clamp_range}

abbrev top : Float
top = of_bits binary64 0x4330000000000000

-- ---- an accepted rate over 20
pub rate_cut : (r : Float) → T (le lowest r) → T (le r highest) → T (le one (div binary64 r twenty)) × T (lt (div binary64 r twenty) top)
rate_cut r l h = (
  float_le_trans one (div binary64 lowest twenty) (div binary64 r twenty) (unfold le lt eq div of_bits in tt) (div_le twenty (unfold of_bits in tt) lowest r l),
  le_lt_trans (div binary64 r twenty) (div binary64 highest twenty) top (div_le twenty (unfold of_bits in tt) r highest h) (unfold lt div of_bits in tt),
)

-- ---- a number lies below its whole part and 1, and so below that and 9
next_above : (n d w : ℕ) → 0 < d → w ≡ n / d → n * 1 ≤ (w + 9) * d
next_above n d w D e =
    let q : n / d * d + n % d ≡ n = div-add-mod' n d in
    let r : n % d < d = mod-lt n D in
    le_trans (go n (n / d * d) (n % d) d q r) (le_of_eq (sym (rw e (add_nine (n / d) d))))
  where
    go : (n a r d : ℕ) → a + r ≡ n → r < d → n * 1 ≤ a + 9 * d
    go n a r d h k = omega arith

    add_nine : (q d : ℕ) → (q + 9) * d ≡ q * d + 9 * d
    add_nine q d = add-mul q 9 d

whole_cut : (x : Float) → T (positive x) → whole_of x ≤ 9600 → whole_of x ≡ num x / den x
unfolding to_unsigned
whole_cut nan p h = absurd p
whole_cut (inf s) p h = absurd p
whole_cut (fin true m e) p h = absurd p
whole_cut (fin false m e) p h = go (m * up e / down e) h
  where
    go : (q : ℕ) → min q 18446744073709551615 ≤ 9600 → min q 18446744073709551615 ≡ q
    go q h = omega arith

pub below_next : (x : Float) → T (positive x) → whole_of x ≤ 9600 → T (le x (real_of (whole_of x + 9)))
below_next x p h =
    le_of_values x (real_of (whole_of x + 9)) (num x) (den x) (whole_of x + 9) 1 (den_pos x) (lit< tt) (own_value x p)
    (of_int_val (whole_of x + 9) (small (whole_of x) h)) (next_above (num x) (den x) (whole_of x) (den_pos x) (whole_cut x p h))
  where
    small : (w : ℕ) → w ≤ 9600 → w + 9 ≤ 9007199254740992
    small w h = omega arith

-- the clamp's upper end is the whole part and 9
pub clamp_top : (w : ℕ) → w ≤ 9600 → sub binary64 (real_of (w + 10)) one ≡ real_of (w + 9)
clamp_top w h = real_less (w + 10) (low w) (high w h) ∙ ap real_of (less w)
  where
    low : (w : ℕ) → 1 ≤ w + 10
    low w = omega arith

    high : (w : ℕ) → w ≤ 9600 → w + 10 ≤ 9007199254740992
    high w h = omega arith

    less : (w : ℕ) → w + 10 - 1 ≡ w + 9
    less w = omega arith

-- at 20 Hz and above no period reaches it
pub high_period : (r f : Float) → T (le lowest r) → T (le r highest) → T (le twenty f)
    → lt (sub binary64 (real_of (whole_of (div binary64 r twenty) + 10)) one) (div binary64 r f) ≡ false
high_period r f l h k =
    let w = rate_whole r l h in
    let p : T (positive r) = between lowest r highest (unfold of_bits in tt) (unfold of_bits in tt) l h in
    let c = rate_cut r l h in
    let q : T (positive (div binary64 r twenty)) =
    between one (div binary64 r twenty) top (unfold of_bits in tt) (unfold of_bits in tt) c.0 (le_of_lt_true (div binary64 r twenty) top c.1) in
    rw (clamp_top (whole_of (div binary64 r twenty)) w.1)
    (lt_false (real_of (whole_of (div binary64 r twenty) + 9)) (div binary64 r f)
    (float_le_trans (div binary64 r f) (div binary64 r twenty) (real_of (whole_of (div binary64 r twenty) + 9))
    (div_anti r twenty f p (unfold of_bits in tt) k) (below_next (div binary64 r twenty) q w.1)))

-- ---- where a clamped period lies
pub clamped_cut : (x : Float) (w : ℕ) → w ≤ 9600 → T (not (is_nan x))
    → T (le two (clamp_of x two (sub binary64 (real_of (w + 10)) one))) × T (lt (clamp_of x two (sub binary64 (real_of (w + 10)) one)) top)
clamped_cut x w h q = rw (clamp_top w h) (go (clamp_range x two (real_of (w + 9)) room q))
  where
    small : (w : ℕ) → w ≤ 9600 → w + 9 ≤ 9007199254740992
    small w h = omega arith

    room : T (le two (real_of (w + 9)))
    room = le_of_values two (real_of (w + 9)) 2 1 (w + 9) 1 (lit< tt) (lit< tt) (unfold of_bits in (refl, refl)) (of_int_val (w + 9) (small w h)) (at_least w)
      where
        at_least : (w : ℕ) → 2 * 1 ≤ (w + 9) * 1
        at_least w = omega arith

    under : T (lt (real_of (w + 9)) top)
    under = of_true (lt (real_of (w + 9)) top)
        (lt_by_values (real_of (w + 9)) top (w + 9) 1 4503599627370496 1 (lit< tt) (lit< tt) (of_int_val (w + 9) (small w h)) (unfold of_bits in (refl, refl))
        ∙ is_true (ltb ((w + 9) * 1) (4503599627370496 * 1)) (lt→ltb ((w + 9) * 1) (4503599627370496 * 1) (short w h)))
      where
        short : (w : ℕ) → w ≤ 9600 → (w + 9) * 1 < 4503599627370496 * 1
        short w h = omega arith

    go : T (le two (clamp_of x two (real_of (w + 9)))) × T (le (clamp_of x two (real_of (w + 9))) (real_of (w + 9)))
        → T (le two (clamp_of x two (real_of (w + 9)))) × T (lt (clamp_of x two (real_of (w + 9))) top)
    go r = (r.0, le_lt_trans (clamp_of x two (real_of (w + 9))) (real_of (w + 9)) top r.1 under)
