-- The filters take time off a period and never add any, so the delay that is left for the line isn't longer than the period.
use Rattle.std.proofs.Common.{◌≡◌, ℕ, ◌+◌, ◌-◌, ◌*◌, ◌<◌, ◌≤◌, Bool, true, false, cond, not, T, pos, negsuc, sym, refl, subst, le_trans, le_of_eq, one-mul}
use Rattle.std.proofs.Common.{arith, lit<}
use lib.Ieee.{Float, nan, inf, fin, binary64, up, down, add, sub, mul, div, neg, sum, round, lt, le, eq, is_nan, of_bits, fits}
use lib.Ieee.Bits.{is_true}
use lib.Ieee.Fits.{down_pos, sub-fits}
use lib.Ieee.Order.{round_mono}
use Rattle.laws.proofs.Values.{sum_pos_neg}
use Rattle.laws.proofs.Unique.{round_own}
use Rattle.laws.proofs.Sign.{Plus, div_plus, one_less, one_round, sub_below, above_plus}
use Rattle.laws.proofs.Monotone.{mul_le, unit_law}
use Rattle.laws.proofs.Order.{le_below, le_of_lt_true, float_le_trans, lt_le_trans}
use Rattle.laws.proofs.Number.{le_numbers}
use Rattle.laws.proofs.Tests.{of_true}
use Rattle.laws.specs.Float.{F64, zer, one}
use Rattle.numeric.specs.Basic.{max_of}
use Rattle.common.specs.Consts.{half}
use Rattle.karplus_strong.specs.Consts.{spread}

-- ---- the one-pole filter: its coefficient lies in [1/2, 1]
half_up : (a c : ℕ) → 0 < c → c ≤ a * 2 → a ≤ c → T (le half (round binary64 false a c)) × T (le (round binary64 false a c) one)
half_up a c C h k = (
  subst (λ (z : Float). T (le z (round binary64 false a c))) own (round_mono binary64 1 2 a c (lit< tt) C (le_trans (le_of_eq (one-mul c)) h)),
  unfold of_bits in (unit_law a c C k).1,
)
  where
    own : round binary64 false 1 2 ≡ half
    own = unfold of_bits fits in round_own false (fin false 1 (negsuc 0)) 1 2 (lit< tt) tt (refl, refl)

half_more : (p : Float) → T (le zer p) → T (le p half) → T (le half (add binary64 half p)) × T (le (add binary64 half p) one)
unfolding add of_bits
half_more nan l h = absurd (unfold le lt eq in h)
half_more (inf true) l h = absurd (unfold le lt eq in l)
half_more (inf false) l h = absurd (unfold le lt eq in h)
half_more (fin false n d) l h =
    let r = fits_in (n * up d) (down d) (down_pos d) (le_below false false n 1 d (negsuc 0) h) in
    unfold sum in half_up (1 * down d + n * up d * 2) (2 * down d) r.0 r.1 r.2
  where
    fits_in : (n d : ℕ) → 0 < d → n * 2 ≤ 1 * d → (0 < 2 * d) × (2 * d ≤ (1 * d + n * 2) * 2) × (1 * d + n * 2 ≤ 2 * d)
    fits_in n d D h = (omega arith, omega arith, omega arith)
half_more (fin true n d) l h =
    let r = fits_in (n * up d) (down d) (down_pos d) (le_below false true 0 n (pos 0) d l).1 in
    subst (λ (z : Float). T (le (fin false 1 (negsuc 0)) z) × T (le z (fin false 1 (pos 0))))
    (sym (sum_pos_neg (1 * down d) (n * up d * 2) (2 * down d) r.3))
    (half_up (1 * down d - n * up d * 2) (2 * down d) r.0 r.1 r.2)
  where
    fits_in : (n d : ℕ) → 0 < d → n * 1 ≡ 0 → (0 < 2 * d) × (2 * d ≤ (1 * d - n * 2) * 2) × (1 * d - n * 2 ≤ 2 * d) × (n * 2 ≤ 1 * d)
    fits_in n d D h = (omega arith, omega arith, omega arith, omega arith)

pub filter_unit : (d : Float) → T (le zer d) → T (le d one)
    → T (le half (add binary64 half (mul binary64 d spread))) × T (le (add binary64 half (mul binary64 d spread)) one)
filter_unit d l h =
    half_more (mul binary64 d spread)
    (float_le_trans zer (mul binary64 zer spread) (mul binary64 d spread) (unfold le lt eq mul of_bits in tt) (mul_le spread (unfold of_bits in tt) zer d l))
    (float_le_trans (mul binary64 d spread) (mul binary64 one spread) half (mul_le spread (unfold of_bits in tt) d one h) (unfold le lt eq mul of_bits in tt))

pub filter_delay : (c : Float) → T (le half c) → T (le c one) → Plus (div binary64 (sub binary64 one c) c)
filter_delay c l h = div_plus (sub binary64 one c) c (one_less c h) (above_plus c (is_true (lt zer c) (lt_le_trans zer half c (unfold lt of_bits in tt) l)))

-- ---- the allpass: its coefficient lies in [-1, 1]
pub allpass_delay : (s : Float) → T (le (neg one) s) → T (le s one)
    → Plus (div binary64 (sub binary64 one (mul binary64 (neg half) s)) (add binary64 one (mul binary64 (neg half) s)))
allpass_delay s l h = div_plus (sub binary64 one (mul binary64 (neg half) s)) (add binary64 one (mul binary64 (neg half) s)) both.0 both.1
  where
    twice : (d : ℕ) → 0 < d → 0 < 2 * d
    twice d D = omega arith

    room : (n d : ℕ) → n * 1 ≤ 1 * d → 1 * n ≤ 2 * d
    room n d h = omega arith

    go : (s : Float) → T (le (neg one) s) → T (le s one)
        → Plus (sub binary64 one (mul binary64 (neg half) s)) × Plus (add binary64 one (mul binary64 (neg half) s))
    go nan l h = absurd (unfold le lt eq in h)
    go (inf true) l h = absurd (unfold le lt eq neg of_bits in l)
    go (inf false) l h = absurd (unfold le lt eq of_bits in h)
    go (fin false n d) l h = unfold mul neg of_bits in
        one_round true (1 * (n * up d)) (2 * down d) (twice (down d) (down_pos d))
        (room (n * up d) (down d) (le_below false false n 1 d (pos 0) (unfold of_bits in h)))
    go (fin true n d) l h = unfold mul neg of_bits in
        one_round false (1 * (n * up d)) (2 * down d) (twice (down d) (down_pos d))
        (room (n * up d) (down d) (le_below true true 1 n (pos 0) d (unfold neg of_bits in l)))

    both : Plus (sub binary64 one (mul binary64 (neg half) s)) × Plus (add binary64 one (mul binary64 (neg half) s))
    both = go s l h

-- ---- what is left
sub_number : (x y : Float) → T (not (is_nan (sub binary64 x y))) → T (not (is_nan x))
unfolding sub add is_nan
sub_number nan y h = h
sub_number (inf s) y h = tt
sub_number (fin s m e) y h = tt

-- what is left of a period once both delays are taken off, or 1
pub left_below : (x y z : Float) → F64 x → T (le one x) → Plus y → Plus z → T (le (max_of (sub binary64 (sub binary64 x y) z) one) x)
unfolding max_of
left_below x y z f l p q = go (lt one d) refl
  where
    d : Float
    d = sub binary64 (sub binary64 x y) z

    one_number : is_nan one ≡ false
    one_number = unfold is_nan of_bits in refl

    go : (b : Bool) → lt one d ≡ b → T (le (cond b d (cond (is_nan one) d one)) x)
    go true e =
        let n : T (not (is_nan d)) = (le_numbers one d (le_of_lt_true one d (of_true (lt one d) e))).1 in
        float_le_trans d (sub binary64 x y) x (sub_below (sub binary64 x y) z (sub-fits binary64 x y) q n)
        (sub_below x y f p (sub_number (sub binary64 x y) z n))
    go false e = rw one_number l
