-- The draw is exact, and twice it less 1 too, which is from -1 to 1.
use Rattle.std.proofs.Common.{◌≡◌, ℕ, ◌-◌, ◌*◌, ◌^◌, ◌<◌, ◌≤◌, Bool, true, false, cond, not, T, ltb, pos, negsuc, sym, refl, ap, ◌∙◌, subst, le_of_lt}
use Rattle.std.proofs.Common.{zero-lt-suc, mul-one, arith, lit<, lit≤, ltb→lt, nltb→le}
use lib.Ieee.{Float, binary64, fin, mul, of_bits, of_int, round, sum}
use lib.Ieee.Exact.{HasValue}
use lib.Ieee.Scale.{round_same}
use Rattle.laws.proofs.Interval.{Within}
use Rattle.laws.proofs.Values.{exact_at, mul_round, of_int_val, rescale, sub_round, sum_neg, sum_pos_neg}
use Rattle.laws.specs.Float.{two}
use Rattle.numeric.specs.Basic.{real_of}
use Rattle.numeric.specs.Draw.{bipolar_of, draw_of}
use Rattle.numeric.specs.Promises.{BipolarExact, DrawExact}

-- k * 2 ^ -53, exactly
pub draw_exact : DrawExact
unfolding draw_of of_bits
draw_exact k h =
    subst (λ (z : Float). HasValue z false k (2 ^ 53))
    (sym (mul_round (of_int binary64 (pos k)) (fin false 1 (negsuc 52)) false false k 1 1 9007199254740992 (zero-lt-suc 0) (lit< tt) (of_int_val k (le_of_lt h))
    (refl, refl)
    ∙ ap (λ (z : ℕ). round binary64 false z 9007199254740992) (mul-one k)))
    (exact_at false k 53 h (lit≤ tt))

-- twice that, exactly
twice_round : (k : ℕ) → k < 2 ^ 53 → mul binary64 (draw_of k) two ≡ round binary64 false k 4503599627370496
unfolding draw_of of_bits
twice_round k h =
    mul_round (mul binary64 (of_int binary64 (pos k)) (fin false 1 (negsuc 52))) (fin false 1 (pos 1)) false false k (2 ^ 52 * 2) 2 1 (lit< tt) (zero-lt-suc 0)
    (draw_exact k h) (refl, refl)
    ∙ same k
  where
    same : (k : ℕ) → round binary64 false (k * 2) 9007199254740992 ≡ round binary64 false k 4503599627370496
    same k = round_same binary64 false (k * 2) 9007199254740992 k 4503599627370496 (lit< tt) (lit< tt) (twice k)
      where
        twice : (k : ℕ) → k * 2 * 4503599627370496 ≡ k * 9007199254740992
        twice k = omega arith

twice_exact : (k : ℕ) → k < 2 ^ 53 → HasValue (mul binary64 (draw_of k) two) false k (2 ^ 52)
twice_exact k h = subst (λ (z : Float). HasValue z false k (2 ^ 52)) (sym (twice_round k h)) (exact_at false k 52 h (lit≤ tt))

-- so one product gives it too, by 2 ^ -52
pub twice_once : (k : ℕ) → k < 2 ^ 53 → mul binary64 (real_of k) (of_bits binary64 0x3cb0000000000000) ≡ mul binary64 (draw_of k) two
unfolding of_bits
twice_once k h =
    mul_round (of_int binary64 (pos k)) (fin false 1 (negsuc 51)) false false k 1 1 4503599627370496 (zero-lt-suc 0) (lit< tt)
    (of_int_val k (le_of_lt h)) (refl, refl)
    ∙ ap (λ (z : ℕ). round binary64 false z 4503599627370496) (mul-one k)
    ∙ sym (twice_round k h)

less_one : (k : ℕ) → k < 2 ^ 53 → bipolar_of k ≡ sum binary64 false (k * 1) true (1 * 4503599627370496) 4503599627370496
unfolding bipolar_of draw_of of_bits
less_one k h = sub_round (mul binary64 (mul binary64 (of_int binary64 (pos k)) (fin false 1 (negsuc 52))) (fin false 1 (pos 1)))
    (fin false 1 (pos 0)) false false k 4503599627370496 1 1 (lit< tt) (zero-lt-suc 0) (twice_exact k h) (refl, refl)

bipolar_high : (k : ℕ) → 2 ^ 52 ≤ k → k < 2 ^ 53 → HasValue (bipolar_of k) false (k - 2 ^ 52) (2 ^ 52)
bipolar_high k l h =
    subst (λ (z : Float). HasValue z false (k - 2 ^ 52) (2 ^ 52))
    (sym (less_one k h ∙ sum_pos_neg (k * 1) 4503599627370496 4503599627370496 (subst (λ (z : ℕ). 4503599627370496 ≤ z) (sym (mul-one k)) l)
    ∙ ap (λ (z : ℕ). round binary64 false (z - 4503599627370496) 4503599627370496) (mul-one k)))
    (exact_at false (k - 2 ^ 52) 52 (small k h) (lit≤ tt))
  where
    small : (k : ℕ) → k < 9007199254740992 → k - 4503599627370496 < 9007199254740992
    small k h = omega arith

bipolar_low : (k : ℕ) → k < 2 ^ 52 → HasValue (bipolar_of k) true (2 ^ 52 - k) (2 ^ 52)
bipolar_low k l =
    subst (λ (z : Float). HasValue z true (2 ^ 52 - k) (2 ^ 52))
    (sym (less_one k (wide k l) ∙ sum_neg (k * 1) 4503599627370496 4503599627370496 (subst (λ (z : ℕ). z < 4503599627370496) (sym (mul-one k)) l)
    ∙ ap (λ (z : ℕ). round binary64 true (4503599627370496 - z) 4503599627370496) (mul-one k)))
    (exact_at true (2 ^ 52 - k) 52 (small k) (lit≤ tt))
  where
    small : (k : ℕ) → 4503599627370496 - k < 9007199254740992
    small k = omega arith

    wide : (k : ℕ) → k < 4503599627370496 → k < 9007199254740992
    wide k h = omega arith

-- the same over 2 ^ 53
pub bipolar_exact : BipolarExact
bipolar_exact k h = go (ltb (2 * k) 9007199254740992) (ltb→lt (2 * k) 9007199254740992) (nltb→le (2 * k) 9007199254740992)
  where
    low : (k : ℕ) → 2 * k < 9007199254740992 → k < 4503599627370496
    low k h = omega arith

    high : (k : ℕ) → 9007199254740992 ≤ 2 * k → 4503599627370496 ≤ k
    high k h = omega arith

    less : (k : ℕ) → (9007199254740992 - 2 * k) * 4503599627370496 ≡ (4503599627370496 - k) * 9007199254740992
    less k = omega arith

    more : (k : ℕ) → (2 * k - 9007199254740992) * 4503599627370496 ≡ (k - 4503599627370496) * 9007199254740992
    more k = omega arith

    go : (b : Bool) → (T b → 2 * k < 9007199254740992) → (T (not b) → 9007199254740992 ≤ 2 * k)
        → HasValue (bipolar_of k) b (cond b (9007199254740992 - 2 * k) (2 * k - 9007199254740992)) 9007199254740992
    go true f g = rescale (bipolar_of k) true (4503599627370496 - k) 4503599627370496 (9007199254740992 - 2 * k) 9007199254740992 (lit< tt) (less k)
        (bipolar_low k (low k (f tt)))
    go false f g = rescale (bipolar_of k) false (k - 4503599627370496) 4503599627370496 (2 * k - 9007199254740992) 9007199254740992 (lit< tt) (more k)
        (bipolar_high k (high k (g tt)) h)

-- so no draw is larger than 1
pub bipolar_within : (k : ℕ) → k < 2 ^ 53 → Within 0 (bipolar_of k)
bipolar_within k h =
    let low = ltb (2 * k) (2 ^ 53) in (low, (cond low (2 ^ 53 - 2 * k) (2 * k - 2 ^ 53), 2 ^ 53, lit< tt, small low k h, bipolar_exact k h))
  where
    small : (b : Bool) (k : ℕ) → k < 9007199254740992 → cond b (9007199254740992 - 2 * k) (2 * k - 9007199254740992) ≤ 1 * 9007199254740992
    small true k h = omega arith
    small false k h = omega arith
