-- A mean of two numbers whose weights add up to 1 exactly is no larger than both, rounded as it is; and numbers that are
-- multiples of 2 ^ -j, of which such weights are made.
use mathlib.Core.Bool.{Bool, true, false}
use mathlib.Core.Path.{◌≡◌, refl, sym, ap, ◌∙◌, subst}
use Prim.Native.Nat.{ℕ, suc, ◌+◌, ◌-◌, ◌*◌, ◌^◌, ◌≤◌, ◌<◌}
use native.Mathlib.Nat.{le_trans, le_of_eq, le_of_suc-le-suc, lt_of_not-le, not-le_of_lt}
use native.Mathlib.Nat.{le_of_mul-le-mul_right, mul-le-mul_right, add-le-add, mul-pos, mul_assoc, mul-one}
use native.Mathlib.Omega.{arith}
use lib.Dec.{T, lit<}
use lib.IntN.{ℤ, pos, negsuc}
use lib.Pow.{pow_pos, pow_mono, pow-add}
use lib.Ieee.{Float, nan, inf, fin, binary64, up, down, add, sub, mul, round, of_bits}
use lib.Ieee.Exact.{HasValue}
use lib.Ieee.Positive.{positive, num, den}
use Rattle.laws.proofs.Interval.{Exact, Sized, Under, Within, round_under, within_sum}
use Rattle.laws.proofs.Values.{fits_small, unlike_plus, mul_round, add_round, sub_round, sum_pos_neg, exact_at}
use Rattle.laws.specs.Float.{F64, one}

-- ---- a mean
-- x of at most 2 ^ k, times a weight of p parts
times : (s : Bool) (k h p : ℕ) (x u : Float) → Exact p (2 ^ h) → Sized s k x → HasValue u false p (2 ^ k * 2 ^ h) → Under p (2 ^ h) s (mul binary64 x u)
times s k h p x u t z w =
    subst (Under p (2 ^ h) s) (sym (mul_round x u s false z.0 z.1 p (2 ^ k * 2 ^ h) z.2 D z.4 w
    ∙ ap (λ (b : Bool). round binary64 b (z.0 * p) (z.1 * (2 ^ k * 2 ^ h))) (unlike_plus s)))
    (round_under s (z.0 * p) (z.1 * (2 ^ k * 2 ^ h)) p (2 ^ h) (mul-pos z.2 D) (pow_pos h) (cross z.0 z.1 p (2 ^ k) (2 ^ h) z.3) t)
  where
    D : 0 < 2 ^ k * 2 ^ h
    D = mul-pos (pow_pos k) (pow_pos h)

    turn : (u c p v : ℕ) → u * c * p * v ≡ p * (c * (u * v))
    turn u c p v = omega arith

    cross : (a c p u v : ℕ) → a ≤ u * c → a * p * v ≤ p * (c * (u * v))
    cross a c p u v q = le_trans (mul-le-mul_right v (mul-le-mul_right p q)) (le_of_eq (turn u c p v))

pub weighed : (k h p q : ℕ) (x y u v : Float) → k ≤ 1023 → Exact p (2 ^ h) → Exact q (2 ^ h) → p + q ≡ 2 ^ k * 2 ^ h → Within k x → Within k y
    → HasValue u false p (2 ^ k * 2 ^ h) → HasValue v false q (2 ^ k * 2 ^ h)
    → Within k (add binary64 (mul binary64 x u) (mul binary64 y v))
weighed k h p q x y u v K P Q e X Y U W =
    let a = times X.0 k h p x u P X.1 U in
    let b = times Y.0 k h q y v Q Y.1 W in
    subst (Within k) (sym (add_round (mul binary64 x u) (mul binary64 y v) X.0 Y.0 a.0 a.1 b.0 b.1 a.2 b.2 a.4 b.4))
    (within_sum k X.0 Y.0 (a.0 * b.1) (b.0 * a.1) (a.1 * b.1) K (mul-pos a.2 b.2)
    (both a.0 a.1 b.0 b.1 p q (2 ^ k) (2 ^ h) (pow_pos h) e a.3 b.3))
  where
    spread_out : (a d b c v : ℕ) → (a * d + b * c) * v ≡ a * v * d + b * v * c
    spread_out a d b c v = omega arith

    gather : (p q c d : ℕ) → p * c * d + q * d * c ≡ (p + q) * (c * d)
    gather p q c d = omega arith

    turn : (u v n : ℕ) → u * v * n ≡ u * n * v
    turn u v n = omega arith

    both : (a c b d p q u v : ℕ) → 0 < v → p + q ≡ u * v → a * v ≤ p * c → b * v ≤ q * d → a * d + b * c ≤ u * (c * d)
    both a c b d p q u v K e h g =
        le_of_mul-le-mul_right
        (le_trans (le_of_eq (spread_out a d b c v))
        (le_trans (add-le-add (mul-le-mul_right d h) (mul-le-mul_right c g)) (le_of_eq (gather p q c d ∙ ap (λ (z : ℕ). z * (c * d)) e ∙ turn u v (c * d)))))
        K

-- ---- multiples of 2 ^ -j
-- a number of 2 ^ (52 - j) and more is one
pub on_grid : (j m : ℕ) (e : ℤ) → F64 (fin false m e) → down e * 2 ^ 52 ≤ m * up e * 2 ^ j → (p : ℕ) × HasValue (fin false m e) false p (2 ^ j)
on_grid j m (pos k) f h = (m * 2 ^ k * 2 ^ j, (refl, sym (mul-one (m * 2 ^ k * 2 ^ j))))
on_grid j m (negsuc k) f h = (m * 2 ^ (j - suc k), (refl, same))
  where
    small : m < 2 ^ 53
    small = fits_small false m (negsuc k) f

    turn : (u v : ℕ) → 9007199254740992 * u ≡ u * 2 * 4503599627370496
    turn u v = omega arith

    ones : (m u : ℕ) → m * 1 * u ≡ m * u
    ones m u = omega arith

    double : (j : ℕ) → 2 ^ j * 2 ≡ 2 ^ suc j
    double j = omega arith

    near : suc k ≤ j
    near = le_of_suc-le-suc (lt_of_not-le (λ (g : suc j ≤ suc k). not-le_of_lt small
        (le_of_mul-le-mul_right (le_trans (le_of_eq (turn (2 ^ j) 0 ∙ ap (λ (z : ℕ). z * 4503599627370496) (double j)))
        (le_trans (mul-le-mul_right 4503599627370496 (pow_mono g)) (le_trans h (le_of_eq (ones m (2 ^ j)))))) (pow_pos j))))

    back : (j k : ℕ) → k ≤ j → j - k + k ≡ j
    back j k h = omega arith

    same : m * 1 * 2 ^ j ≡ m * 2 ^ (j - suc k) * 2 ^ suc k
    same = ones m (2 ^ j) ∙ ap (λ (z : ℕ). m * z) (ap (λ (z : ℕ). 2 ^ z) (sym (back j (suc k) near)) ∙ pow-add 2 (j - suc k) (suc k))
        ∙ sym (mul_assoc m (2 ^ (j - suc k)) (2 ^ suc k))

pub grid_of : (j : ℕ) (x : Float) → F64 x → T (positive x) → den x * 2 ^ 52 ≤ num x * 2 ^ j → (p : ℕ) × HasValue x false p (2 ^ j)
grid_of j nan f q h = absurd q
grid_of j (inf s) f q h = absurd q
grid_of j (fin true m e) f q h = absurd q
grid_of j (fin false m e) f q h = on_grid j m e f h

-- 1 less p parts
pub rest_of : (j p : ℕ) (x : Float) → j ≤ 1074 → p ≤ 2 ^ j → 2 ^ j - p < 2 ^ 53 → HasValue x false p (2 ^ j)
    → HasValue (sub binary64 one x) false (2 ^ j - p) (2 ^ j)
rest_of j p x J h k v =
    subst (λ (z : Float). HasValue z false (2 ^ j - p) (2 ^ j))
    (sym (sub_round one x false false 1 1 p (2 ^ j) (lit< tt) (pow_pos j) (unfold of_bits in (refl, refl)) v
    ∙ sum_pos_neg (1 * 2 ^ j) (p * 1) (1 * 2 ^ j) (fits_in p (2 ^ j) h) ∙ same p (2 ^ j)))
    (exact_at false (2 ^ j - p) j k J)
  where
    fits_in : (p u : ℕ) → p ≤ u → p * 1 ≤ 1 * u
    fits_in p u h = omega arith

    one_of : (u : ℕ) → 1 * u ≡ u
    one_of u = omega arith

    taken : (p u : ℕ) → 1 * u - p * 1 ≡ u - p
    taken p u = omega arith

    same : (p u : ℕ) → round binary64 false (1 * u - p * 1) (1 * u) ≡ round binary64 false (u - p) u
    same p u = rw (taken p u, one_of u)
