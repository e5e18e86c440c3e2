-- What is left of x after the nearest number of right angles is taken off lies from -1 to 1.
-- The whole number K is nearest to a rounded product. No word on its error is needed: K - 33/64 and K + 33/64 are floats, and rounding keeps an order,
-- so the exact product lies between them; and 33/64 of a right angle is 0.81.
use Rattle.std.proofs.Common.{◌≡◌, ℕ, zero, suc, ◌+◌, ◌-◌, ◌*◌, ◌<◌, ◌≤◌, Bool, false, not, ltb, sym, refl, ap, ◌∙◌, subst, inl, inr, zero-le, le_trans}
use Rattle.std.proofs.Common.{le_of_eq, lt_of_lt_of_le, le_of_lt, mul-le-mul_right, mul_assoc, add-mul, mul-pos, zero-mul, mul-one, mul_right_comm, arith, lit<}
use Rattle.std.proofs.Common.{lit≤, lt→ltb}
use lib.Ieee.{Float, add, binary64, mul, neg, of_bits, round, sub}
use lib.Ieee.Bits.{is_true}
use lib.Ieee.Exact.{HasValue}
use Rattle.laws.proofs.Interval.{Under, Within, round_under, sub_under, within_between, within_of, within_sum, within_unit}
use Rattle.laws.proofs.Near.{near_most}
use Rattle.laws.proofs.Order.{lt_by_values}
use Rattle.laws.proofs.Rounded.{round_below}
use Rattle.laws.proofs.Values.{exact_at, mul_round, signed_value, sub_round, unlike_plus}
use Rattle.laws.proofs.Zeros.{minus_zero, zero_times}
use Rattle.numeric.proofs.NearestWhole.{Whole, nearest_whole}
use Rattle.numeric.specs.Promises.{Inside, RestInside}
use Rattle.numeric.specs.Trig.{rest_of, shift, shifted_of}

-- ---- the constants
-- 2 / pi, and a right angle in two parts
abbrev pub turns : Float
turns = of_bits binary64 0x3fe45f306dc9c883

abbrev angle : Float
angle = of_bits binary64 0x3ff921fb54442000

abbrev little : Float
little = of_bits binary64 0x3d6a308d313198a3

pub turns_value : HasValue turns false 5734161139222659 9007199254740992
unfolding of_bits
turns_value = (refl, refl)

angle_value : HasValue angle false 863554413089 549755813888
unfolding of_bits
angle_value = (refl, refl)

little_value : HasValue little false 7371732368332963 9903520314283042199192993792
unfolding of_bits
little_value = (refl, refl)

pub shift_value : HasValue shift false 6755399441055744 1
unfolding of_bits
shift_value = (refl, refl)

-- ---- from a rounding back to its fraction: if a / c is rounded to what lies within 1/2 of K, then it lies within 33/64 of K
abbrev Around : ℕ → ℕ → ℕ → Type 0
Around a c K = (a * 64 < (K * 64 + 33) * c) × ((K * 64 - 33) * c ≤ a * 64)

not_above : (a c p q K : ℕ) → 0 < c → 0 < q → K ≤ 326 → HasValue (round binary64 false a c) false p q → p * 2 ≤ K * q * 2 + q → a * 64 < (K * 64 + 33) * c
not_above a c p q K C Q l v h =
    let high : HasValue (round binary64 false (K * 64 + 33) 64) false (K * 64 + 33) 64 = exact_at false (K * 64 + 33) 6 (small K l) (lit≤ tt) in
    round_below a c (K * 64 + 33) 64 C (lit< tt)
    (lt_by_values (round binary64 false a c) (round binary64 false (K * 64 + 33) 64) p q (K * 64 + 33) 64 Q (lit< tt) v high
    ∙ is_true (ltb (p * 64) ((K * 64 + 33) * q)) (lt→ltb (p * 64) ((K * 64 + 33) * q) (less p q K Q h)))
  where
    small : (K : ℕ) → K ≤ 326 → K * 64 + 33 < 9007199254740992
    small K l = omega arith

    less : (p q K : ℕ) → 0 < q → p * 2 ≤ K * q * 2 + q → p * 64 < (K * 64 + 33) * q
    less p q K Q h = omega arith

not_below : (a c p q K : ℕ) → 0 < c → 0 < q → K ≤ 326 → HasValue (round binary64 false a c) false p q → K * q * 2 ≤ p * 2 + q → (K * 64 - 33) * c ≤ a * 64
not_below a c p q zero C Q l v h = le_trans (le_of_eq (zero-mul c)) zero-le
not_below a c p q (suc J) C Q l v h =
    let low : HasValue (round binary64 false (J * 64 + 31) 64) false (J * 64 + 31) 64 = exact_at false (J * 64 + 31) 6 (small J l) (lit≤ tt) in
    subst (λ (z : ℕ). z * c ≤ a * 64) (same J)
    (le_of_lt (round_below (J * 64 + 31) 64 a c (lit< tt) C
    (lt_by_values (round binary64 false (J * 64 + 31) 64) (round binary64 false a c) (J * 64 + 31) 64 p q (lit< tt) Q low v
    ∙ is_true (ltb ((J * 64 + 31) * q) (p * 64)) (lt→ltb ((J * 64 + 31) * q) (p * 64) (less p q J Q h)))))
  where
    same : (J : ℕ) → J * 64 + 31 ≡ suc J * 64 - 33
    same J = omega arith

    small : (J : ℕ) → suc J ≤ 326 → J * 64 + 31 < 9007199254740992
    small J l = omega arith

    less : (p q J : ℕ) → 0 < q → suc J * q * 2 ≤ p * 2 + q → (J * 64 + 31) * q < p * 64
    less p q J Q h = omega arith

-- ---- from right angles to radians: a right angle is above its first part, by less than 2 ^ -39; so n / d lies within 7/8 of K first parts
-- n / d times 2 / pi lies within 33/64 of K
abbrev Turned : ℕ → ℕ → ℕ → Type 0
Turned n d K = Around (n * 5734161139222659) (d * 9007199254740992) K

at_most : (n d K : ℕ) → K ≤ 326 → Turned n d K → n * 549755813888 * 8 ≤ K * 863554413089 * d * 8 + 7 * (d * 549755813888)
at_most n d K l h =
    last n d K (mul-le-mul_right d l) (angles n ((K * 64 + 33) * d) (lt_of_lt_of_le h.0 (le_of_eq (sym (mul_assoc (K * 64 + 33) d 9007199254740992)))))
  where
    angles : (n u : ℕ) → n * 5734161139222659 * 64 < u * 9007199254740992 → n * 549755813888 * 64 ≤ u * 863554413090
    angles n u h = omega arith

    last : (n d K : ℕ) → K * d ≤ 326 * d → n * 549755813888 * 64 ≤ (K * 64 + 33) * d * 863554413090
        → n * 549755813888 * 8 ≤ K * 863554413089 * d * 8 + 7 * (d * 549755813888)
    last n d K l h = omega arith

at_least : (n d K : ℕ) → Turned n d K → K * 863554413089 * d * 8 ≤ n * 549755813888 * 8 + 7 * (d * 549755813888)
at_least n d K h =
    last n d K ((K * 64 - 33) * d) (back K d) (angles n ((K * 64 - 33) * d) (le_trans (le_of_eq (mul_assoc (K * 64 - 33) d 9007199254740992)) h.1))
  where
    angles : (n u : ℕ) → u * 9007199254740992 ≤ n * 5734161139222659 * 64 → u * 863554413089 ≤ n * 549755813888 * 64
    angles n u h = omega arith

    back : (K d : ℕ) → K * 64 * d ≤ (K * 64 - 33) * d + 33 * d
    back K d = le_trans (mul-le-mul_right d (over K)) (le_of_eq (add-mul (K * 64 - 33) 33 d))
      where
        over : (K : ℕ) → K * 64 ≤ K * 64 - 33 + 33
        over K = omega arith

    last : (n d K u : ℕ) → K * 64 * d ≤ u + 33 * d → u * 863554413089 ≤ n * 549755813888 * 64
        → K * 863554413089 * d * 8 ≤ n * 549755813888 * 8 + 7 * (d * 549755813888)
    last n d K u l h = omega arith

-- ---- the rest, where k is K with the sign of x: after the first parts 7/8 is left at most, and the second parts are 1/8 at most
eighths : (r s : Bool) (y z : Float) → Under 7 8 r y → Under 1 8 s z → Within 0 (sub binary64 y z)
eighths r s y z (a, c, C, h, v) (b, d, D, k, w) =
    subst (Within 0) (sym (sub_round y z r s a c b d C D v w))
    (within_sum 0 r (not s) (a * d) (b * c) (c * d) (lit≤ tt) (mul-pos C D)
    (both (a * d) (b * c) c d (left a 7 c d h) (left b 1 d c k)))
  where
    left : (a p c d : ℕ) → a * 8 ≤ p * c → a * d * 8 ≤ p * c * d
    left a p c d h = le_trans (le_of_eq (mul_right_comm a d 8)) (mul-le-mul_right d h)

    both : (x y c d : ℕ) → x * 8 ≤ 7 * c * d → y * 8 ≤ 1 * d * c → x + y ≤ 1 * (c * d)
    both x y c d h k = omega arith

same_sign : (s : Bool) (x k : Float) (n d K : ℕ) → 0 < d → K ≤ 326 → HasValue x s n d → Turned n d K → HasValue k s K 1 → Within 0 (rest_of x k)
unfolding rest_of
same_sign s x k n d K D l v h w =
    let first : HasValue (mul binary64 k angle) s (K * 863554413089) 549755813888 =
    subst (λ (z : Float). HasValue z s (K * 863554413089) 549755813888) (sym (times angle 863554413089 549755813888 (lit< tt) angle_value))
    (exact_at s (K * 863554413089) 39 (short K l) (lit≤ tt)) in
    let second : Under 1 8 s (mul binary64 k little) =
    subst (Under 1 8 s) (sym (times little 7371732368332963 9903520314283042199192993792 (lit< tt) little_value))
    (round_under s (K * 7371732368332963) 9903520314283042199192993792 1 8 (lit< tt) (lit< tt) (tiny K l) (exact_at false 1 3 (lit< tt) (lit≤ tt))) in
    let left = sub_under s x (mul binary64 k angle) n d (K * 863554413089) 549755813888 7 8 D (lit< tt) (lit< tt) v first (at_most n d K l h) (at_least n d K h)
    (exact_at false 7 3 (lit< tt) (lit≤ tt)) in
    eighths left.0 s (sub binary64 x (mul binary64 k angle)) (mul binary64 k little) left.1 second
  where
    times : (y : Float) (b e : ℕ) → 0 < e → HasValue y false b e → mul binary64 k y ≡ round binary64 s (K * b) (1 * e)
    times y b e E u = mul_round k y s false K 1 b e (lit< tt) E w u ∙ ap (λ (t : Bool). round binary64 t (K * b) (1 * e)) (unlike_plus s)

    short : (K : ℕ) → K ≤ 326 → K * 863554413089 < 9007199254740992
    short K l = omega arith

    tiny : (K : ℕ) → K ≤ 326 → K * 7371732368332963 * 8 ≤ 1 * 9903520314283042199192993792
    tiny K l = omega arith

-- ---- where k is +0, nothing is taken off
none_taken : (x k : Float) → Within 0 x → HasValue k false 0 1 → Within 0 (rest_of x k)
unfolding rest_of
none_taken x k h w =
    let first = zero_times 1 k angle false w (within_of 1 angle (unfold of_bits in tt)) in
    let second = zero_times 1 k little false w (within_of 1 little (unfold of_bits in tt)) in
    minus_zero 0 (sub binary64 x (mul binary64 k angle)) (mul binary64 k little) second.0 (lit≤ tt) second.1
    (minus_zero 0 x (mul binary64 k angle) first.0 (lit≤ tt) first.1 h)

either : (s : Bool) (x k : Float) (n d K : ℕ) → 0 < d → K ≤ 326 → HasValue x s n d → Turned n d K → Whole k s K → Within 0 (rest_of x k)
either s x k n d K D l v h (inl w) = same_sign s x k n d K D l v h w
either s x k n d K D l v h (inr (z, w)) = none_taken x k (s, (n, d, D, small n d (subst (Turned n d) z h), v)) w
  where
    small : (n d : ℕ) → Turned n d 0 → n ≤ 1 * d
    small n d h = least h.0
      where
        least : n * 5734161139222659 * 64 < (0 * 64 + 33) * (d * 9007199254740992) → n ≤ 1 * d
        least h = omega arith

-- ---- x is n / d with the sign s, and the product with 2 / pi is rounded to p / q
rest_within : (s : Bool) (x : Float) (n d : ℕ) → 0 < d → n ≤ 512 * d → HasValue x s n d → Within 0 (rest_of x (sub binary64 (shifted_of x) shift))
unfolding shifted_of
rest_within s x n d D h v =
    let r = round_under false a c 326 1 C (lit< tt) (most n d h) (exact_at false 326 0 (lit< tt) (lit≤ tt)) in
    let y : HasValue (mul binary64 x turns) s r.0 r.1 =
    subst (λ (z : Float). HasValue z s r.0 r.1) (sym product) (signed_value s a c r.0 r.1 r.4) in
    taken r.0 r.1 r.2 (le_trans (le_of_eq (sym (mul-one r.0))) r.3) r.4 y
  where
    a : ℕ
    a = n * 5734161139222659

    c : ℕ
    c = d * 9007199254740992

    C : 0 < c
    C = mul-pos D (lit< tt)

    most : (n d : ℕ) → n ≤ 512 * d → n * 5734161139222659 * 1 ≤ 326 * (d * 9007199254740992)
    most n d h = omega arith

    product : mul binary64 x turns ≡ round binary64 s a c
    product =
        mul_round x turns s false n d 5734161139222659 9007199254740992 D (lit< tt) v turns_value
        ∙ ap (λ (t : Bool). round binary64 t a c) (unlike_plus s)

    taken : (p q : ℕ) → 0 < q → p ≤ 326 * q → HasValue (round binary64 false a c) false p q → HasValue (mul binary64 x turns) s p q
        → Within 0 (rest_of x (sub binary64 (add binary64 (mul binary64 x turns) shift) shift))
    taken p q Q l w y =
        let k = nearest_whole shift 6755399441055744 shift_value (lit≤ tt) (lit≤ tt) s (mul binary64 x turns) p q Q
        (le_trans l (mul-le-mul_right q (lit≤ tt))) y in
        let K : k.0 ≤ 326 = near_most k.0 326 p q Q l k.3.0 in
        either s x (sub binary64 (add binary64 (mul binary64 x turns) shift) shift) n d k.0 D K v
        (not_above a c p q k.0 C Q K w k.3.1, not_below a c p q k.0 C Q K w k.3.0) k.5

-- ---- |x| is at most 512
inside_within : (x : Float) → Inside x → Within 9 x
unfolding of_bits neg
inside_within x h = within_between 9 x h.1 h.0

pub rest_inside : RestInside
rest_inside x h =
    let w = inside_within x h in
    let p = w.1 in
    within_unit (rest_of x (sub binary64 (shifted_of x) shift)) (rest_within w.0 x p.0 p.1 p.2 p.3 p.4)
