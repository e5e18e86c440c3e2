-- 2 ^ x and 3000 ^ r of a number are numbers: x is split into a whole number and a rest from -1 to 1, of which the polynomial is finite.
use Rattle.std.proofs.Common.{◌≡◌, ℕ, zero, suc, ◌+◌, ◌-◌, ◌*◌, ◌<◌, ◌≤◌, Bool, true, false, cond, not, T, ℤ, pos, sym, refl, ◌∙◌, subst, inl, inr, le_trans}
use Rattle.std.proofs.Common.{le_of_eq, not-suc-le-zero, mul-le-mul_right, mul-one, arith, lit<, lit≤, ltb→lt}
use native.Mathlib.Nat.{suc-le-suc_iff}
use lib.Ieee.{Float, add, binary64, down, eq, fin, inf, is_nan, le, lt, mul, nan, neg, of_bits, round, sub, up}
use lib.Ieee.Exact.{HasValue}
use lib.Ieee.Fits.{add-fits, down_pos}
use lib.Ieee.Positive.{positive}
use Rattle.laws.proofs.Interval.{Within, unit_within, within_add, within_finite, within_mul, within_sub, within_to}
use Rattle.laws.proofs.Monotone.{round_le}
use Rattle.laws.proofs.Near.{Near, near_most}
use Rattle.laws.proofs.Number.{fin_number, mul_number}
use Rattle.laws.proofs.Order.{le_below, le_of_lt_false, le_of_lt_true}
use Rattle.laws.proofs.Tests.{of_true}
use Rattle.laws.proofs.Values.{sub_round, sum_pos_neg}
use Rattle.laws.proofs.Zeros.{minus_zero}
use Rattle.laws.specs.Float.{F64, InUnit, one, two, zer}
use Rattle.numeric.proofs.NearestWhole.{Beside, Whole, nearest_whole}
use Rattle.numeric.proofs.PowerLaws.{bits_pow, scale_at}
use Rattle.numeric.specs.Power.{biased, exp2_of, exp_part, mid_of, pow3000_of, scale_of, scaled_of, six_of}
use Rattle.numeric.specs.Promises.{Exp2Number, Pow3000Number}

-- ---- the split: t = x + biased is the whole number 1.5 * 2 ^ 52 + F, with F the exponent's field, here from low to top, and x - (t - biased) is from -1 to 1
abbrev Field : ℕ → ℕ → ℕ → Type 0
Field low top N = (F : ℕ) × (low ≤ F) × (F ≤ top) × (N ≡ 6755399441055744 + F)

abbrev Split : ℕ → ℕ → Float → Type 0
Split low top x = (F : ℕ) × (low ≤ F) × (F ≤ top) × HasValue (add binary64 x biased) false (6755399441055744 + F) 1
    × Within 0 (sub binary64 x (sub binary64 (add binary64 x biased) biased))

biased_value : HasValue biased false 6755399441056767 1
unfolding of_bits
biased_value = (refl, refl)

-- the rest, where k is the whole number nearest to x
rest : (s : Bool) (x k : Float) (n d K : ℕ) → 0 < d → HasValue x s n d → Near (K * d * 2) (n * 2) d → Whole k s K → Within 0 (sub binary64 x k)
rest s x k n d K D v h (inl w) = within_sub s x k n d K 1 D (lit< tt) v w (one h.1) (two h.0)
  where
    one : n * 2 ≤ K * d * 2 + d → n * 1 ≤ K * d + d * 1
    one h = omega arith

    two : K * d * 2 ≤ n * 2 + d → K * d ≤ n * 1 + d * 1
    two h = omega arith
rest s x k n d K D v h (inr (z, w)) = minus_zero 0 x k false (lit≤ tt) w (s, (n, d, D, small n d (subst (λ (i : ℕ). n * 2 ≤ i * d * 2 + d) z h.1), v))
  where
    small : (n d : ℕ) → n * 2 ≤ 0 * d * 2 + d → n ≤ 1 * d
    small n d h = omega arith

split_of : (low top : ℕ) (s : Bool) (m : ℕ) (e : ℤ) (M : ℕ) → M ≤ 2048 → m * up e * 1 ≤ M * down e
    → ((K N : ℕ) → K ≤ M → Beside s 6755399441056767 K N → Field low top N) → Split low top (fin s m e)
split_of low top s m e M L h field =
    let x = fin s m e in
    let l : m * up e ≤ M * down e = le_trans (le_of_eq (sym (mul-one (m * up e)))) h in
    let r = nearest_whole biased 6755399441056767 biased_value (lit≤ tt) (lit≤ tt) s x (m * up e) (down e) (down_pos e)
    (le_trans l (mul-le-mul_right (down e) L)) (refl, refl) in
    let f = field r.0 r.1 (near_most r.0 M (m * up e) (down e) (down_pos e) l r.3.0) r.2 in (
      f.0,
      f.1,
      f.2,
      subst (λ (z : ℕ). HasValue (add binary64 x biased) false z 1) f.3 r.4,
      rest s x (sub binary64 (add binary64 x biased) biased) (m * up e) (down e) r.0 (down_pos e) (refl, refl) r.3 r.5,
    )

-- the field is 1023 and K, or 1023 less K
field_up : (low M : ℕ) → low ≤ 1023 → (K N : ℕ) → K ≤ M → N ≡ 6755399441056767 + K → Field low (1023 + M) N
field_up low M l K N h e = (1023 + K, omega arith, omega arith, omega arith)

field_down : (top M : ℕ) → M ≤ 1023 → 1023 ≤ top → (K N : ℕ) → K ≤ M → 6755399441056767 ≡ N + K → Field (1023 - M) top N
field_down top M l t K N h e = (1023 - K, omega arith, omega arith, omega arith)

pub split : (x : Float) → T (le (neg (of_bits binary64 0x408ff00000000000)) x) → T (le x (of_bits binary64 0x408ff80000000000)) → Split 1 2046 x
split nan l h = absurd (unfold le lt eq in h)
split (inf true) l h = absurd (unfold le lt eq neg of_bits in l)
split (inf false) l h = absurd (unfold le lt eq of_bits in h)
split (fin false m e) l h =
    split_of 1 2046 false m e 1023 (lit≤ tt) (le_below false false m 1023 e (pos 0) (unfold of_bits in h)) (field_up 1 1023 (lit≤ tt))
split (fin true m e) l h =
    split_of 1 2046 true m e 1022 (lit≤ tt) (le_below true true 511 m (pos 1) e (unfold neg of_bits in l)) (field_down 2046 1022 (lit≤ tt) (lit≤ tt))

-- from 0 to 12 the field is 1023 and at most 12 more
pub split_low : (x : Float) → T (le zer x) → T (le x (of_bits binary64 0x4028000000000000)) → Split 1023 1035 x
split_low nan l h = absurd (unfold le lt eq in h)
split_low (inf true) l h = absurd (unfold le lt eq of_bits in l)
split_low (inf false) l h = absurd (unfold le lt eq of_bits in h)
split_low (fin false m e) l h =
    split_of 1023 1035 false m e 12 (lit≤ tt) (le_below false false m 3 e (pos 2) (unfold of_bits in h)) (field_up 1023 12 (lit≤ tt))
split_low (fin true m e) l h =
    split_of 1023 1035 true m e 0 (lit≤ tt) (nothing (m * up e) (down e) (le_below false true 0 m (pos 0) e (unfold of_bits in l)).1)
    (field_down 1035 0 (lit≤ tt) (lit≤ tt))
  where
    nothing : (a d : ℕ) → a * 1 ≡ 0 → a * 1 ≤ 0 * d
    nothing a d h = omega arith

-- ---- the polynomial
six_within : (z c0 c1 c2 c3 c4 c5 : Float) → Within 0 z → Within 0 c0 → Within 0 c1 → Within 0 c2 → Within 0 c3 → Within 0 c4 → Within 0 c5
    → Within 3 (six_of z c0 c1 c2 c3 c4 c5)
unfolding six_of
six_within z c0 c1 c2 c3 c4 c5 Z h0 h1 h2 h3 h4 h5 =
    let w = mul binary64 z z in
    let W = within_mul 0 0 z z (lit≤ tt) Z Z in
    let p = add binary64 c0 (mul binary64 z c1) in
    let q = add binary64 c2 (mul binary64 z c3) in
    let r = mul binary64 w (add binary64 c4 (mul binary64 z c5)) in
    let R = within_mul 0 1 w (add binary64 c4 (mul binary64 z c5)) (lit≤ tt) W (pair c4 c5 h4 h5) in
    within_add 2 p (mul binary64 w (add binary64 q r)) (lit≤ tt) (within_to 1 2 p (lit≤ tt) (pair c0 c1 h0 h1))
    (within_mul 0 2 w (add binary64 q r) (lit≤ tt) W (within_add 1 q r (lit≤ tt) (pair c2 c3 h2 h3) R))
  where
    pair : (c d : Float) → Within 0 c → Within 0 d → Within 1 (add binary64 c (mul binary64 z d))
    pair c d h k = within_add 0 c (mul binary64 z d) (lit≤ tt) h (within_mul 0 0 z d (lit≤ tt) Z k)

-- its coefficients are from -1 to 1
abbrev UnitBits : ℕ → Type 0
UnitBits b = InUnit (of_bits binary64 b)

evens : UnitBits 0x3ff0000000000000 × UnitBits 0x3fcebfbdff82c598 × UnitBits 0x3f83b2ab6fba1dda × UnitBits 0x3f2430913096fd9f
    × UnitBits 0x3eb62bfd47773353 × UnitBits 0x3e3e6063f7217bc6
unfolding le lt eq neg of_bits
evens = ((tt, tt), (tt, tt), (tt, tt), (tt, tt), (tt, tt), (tt, tt))

odds : UnitBits 0x3fe62e42fefa39ef × UnitBits 0x3fac6b08d704a0c2 × UnitBits 0x3f55d87fe78a5276 × UnitBits 0x3eeffcbfc670dcd4 × UnitBits 0x3e7b524fae627834
    × UnitBits 0x3dfe9d3fe3952179
unfolding le lt eq neg of_bits
odds = ((tt, tt), (tt, tt), (tt, tt), (tt, tt), (tt, tt), (tt, tt))

pub exp_within : (f : Float) → Within 0 f → Within 4 (exp_part f)
unfolding exp_part
exp_within f h =
    let z = mul binary64 f f in
    let Z = within_mul 0 0 f f (lit≤ tt) h h in
    within_add 3 _ _ (lit≤ tt)
    (six_within z (of_bits binary64 0x3ff0000000000000) (of_bits binary64 0x3fcebfbdff82c598) (of_bits binary64 0x3f83b2ab6fba1dda)
    (of_bits binary64 0x3f2430913096fd9f) (of_bits binary64 0x3eb62bfd47773353) (of_bits binary64 0x3e3e6063f7217bc6) Z
    (u 0x3ff0000000000000 evens.0) (u 0x3fcebfbdff82c598 evens.1) (u 0x3f83b2ab6fba1dda evens.2) (u 0x3f2430913096fd9f evens.3)
    (u 0x3eb62bfd47773353 evens.4) (u 0x3e3e6063f7217bc6 evens.5))
    (within_mul 0 3 f _ (lit≤ tt) h
    (six_within z (of_bits binary64 0x3fe62e42fefa39ef) (of_bits binary64 0x3fac6b08d704a0c2) (of_bits binary64 0x3f55d87fe78a5276)
    (of_bits binary64 0x3eeffcbfc670dcd4) (of_bits binary64 0x3e7b524fae627834) (of_bits binary64 0x3dfe9d3fe3952179) Z
    (u 0x3fe62e42fefa39ef odds.0) (u 0x3fac6b08d704a0c2 odds.1) (u 0x3f55d87fe78a5276 odds.2) (u 0x3eeffcbfc670dcd4 odds.3)
    (u 0x3e7b524fae627834 odds.4) (u 0x3dfe9d3fe3952179 odds.5)))
  where
    u : (b : ℕ) → UnitBits b → Within 0 (of_bits binary64 b)
    u b h = unit_within (of_bits binary64 b) h

-- ---- 2 ^ x
pub scale_positive : (t : Float) (F : ℕ) → 1 ≤ F → F ≤ 2046 → F64 t → HasValue t false (6755399441055744 + F) 1 → T (positive (scale_of t))
scale_positive t zero l h f v = absurd (not-suc-le-zero l)
scale_positive t (suc x) l h f v = simp (scale_at t (suc x) h f v, bits_pow x (suc-le-suc_iff.1 h)) tt

mid_number : (x : Float) → T (le (neg (of_bits binary64 0x408ff00000000000)) x) → T (le x (of_bits binary64 0x408ff80000000000)) → T (not (is_nan (mid_of x)))
unfolding mid_of scaled_of
mid_number x l h =
    let k = split x l h in
    let t = add binary64 x biased in
    let f = sub binary64 x (sub binary64 t biased) in
    mul_number (exp_part f) (scale_of t) (scale_positive t k.0 k.1 k.2 (add-fits binary64 x biased) k.3)
    (fin_number (exp_part f) (within_finite 4 (exp_part f) (exp_within f k.4)))

-- x from 1023 to below 1024, less 1
pub less_one : (x : Float) → T (le (of_bits binary64 0x408ff80000000000) x) → T (lt x (of_bits binary64 0x4090000000000000))
    → T (le (neg (of_bits binary64 0x408ff00000000000)) (sub binary64 x one)) × T (le (sub binary64 x one) (of_bits binary64 0x408ff80000000000))
less_one nan l h = absurd (unfold lt in h)
less_one (inf true) l h = absurd (unfold le lt eq of_bits in l)
less_one (inf false) l h = absurd (unfold lt of_bits in h)
less_one (fin true m e) l h = absurd (none (down e) (down_pos e) (le_below false true 1023 m (pos 0) e (unfold of_bits in l)).0)
  where
    none : (d : ℕ) → 0 < d → 1023 * d ≡ 0 → ⊥
    none d D h = omega arith
less_one (fin false m e) l h =
    let n = m * up e in
    let d = down e in
    let lo : 1023 * d ≤ n * 1 = le_below false false 1023 m (pos 0) e (unfold of_bits in l) in
    let hi : n * 1 < 1024 * d = ltb→lt (n * 1) (1024 * d) (unfold lt of_bits in h) in
    let b = range n d (down_pos e) lo hi in
    let is : sub binary64 (fin false m e) one ≡ round binary64 false (n * 1 - 1 * d) (d * 1) =
    sub_round (fin false m e) one false false n d 1 1 (down_pos e) (lit< tt) (refl, refl) (unfold of_bits in (refl, refl))
    ∙ sum_pos_neg (n * 1) (1 * d) (d * 1) b.0 in (
      subst (λ (z : Float). T (le (neg (of_bits binary64 0x408ff00000000000)) z)) (sym is)
          (subst (λ (z : Float). T (le z (round binary64 false (n * 1 - 1 * d) (d * 1)))) low
          (round_le true false 1022 1 (n * 1 - 1 * d) (d * 1) (lit< tt) b.1 tt)),
      subst (λ (z : Float). T (le z (of_bits binary64 0x408ff80000000000))) (sym is)
          (subst (λ (z : Float). T (le (round binary64 false (n * 1 - 1 * d) (d * 1)) z)) high
          (round_le false false (n * 1 - 1 * d) (d * 1) 1023 1 b.1 (lit< tt) b.2)),
    )
  where
    range : (n d : ℕ) → 0 < d → 1023 * d ≤ n * 1 → n * 1 < 1024 * d → (1 * d ≤ n * 1) × (0 < d * 1) × ((n * 1 - 1 * d) * 1 ≤ 1023 * (d * 1))
    range n d D l h = (omega arith, omega arith, omega arith)

    low : round binary64 true 1022 1 ≡ neg (of_bits binary64 0x408ff00000000000)
    low = unfold round neg of_bits in refl

    high : round binary64 false 1023 1 ≡ of_bits binary64 0x408ff80000000000
    high = unfold round of_bits in refl

pub exp2_number : Exp2Number
unfolding exp2_of
exp2_number x q = go (lt x c1023) (le (neg c1022) x) (lt x c1024) (le c1024 x) refl refl refl refl
  where
    c1022 : Float
    c1022 = of_bits binary64 0x408ff00000000000

    c1023 : Float
    c1023 = of_bits binary64 0x408ff80000000000

    c1024 : Float
    c1024 = of_bits binary64 0x4090000000000000

    number : T (not (is_nan c1024))
    number = unfold is_nan of_bits in tt

    zero_number : T (not (is_nan zer))
    zero_number = unfold is_nan of_bits in tt

    go : (a b c d : Bool) → lt x c1023 ≡ a → le (neg c1022) x ≡ b → lt x c1024 ≡ c → le c1024 x ≡ d
        → T (not (is_nan (cond a (cond b (mid_of x) zer) (cond c (mul binary64 (mid_of (sub binary64 x one)) two) (cond d (inf false) nan)))))
    go true true c d p l h g = mid_number x (of_true (le (neg c1022) x) l) (le_of_lt_true x c1023 (of_true (lt x c1023) p))
    go true false c d p l h g = zero_number
    go false b true d p l h g =
        let k = less_one x (le_of_lt_false x c1023 q (unfold is_nan of_bits in tt) p) (of_true (lt x c1024) h) in
        mul_number (mid_of (sub binary64 x one)) two (unfold of_bits in tt) (mid_number (sub binary64 x one) k.0 k.1)
    go false b false true p l h g = unfold is_nan in tt
    go false b false false p l h g = absurd (subst T g (le_of_lt_false x c1024 q number h))

-- ---- 3000 ^ r
pub pow3000_number : Pow3000Number
unfolding pow3000_of
pow3000_number r q = go (eq r one)
  where
    factor : Float
    factor = of_bits binary64 0x402719fb7b8f3242

    go : (b : Bool) → T (not (is_nan (cond b (of_bits binary64 0x40a7700000000000) (exp2_of (mul binary64 r (of_bits binary64 0x402719fb7b8f3242))))))
    go true = unfold is_nan of_bits in tt
    go false = exp2_number (mul binary64 r factor) (mul_number r factor (unfold of_bits in tt) q)
