-- Above 0 and up to 2 the sine has no minus sign: no right angle is taken off, or one. Then it is the sine of x, or the cosine of the rest;
-- and each is a number less a part of it.
use Rattle.std.proofs.Common.{◌≡◌, ℕ, zero, suc, ◌+◌, ◌*◌, ◌%◌, ◌<◌, ◌≤◌, Bool, true, false, cond, not, T, pos, sym, refl, ap, ◌∙◌, subst, le_trans, le_of_eq}
use Rattle.std.proofs.Common.{mul-pos, mul-one, arith, lit<, lit≤, ltb→lt}
use lib.Ieee.{Float, add, binary64, down, eq, fin, inf, le, lt, mul, nan, neg, of_bits, sub, to_bits, up}
use lib.Ieee.Bits.{of_bits-fits}
use lib.Ieee.Exact.{HasValue}
use lib.Ieee.Fits.{add-fits, down_pos}
use lib.Ieee.Positive.{positive, positive_of_value}
use Rattle.laws.proofs.Interval.{Part, part_mul, part_sized, part_square, round_under, unit_within, within_unit}
use Rattle.laws.proofs.Monotone.{mul_le}
use Rattle.laws.proofs.Order.{eq_by_values, float_le_trans, le_below, le_of_lt_true}
use Rattle.laws.proofs.Sign.{Plus, less_plus, one_less, positive_plus}
use Rattle.laws.proofs.Tests.{eqb_no, of_false}
use Rattle.laws.proofs.Unique.{one_times, value_unique}
use Rattle.laws.proofs.Values.{exact_at, float_mul_comm, mul_round}
use Rattle.laws.proofs.Zeros.{plus_nought}
use Rattle.laws.specs.Float.{F64, InUnit, one, two, zer}
use Rattle.numeric.proofs.BasicLaws.{plus_own}
use Rattle.numeric.proofs.NearestWhole.{nearest_whole}
use Rattle.numeric.proofs.RestLaws.{rest_inside, shift_value, turns, turns_value}
use Rattle.numeric.proofs.TrigLaws.{cos_pairs, near_in, sin_pairs}
use Rattle.numeric.specs.Promises.{Inside, SinPositive}
use Rattle.numeric.specs.Trig.{far_of, is_near, kernel_cos, kernel_sin, quadrant, rest_of, shift, shifted_of, sin_of, turned_of}

-- ---- the kernels
part_one : (x : Float) → Part 0 x → T (le x one)
part_one x p = (within_unit x (false, part_sized x p)).1

-- a number above 0 times what is at most 1
times_part : (x y : Float) → F64 x → T (positive x) → Part 0 y → T (le (mul binary64 x y) x)
times_part x y f p q =
    subst (λ (z : Float). T (le z x)) (float_mul_comm y x)
    (subst (λ (z : Float). T (le (mul binary64 y x) z)) (one_times x f) (mul_le x p y one (part_one y q)))

sin_plus : (x : Float) → F64 x → T (positive x) → InUnit x → Plus (kernel_sin x)
unfolding kernel_sin
sin_plus x f p u =
    let w = unit_within x u in
    let Z : Part 0 (mul binary64 x x) = part_square w.0 x w.1 in
    less_plus x _ (positive_plus x p) (times_part x _ f p (part_mul 0 (mul binary64 x x) _ (lit≤ tt) Z (sin_pairs (mul binary64 x x) Z)))

cos_plus : (r : Float) → InUnit r → Plus (kernel_cos r)
unfolding kernel_cos
cos_plus r u =
    let w = unit_within r u in
    let Z : Part 0 (mul binary64 r r) = part_square w.0 r w.1 in
    one_less _ (part_one _ (part_mul 0 (mul binary64 r r) _ (lit≤ tt) Z (cos_pairs (mul binary64 r r) Z)))

-- ---- x is n / d: its right angles are nearest to none or to one
abbrev first : Float
first = of_bits binary64 0x4338000000000001

module _ (n d : ℕ) (D : 0 < d) (h : n ≤ 2 * d) (x : Float) (v : HasValue x false n d) where
  shifted : (P : Float → Type 0) → P shift → P first → P (shifted_of x)
  unfolding shifted_of
  shifted P none some =
      let r = round_under false a c 11 8 C (lit< tt) (few n d h) (exact_at false 11 3 (lit< tt) (lit≤ tt)) in
      let product = mul_round x turns false false n d 5734161139222659 9007199254740992 D (lit< tt) v turns_value in
      let y : HasValue (mul binary64 x turns) false r.0 r.1 = subst (λ (z : Float). HasValue z false r.0 r.1) (sym product) r.4 in
      let k = nearest_whole shift 6755399441055744 shift_value (lit≤ tt) (lit≤ tt) false (mul binary64 x turns) r.0 r.1 r.2
      (less r.0 r.1 r.3) y in
      whole k.0 k.1 k.2 r.0 r.1 r.2 r.3 k.3.0 k.4
    where
      a : ℕ
      a = n * 5734161139222659

      c : ℕ
      c = d * 9007199254740992

      C : 0 < c
      C = mul-pos D (lit< tt)

      few : (n d : ℕ) → n ≤ 2 * d → n * 5734161139222659 * 8 ≤ 11 * (d * 9007199254740992)
      few n d h = omega arith

      less : (p q : ℕ) → p * 8 ≤ 11 * q → p ≤ 2048 * q
      less p q h = omega arith

      whole : (K N : ℕ) → N ≡ 6755399441055744 + K → (p q : ℕ) → 0 < q → p * 8 ≤ 11 * q → K * q * 2 ≤ p * 2 + q
          → HasValue (add binary64 (mul binary64 x turns) shift) false N 1 → P (add binary64 (mul binary64 x turns) shift)
      whole zero N e p q Q l k w =
          subst P (value_unique shift (add binary64 (mul binary64 x turns) shift) false 6755399441055744 1 (lit< tt) (of_bits-fits binary64 0x4338000000000000)
          (add-fits binary64 (mul binary64 x turns) shift) shift_value
          (subst (λ (z : ℕ). HasValue (add binary64 (mul binary64 x turns) shift) false z 1) e w)) none
      whole (suc zero) N e p q Q l k w =
          subst P (value_unique first (add binary64 (mul binary64 x turns) shift) false 6755399441055745 1 (lit< tt) (of_bits-fits binary64 0x4338000000000001)
          (add-fits binary64 (mul binary64 x turns) shift) (unfold of_bits in (refl, refl))
          (subst (λ (z : ℕ). HasValue (add binary64 (mul binary64 x turns) shift) false z 1) e w)) some
      whole (suc (suc K)) N e p q Q l k w = absurd (omega arith)

-- ---- the sine of x above 0 and up to 2
-- nothing is taken off where there is no right angle
none_off : (x : Float) → F64 x → T (not (eq x zer)) → rest_of x (sub binary64 shift shift) ≡ x
unfolding rest_of sub neg mul of_bits
none_off x f h = ap (λ (z : Float). add binary64 z (fin true 0 (pos 0))) (plus_nought x true f h) ∙ plus_nought x true f h

-- by one right angle or none, at a number t that has been shifted
abbrev Turned : Float → Float → Type 0
Turned x t = InUnit (rest_of x (sub binary64 t shift)) → Plus (quadrant ((to_bits binary64 t % 4 + 0) % 4) (rest_of x (sub binary64 t shift)))

at_none : (x : Float) → F64 x → T (positive x) → T (not (eq x zer)) → Turned x shift
at_none x f p h u = subst Plus (ap kernel_sin (sym same) ∙ straight _) (sin_plus x f p (subst InUnit same u))
  where
    same : rest_of x (sub binary64 shift shift) ≡ x
    same = none_off x f h

    straight : (r : Float) → kernel_sin r ≡ quadrant ((to_bits binary64 shift % 4 + 0) % 4) r
    straight r = unfold quadrant to_bits of_bits in refl

at_first : (x : Float) → Turned x first
at_first x u = subst Plus (straight (rest_of x (sub binary64 first shift))) (cos_plus (rest_of x (sub binary64 first shift)) u)
  where
    straight : (r : Float) → kernel_cos r ≡ quadrant ((to_bits binary64 first % 4 + 0) % 4) r
    straight r = unfold quadrant to_bits of_bits in refl

far_plus : (x : Float) → Plus (turned_of 0 x) → Plus (far_of 0 x)
unfolding far_of
far_plus x h = go (le x (of_bits binary64 0x4080000000000000)) (le (neg (of_bits binary64 0x4080000000000000)) x)
  where
    go : (a b : Bool) → Plus (cond a (cond b (turned_of 0 x) nan) nan)
    go true true = h
    go true false = tt
    go false b = tt

two_inside : (x : Float) → T (lt zer x) → T (le x two) → Inside x
unfolding of_bits neg
two_inside x l h = (
  float_le_trans x two (of_bits binary64 0x4080000000000000) h (unfold le lt eq of_bits in tt),
  float_le_trans (neg (of_bits binary64 0x4080000000000000)) zer x (unfold le lt eq neg of_bits in tt) (le_of_lt_true zer x l),
)

sine_plus : (x : Float) → F64 x → T (lt zer x) → T (le x two) → Plus (sin_of x)
sine_plus nan f l h = absurd (unfold lt of_bits in l)
sine_plus (inf true) f l h = absurd (unfold lt of_bits in l)
sine_plus (inf false) f l h = absurd (unfold le lt eq of_bits in h)
sine_plus (fin true m e) f l h = absurd (unfold lt of_bits in l)
sine_plus (fin false m e) f l h = unfold sin_of in go (is_near x) (near_in x)
  where
    x : Float
    x = fin false m e

    N : 0 < m * up e
    N = above (down e) (m * up e) (ltb→lt (0 * down e) (m * up e * 1) (unfold lt of_bits in l))
      where
        above : (d n : ℕ) → 0 * d < n * 1 → 0 < n
        above d n h = omega arith

    most : m * up e ≤ 2 * down e
    most = le_trans (le_of_eq (sym (mul-one (m * up e)))) (le_below false false m 1 e (pos 1) (unfold of_bits in h))

    p : T (positive x)
    p = positive_of_value x (m * up e) (down e) (refl, refl) N

    other : T (not (eq x zer))
    other =
        of_false (eq x zer)
        (eq_by_values false x zer (m * up e) (down e) 0 1 (down_pos e) (lit< tt) (refl, refl) (unfold of_bits in (refl, refl))
        ∙ eqb_no (m * up e * 1) (0 * down e) (apart (m * up e) (down e) N))
      where
        apart : (n d : ℕ) → 0 < n → n * 1 ≡ 0 * d → ⊥
        apart n d h e = omega arith

    turned : Plus (turned_of 0 x)
    turned =
        unfold turned_of in
        shifted (m * up e) (down e) (down_pos e) most x (refl, refl) (Turned x) (at_none x f p other) (at_first x) (rest_inside x (two_inside x l h))

    go : (b : Bool) → (T b → InUnit x) → Plus (cond b (kernel_sin x) (far_of 0 x))
    go true near = sin_plus x f p (near tt)
    go false near = far_plus x turned

pub sin_positive : SinPositive
sin_positive x f l h = plus_own (sin_of x) (sine_plus x f l h)
