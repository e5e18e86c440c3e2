-- Where r is from 0 to 1, 3000 ^ r isn't below 0 and is at most 65536: it is 2 ^ x for an x from 0 to 12, which is a polynomial of at most 16
-- times a power of two of at most 4096.
use Rattle.std.proofs.Common.{◌≡◌, ℕ, ◌+◌, ◌-◌, ◌*◌, ◌^◌, ◌≤◌, Bool, true, false, cond, T, pos, sym, refl, ap, ◌∙◌, subst, le_trans, arith, lit<, lit≤}
use lib.Ieee.{Float, add, binary64, eq, fin, le, lt, mul, neg, of_bits, sub}
use lib.Ieee.Bits.{is_true}
use lib.Ieee.Exact.{HasValue}
use lib.Ieee.Fits.{add-fits}
use Rattle.laws.proofs.Interval.{Within, within_finite, within_le, within_mul, within_to}
use Rattle.laws.proofs.Monotone.{mul_le}
use Rattle.laws.proofs.Number.{fin_number}
use Rattle.laws.proofs.Order.{float_le_trans, le_lt_trans}
use Rattle.laws.proofs.Sign.{plus_above}
use Rattle.laws.specs.Float.{F64, one, zer}
use Rattle.numeric.proofs.PowerLaws.{bits_up, scale_at}
use Rattle.numeric.proofs.PowerRange.{exp_within, split_low}
use Rattle.numeric.proofs.PowerSign.{power_plus}
use Rattle.numeric.specs.Power.{biased, exp2_of, exp_part, mid_of, pow3000_of, scale_of, scaled_of}
use Rattle.numeric.specs.Promises.{Pow3000Range}

-- ---- the power of two
power_within : (n : ℕ) → Within n (fin false 1 (pos n))
power_within n = (false, (1 * 2 ^ n, 1, lit< tt, its_own (2 ^ n), (refl, refl)))
  where
    its_own : (u : ℕ) → 1 * u ≤ u * 1
    its_own u = omega arith

scale_within : (t : Float) (F : ℕ) → 1023 ≤ F → F ≤ 1035 → F64 t → HasValue t false (6755399441055744 + F) 1 → Within 12 (scale_of t)
scale_within t F l h f v =
    let n = F - 1023 in
    let by_field : scale_of t ≡ of_bits binary64 ((1023 + n) * 4503599627370496) =
    scale_at t F (le_trans h (lit≤ tt)) f v ∙ ap (λ (z : ℕ). of_bits binary64 (z * 4503599627370496)) (back F l) in
    let few = most F h in
    subst (Within 12) (sym (by_field ∙ bits_up n (le_trans few (lit≤ tt)))) (within_to n 12 (fin false 1 (pos n)) few (power_within n))
  where
    back : (F : ℕ) → 1023 ≤ F → F ≡ 1023 + (F - 1023)
    back F h = omega arith

    most : (F : ℕ) → F ≤ 1035 → F - 1023 ≤ 12
    most F h = omega arith

-- ---- 2 ^ x for an x from 0 to 12
module _ (x : Float) (l : T (le zer x)) (h : T (le x (of_bits binary64 0x4028000000000000))) where
  mid_within : Within 16 (mid_of x)
  unfolding mid_of scaled_of
  mid_within =
      let k = split_low x l h in
      let t = add binary64 x biased in
      let f = sub binary64 x (sub binary64 t biased) in
      within_mul 4 12 (exp_part f) (scale_of t) (lit≤ tt) (exp_within f k.4) (scale_within t k.0 k.1 k.2 (add-fits binary64 x biased) k.3)

  is_mid : exp2_of x ≡ mid_of x
  unfolding exp2_of
  is_mid = simp (
    is_true (lt x (of_bits binary64 0x408ff80000000000)) (le_lt_trans x _ _ h (unfold lt of_bits in tt)),
    is_true (le (neg (of_bits binary64 0x408ff00000000000)) x) (float_le_trans _ zer x (unfold le lt eq neg of_bits in tt) l),
  )

  low_power : Within 16 (exp2_of x)
  low_power = subst (Within 16) (sym is_mid) mid_within

-- ---- 3000 ^ r
pub pow3000_range : Pow3000Range
unfolding pow3000_of
pow3000_range r l h = go (eq r one)
  where
    factor : Float
    factor = of_bits binary64 0x402719fb7b8f3242

    x : Float
    x = mul binary64 r factor

    low : T (le zer x)
    low = float_le_trans zer (mul binary64 zer factor) x (unfold le lt eq mul of_bits in tt) (mul_le factor (unfold of_bits in tt) zer r l)

    high : T (le x (of_bits binary64 0x4028000000000000))
    high = float_le_trans x (mul binary64 one factor) _ (mul_le factor (unfold of_bits in tt) r one h) (unfold le lt eq mul of_bits in tt)

    power : Bool → Float
    power at_one = cond at_one (of_bits binary64 0x40a7700000000000) (exp2_of x)

    go : (b : Bool) → T (le zer (power b)) × T (le (power b) (of_bits binary64 0x40f0000000000000))
    go true = (unfold le lt eq of_bits in tt, unfold le lt eq of_bits in tt)
    go false =
        let w = low_power x low high in
        (plus_above (exp2_of x) (power_plus x) (fin_number (exp2_of x) (within_finite 16 (exp2_of x) w)), unfold of_bits in (within_le 16 (exp2_of x) w).0)
