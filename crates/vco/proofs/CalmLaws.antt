-- A quiet tick: what its test says, and that its samples are plain and finite.
use Rattle.std.specs.Prelude.{None, Option}
use mathlib.Core.Bool.{Bool, true, false, cond, ◌&&◌}
use mathlib.Core.Path.{◌≡◌, refl, sym, ap, ◌∙◌, subst}
use Prim.Native.Nat.{ℕ, ◌*◌, ◌≤◌, ◌<◌}
use native.Mathlib.Nat.{mul-zero, mul-pos}
use native.Mathlib.Omega.{arith}
use lib.Dec.{T, lit<, lit≤}
use lib.IntN.{pos}
use lib.Ieee.Bits.{is_true}
use lib.Ieee.{Float, nan, inf, fin, binary64, lt, le, eq, add, sub, mul, neg, round, up, down, of_bits}
use lib.Ieee.Exact.{HasValue}
use lib.Ieee.Fits.{and_r, down_pos}
use Rattle.std.specs.Prelude.{Option, None}
use Rattle.laws.specs.Float.{zer, one, two, F64, is_fin}
use Rattle.laws.proofs.Interval.{Within, within_add, within_finite, within_minus, within_mul, within_neg, within_to}
use Rattle.laws.proofs.Order.{lt_false, le_of_lt_true, float_le_trans, values_le}
use Rattle.laws.proofs.Rounded.{Rounded, rounded}
use Rattle.laws.proofs.Tests.{of_true}
use Rattle.laws.proofs.Values.{mul_round, round_zero}
use Rattle.numeric.specs.Basic.{fabs_of, tau}
use Rattle.numeric.specs.Trig.{sin_of}
use Rattle.numeric.proofs.BasicLaws.{within_fabs}
use Rattle.common.proofs.Bounds.{phase_within, sin_within, zer_within, one_within, half_within, two_within, four_within, five_within, tau_within, out_finite}
use Rattle.common.specs.Consts.{four, five, half}
use Rattle.common.specs.Phase.{turns, polyblep_of, polyblamp_of}
use Rattle.common.specs.Ports.{wants}
use Rattle.common.specs.Tests.{phase_ok}
use Rattle.answer.specs.Mark.{all_finite, marked_of, mark_of}
use Rattle.vco.specs.Waves.{sine_of, saw_of, level_of, pw_edge_of, sqr_of, corner_half_of, tri_of, stepped_of}
use Rattle.vco.specs.Shortcuts.{Quiet, plain_volts}
use Rattle.vco.specs.Vco.{vco_volts_of, vco_answer_of}
use Rattle.vco.proofs.QuietLaws.{away}

-- ---- the test
-- from dt to 1 - dt both residuals are 0
calm : (t w : Float) → T (le w t) → T (le t (sub binary64 one w)) → (polyblep_of t w ≡ zer) × (polyblamp_of t w ≡ zer)
unfolding polyblep_of polyblamp_of
calm t w h k = (simp (lt_false t w h, lt_false (sub binary64 one w) t k), simp (lt_false t w h, lt_false (sub binary64 one w) t k))

below_one : (p : Float) → phase_ok (turns p) ≡ true → T (le p one)
unfolding phase_ok
below_one p h = le_of_lt_true p one (and_r (le zer p) (lt p one) (of_true (le zer p && lt p one) h))

pub quiet_of : (at : Option Float) (p edge w : Float) → F64 p → F64 w → phase_ok (turns p) ≡ true → fabs_of w ≡ w → at ≡ None
    → le w (fabs_of (sub binary64 p half)) ≡ true → lt (fabs_of (sub binary64 p half)) (sub binary64 half w) ≡ true → le w edge ≡ true
    → le edge (sub binary64 one w) ≡ true → Quiet at p edge w
quiet_of at p edge w t u h m n l k i j =
    let a = away p w t u h m (of_true (le w (fabs_of (sub binary64 p half))) l) (of_true (lt (fabs_of (sub binary64 p half)) (sub binary64 half w)) k) in
    let c = calm p w a.above a.below in
    record {
      nowhere = n;
      wrap = c.0;
      fall = (calm edge w (of_true (le w edge) i) (of_true (le edge (sub binary64 one w)) j)).0;
      lower = c.1;
      upper = (calm (corner_half_of p) w a.half_above a.half_below).1;
      small = float_le_trans w p one a.above (below_one p h);
    }

-- ---- the samples
-- a magnitude of at most 1: four of it are a number that isn't negative
tick_value : (dt : Float) → T (le (fabs_of dt) one) → Within 0 dt × Rounded (mul binary64 four (fabs_of dt)) 0 4 0
unfolding fabs_of
tick_value nan h = absurd (unfold le lt eq in h)
tick_value (inf s) h = absurd (unfold le lt eq of_bits in h)
tick_value (fin s m e) h =
    let o : HasValue one false 1 1 = unfold of_bits in (refl, refl) in
    let v : HasValue four false 4 1 = unfold of_bits in (refl, refl) in
    let k : m * up e * 1 ≤ 1 * down e = values_le (fin false m e) one (m * up e) (down e) 1 1 (down_pos e) (lit< tt) (refl, refl) o h in
    let f = fit (m * up e) (down e) (down_pos e) k in (
      (s, (m * up e, down e, down_pos e, f.0, (refl, refl))),
      subst (λ (z : Float). Rounded z 0 4 0) (sym (mul_round four (fin false m e) false false 4 1 (m * up e) (down e) (lit< tt) (down_pos e) v (refl, refl)))
          (rounded (4 * (m * up e)) (1 * down e) 0 4 0 f.1 (lit< tt) (lit< tt) (lit≤ tt) f.2 f.3),
    )
  where
    fit : (n d : ℕ) → 0 < d → n * 1 ≤ 1 * d → (n ≤ 1 * d) × (0 < 1 * d) × (0 * (1 * d) ≤ 4 * n * 1) × (4 * n * 1 ≤ 4 * (1 * d))
    fit n d p h = (omega arith, omega arith, omega arith, omega arith)

still : (w : Float) → Rounded (mul binary64 four w) 0 4 0 → mul binary64 (mul binary64 four w) zer ≡ zer
still w r =
    let o : HasValue zer false 0 1 = unfold of_bits in (refl, refl) in
    let z : fin false 0 (pos 0) ≡ zer = unfold of_bits in refl in
    mul_round (mul binary64 four w) zer false false r.top r.bottom 0 1 r.bottom_pos (lit< tt) r.value o
    ∙ ap (λ (n : ℕ). round binary64 false n (r.bottom * 1)) (mul-zero r.top)
    ∙ round_zero false (r.bottom * 1) (mul-pos r.bottom_pos (lit< tt))
    ∙ z

quiet_volts : (at : Option Float) (p old pw w : Float) (wanted : ℕ) → Quiet at p (pw_edge_of p pw) w → mul binary64 (mul binary64 four w) zer ≡ zer
    → vco_volts_of at p old pw w wanted ≡ plain_volts p pw wanted
unfolding vco_volts_of stepped_of
quiet_volts at p old pw w wanted q z = simp (q.nowhere, q.wrap, q.fall, q.lower, q.upper, z)

-- ---- they are finite
sine_finite : (want : Bool) (p : Float) → Within 0 p → is_fin (sine_of want p) ≡ true
unfolding sine_of
sine_finite true p h =
    is_true _ (within_finite 3 (mul binary64 (sin_of (mul binary64 p tau)) five)
    (within_mul 0 3 (sin_of (mul binary64 p tau)) five (lit≤ tt)
    (sin_within 3 (mul binary64 p tau) (lit≤ tt) (within_mul 0 3 p tau (lit≤ tt) h tau_within)) five_within))
sine_finite false p h = unfold of_bits in refl

saw_within : (p : Float) → Within 0 p → Within 3 (saw_of p zer)
unfolding saw_of
saw_within p h =
    let a = within_mul 1 0 two p (lit≤ tt) two_within h in
    let b = within_minus 1 (mul binary64 two p) one (lit≤ tt) a (within_to 0 1 one (lit≤ tt) one_within) in
    within_minus 2 (sub binary64 (mul binary64 two p) one) zer (lit≤ tt) b (within_to 0 2 zer (lit≤ tt) zer_within)

sqr_within : (p pw : Float) → Within 2 (sqr_of p pw zer zer)
unfolding sqr_of level_of
sqr_within p pw =
    let b = within_add 0 (level_of p pw) zer (lit≤ tt) (level (lt p pw)) zer_within in
    within_minus 1 (add binary64 (level_of p pw) zer) zer (lit≤ tt) b (within_to 0 1 zer (lit≤ tt) zer_within)
  where
    level : (b : Bool) → Within 0 (cond b one (neg one))
    level true = one_within
    level false = within_neg 0 one one_within

tri_within : (p : Float) → Within 0 p → Within 6 (tri_of p zer zer)
unfolding tri_of
tri_within p h =
    let x = sub binary64 p half in
    let a = within_fabs 1 x (within_minus 0 p half (lit≤ tt) h half_within) in
    let b = within_mul 2 1 four (fabs_of x) (lit≤ tt) four_within a in
    let c = within_minus 3 one (mul binary64 four (fabs_of x)) (lit≤ tt) (within_to 0 3 one (lit≤ tt) one_within) b in
    let d = within_add 4 (sub binary64 one (mul binary64 four (fabs_of x))) zer (lit≤ tt) c (within_to 0 4 zer (lit≤ tt) zer_within) in
    within_minus 5 (add binary64 (sub binary64 one (mul binary64 four (fabs_of x))) zer) zer (lit≤ tt) d (within_to 0 5 zer (lit≤ tt) zer_within)

plain_finite : (p pw : Float) (wanted : ℕ) → Within 0 p → all_finite (plain_volts p pw wanted) ≡ true
unfolding all_finite
plain_finite p pw wanted h =
    simp (
      sine_finite (wants wanted 1) p h,
      out_finite (wants wanted 2) 6 (tri_of p zer zer) (lit≤ tt) (tri_within p h),
      out_finite (wants wanted 4) 3 (saw_of p zer) (lit≤ tt) (saw_within p h),
      out_finite (wants wanted 8) 2 (sqr_of p pw zer zer) (lit≤ tt) (sqr_within p pw),
    ) (unfold of_bits in refl)

-- so a quiet tick is clean or steered, with plain samples
pub quiet_answer : (at : Option Float) (p old pw dt : Float) (wanted : ℕ) (numbers : Bool) → phase_ok (turns p) ≡ true
    → Quiet at p (pw_edge_of p pw) (fabs_of dt)
    → marked_of (plain_volts p pw wanted) false true true numbers ≡ vco_answer_of at p old pw dt wanted numbers
unfolding vco_answer_of mark_of
quiet_answer at p old pw dt wanted numbers h q =
    let t = tick_value dt q.small in
    let w = phase_within p h in
    simp (
      quiet_volts at p old pw (fabs_of dt) wanted q (still (fabs_of dt) t.1),
      plain_finite p pw wanted w,
      is_true (is_fin (add binary64 p dt)) (within_finite 1 (add binary64 p dt) (within_add 0 p dt (lit≤ tt) w t.0)),
    )
