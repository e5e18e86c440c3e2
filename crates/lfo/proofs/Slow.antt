-- No edge tick of a reached Lfo has a pulse: where the rate is a number the increment lies in [0, 1), so that from the phase 0 no whole turn is passed.
use mathlib.Core.Bool.{Bool, true, false, cond, not, ◌&&◌, and-false}
use mathlib.Core.Path.{◌≡◌, refl, sym, ap, ◌∙◌}
use Prim.Native.Nat.{ℕ, ◌*◌, ◌<◌}
use native.Mathlib.Omega.{arith}
use lib.Dec.{T}
use lib.Ieee.{Float, nan, inf, fin, binary64, up, down, lt, le, eq, add, sub, mul, div, neg, of_bits, is_nan}
use lib.Ieee.Bits.{is_true}
use lib.Ieee.Fits.{and_l, and_r, div-fits, down_pos, neg-fits}
use lib.Ieee.Positive.{between, positive}
use lib.IntN.{pos}
use borrow.Author.Tests.{lt-ltb}
use Rattle.common.proofs.MemoLaws.{recall1_is}
use Rattle.common.specs.Consts.{five, rate_low, rate_high}
use Rattle.common.specs.Memo.{filled}
use Rattle.common.specs.Phase.{turns, increment_of, restart_of}
use Rattle.common.specs.Ports.{wants}
use Rattle.common.specs.Tests.{rate_ok, phase_ok}
use Rattle.common.specs.declared.Hertz.{Hertz}
use Rattle.laws.proofs.Monotone.{div_anti, div_le, mul_le}
use Rattle.laws.proofs.Number.{add_nan_r, div_nan_l, is_nan_lem, mul_nan_r}
use Rattle.laws.proofs.Order.{float_le_trans, le_below, le_lt_trans, le_neg, lt_false, neg_neg}
use Rattle.laws.proofs.Sign.{over_above, plus_above, times_above}
use Rattle.laws.proofs.Tests.{of_false, of_true}
use Rattle.laws.proofs.Values.{float_mul_comm}
use Rattle.laws.specs.Float.{zer, one, F64, is_fin}
use Rattle.numeric.proofs.BasicLaws.{fabs_neg, fabs_turned}
use Rattle.numeric.proofs.Laws.{clamp_nan, clamp_range, pow3000_nan, pow3000_range}
use Rattle.numeric.specs.Basic.{clamp_of, fabs_of}
use Rattle.numeric.specs.Power.{pow3000_of}
use Rattle.lfo.proofs.Pulse.{eoc_says}
use Rattle.lfo.proofs.Reached.{Good, good, never_refused}
use Rattle.lfo.specs.Calls.{Fit}
use Rattle.lfo.specs.Consts.{lowest}
use Rattle.lfo.specs.Promises.{summed, taken, EdgeSilent}
use Rattle.lfo.specs.Waves.{rate_to_hz}
use Rattle.lfo.specs.declared.Lfo.{Lfo}
use Rattle.lfo.specs.declared.LfoControls.{LfoControls}

-- ---- 0.0 plus a number in [0, 1) lies there too
-- be that number -0.0, the sum is its size
from_zero : (x : Float) → F64 x → T (le zer x) → add binary64 zer x ≡ fabs_of x
unfolding sub
from_zero x t l =
    ap (λ (z : Float). add binary64 zer z) (sym (neg_neg x)) ∙ fabs_turned (neg x) (neg-fits binary64 x t) (lt_false zer (neg x) below) ∙ fabs_neg x
  where
    below : T (le (neg x) zer)
    below = float_le_trans (neg x) (neg zer) zer (le_neg zer x l) (unfold le lt eq neg of_bits in tt)

size_in : (x : Float) → T (le zer x) → T (lt x one) → phase_ok (turns (fabs_of x)) ≡ true
unfolding phase_ok fabs_of
size_in nan l h = absurd (unfold lt in h)
size_in (inf true) l h = absurd (unfold le lt eq of_bits in l)
size_in (inf false) l h = absurd (unfold lt of_bits in h)
size_in (fin false m e) l h = simp (is_true (le zer (fin false m e)) l, is_true (lt (fin false m e) one) h)
size_in (fin true m e) l h = simp (is_true (le zer (fin false m e)) (plus_above (fin false m e) tt (unfold is_nan in tt)), none)
  where
    small : (a d : ℕ) → a * 1 ≡ 0 → 0 < d → a * 1 < 1 * d
    small a d h k = omega arith

    none : lt (fin false m e) one ≡ true
    none =
        let nought = (le_below false true 0 m (pos 0) e (unfold of_bits in l)).1 in
        unfold lt of_bits in lt-ltb (m * up e * 1) (1 * down e) (small (m * up e) (down e) nought (down_pos e))

-- ---- the increment
-- 655.36 hertz: no rate is mapped above it
top : Float
top = mul binary64 (of_bits binary64 0x40f0000000000000) lowest

hertz_in : (rate : Float) → T (not (is_nan rate)) → T (le zer (rate_to_hz rate).0) × T (le (rate_to_hz rate).0 top)
unfolding rate_to_hz top
hertz_in rate q =
    let r = clamp_range rate zer one (unfold le lt eq of_bits in tt) q in
    let power = pow3000_of (clamp_of rate zer one) in
    let p = pow3000_range (clamp_of rate zer one) r.0 r.1 in (
      times_above lowest power (unfold of_bits in tt) p.0,
      rw (float_mul_comm lowest power) (mul_le lowest (unfold of_bits in tt) power (of_bits binary64 0x40f0000000000000) p.1),
    )

step_in : (f r : Float) → T (le zer f) → T (le f top) → T (le rate_low r) → T (le r rate_high) → T (le zer (div binary64 f r)) × T (lt (div binary64 f r) one)
step_in f r a b l h =
    let above : T (positive r) = between rate_low r rate_high (unfold of_bits in tt) (unfold of_bits in tt) l h in (
      over_above r f above a,
      le_lt_trans (div binary64 f r) (div binary64 top r) one (div_le r above f top b)
          (le_lt_trans (div binary64 top r) (div binary64 top rate_low) one
          (div_anti top rate_low r (unfold top mul of_bits in tt) (unfold of_bits in tt) l) (unfold top lt div mul of_bits in tt)),
    )

-- ---- the promise
struck_sum : (s : Lfo) (c : LfoControls) → Good s → Fit c → taken s c ≡ true
    → summed s c ≡ add binary64 zer (div binary64 (rate_to_hz c.rate).0 s.sample_rate.0)
unfolding restart_of increment_of filled
struck_sum s c g f e = simp (e, recall1_is rate_to_hz s.freq_memo g.memo c.rate f)

-- it is a phase, or, of a rate that is NaN, not finite
no_turn : (rate : Float) (r : Hertz) (x : Float) → rate_ok r ≡ true → x ≡ add binary64 zer (div binary64 (rate_to_hz rate).0 r.0)
    → (is_fin x && not (phase_ok (turns x))) ≡ false
unfolding rate_to_hz rate_ok
no_turn rate r x ok is = rw is (go (is_nan rate) refl)
  where
    step : Float
    step = div binary64 (rate_to_hz rate).0 r.0

    go : (b : Bool) → is_nan rate ≡ b → (is_fin (add binary64 zer step) && not (phase_ok (turns (add binary64 zer step)))) ≡ false
    go true n = simp (is_nan_lem rate n, clamp_nan, pow3000_nan, mul_nan_r, div_nan_l, add_nan_r)
    go false n =
        let t = of_true (rate_ok r) ok in
        let f = hertz_in rate (of_false (is_nan rate) n) in
        let i = step_in (rate_to_hz rate).0 r.0 f.0 f.1 (and_l (le rate_low r.0) _ t) (and_r (le rate_low r.0) _ t) in
        simp (from_zero step (div-fits binary64 _ _) i.0, size_in step i.0 i.1, and-false)

pub edge_silent : EdgeSilent
edge_silent s h c wanted f e =
    let g = good h in
    let silent = no_turn c.rate s.sample_rate (summed s c) g.rate (struck_sum s c g f e) in
    (eoc_says s c wanted ((never_refused s h).tick c wanted)).by_range
    ∙ ap (λ (pulse : Bool). cond pulse five zer) (ap (λ (turned : Bool). wants wanted 32 && turned) silent ∙ and-false (wants wanted 32))
