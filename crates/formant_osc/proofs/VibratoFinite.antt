-- In an accepted state the vibrato's phase and its increment make a finite sum: the rate is at least 1,000 Hz.
use mathlib.Core.Bool.{true}
use mathlib.Core.Path.{◌≡◌}
use lib.Dec.{T, lit≤}
use lib.Ieee.{Float, binary64, add, div, le, lt, eq, neg, of_bits}
use lib.Ieee.Bits.{is_true}
use lib.Ieee.Fits.{and_l, and_r}
use lib.Ieee.Positive.{between}
use Rattle.common.proofs.Bounds.{phase_within}
use Rattle.common.specs.Consts.{rate_low, rate_high}
use Rattle.common.specs.Phase.{increment_of}
use Rattle.common.specs.Tests.{rate_ok, phase_ok}
use Rattle.common.specs.declared.Hertz.{Hertz}
use Rattle.common.specs.declared.Turns.{Turns}
use Rattle.formant_osc.specs.Consts.{vibrato_rate}
use Rattle.laws.proofs.Interval.{Within, unit_within, within_add, within_finite}
use Rattle.laws.proofs.Monotone.{div_anti}
use Rattle.laws.proofs.Order.{float_le_trans}
use Rattle.laws.proofs.Tests.{of_true}
use Rattle.laws.specs.Float.{one, is_fin}

-- 5.5 over a rate lies between 5.5 over the highest and over the lowest
step_within : (r : Float) → T (le rate_low r) → T (le r rate_high) → Within 0 (div binary64 vibrato_rate.0 r)
step_within r l h =
    let positive = between rate_low r rate_high (unfold of_bits in tt) (unfold of_bits in tt) l h in
    unit_within (div binary64 vibrato_rate.0 r) (
      float_le_trans (neg one) (div binary64 vibrato_rate.0 rate_high) _ (unfold le lt eq neg div of_bits in tt)
          (div_anti vibrato_rate.0 r rate_high (unfold of_bits in tt) positive h),
      float_le_trans _ (div binary64 vibrato_rate.0 rate_low) one (div_anti vibrato_rate.0 rate_low r (unfold of_bits in tt) (unfold of_bits in tt) l)
          (unfold le lt eq div of_bits in tt),
    )

pub vibrato_finite : (rate : Hertz) (p : Turns) → rate_ok rate ≡ true → phase_ok p ≡ true
    → is_fin (add binary64 p.0 (increment_of vibrato_rate rate).0) ≡ true
unfolding rate_ok increment_of
vibrato_finite rate p r h =
    let t = of_true (rate_ok rate) r in
    let step = (increment_of vibrato_rate rate).0 in
    let within = step_within rate.0 (and_l (le rate_low rate.0) (le rate.0 rate_high) t) (and_r (le rate_low rate.0) (le rate.0 rate_high) t) in
    is_true _ (within_finite 1 (add binary64 p.0 step) (within_add 0 p.0 step (lit≤ tt) (phase_within p.0 h) within))
