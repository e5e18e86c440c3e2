-- An edge for any previous sample is one for a new detector like it, whose previous sample is 0; and no edge comes twice. All of it over any
-- threshold that isn't below 0, as neither of the two is.
use mathlib.Core.Bool.{Bool, ◌&&◌, true, false}
use mathlib.Core.Logic.{◌⊎◌, inl, inr}
use mathlib.Core.Path.{◌≡◌, refl, ap}
use lib.Dec.{T}
use lib.Ieee.{Float, lt, le, neg, of_bits, eq}
use lib.Ieee.Bits.{is_true}
use Rattle.laws.specs.Float.{zer}
use Rattle.laws.proofs.Order.{eq_ge, eq_le, float_le_trans, le_false, le_lt_trans, lt_false, lt_nan}
use Rattle.laws.proofs.Tests.{of_true, or_case}
use Rattle.common.specs.Consts.{gate_threshold, low_gate_threshold, five}
use Rattle.common.specs.Edge.{reset_of, rises_above, rising_above_of, rising_of, crossed_above_of, crossed_of}
use Rattle.common.specs.Promises.{Thresholds, SameValue, ThresholdOnly, Between, ThresholdIn, ThresholdKept}
use Rattle.common.specs.Promises.{RisesNew, RisesOnce, RisingLike, CrossedIs, RisingOnce, RisingComes, RisingNot, RisingNan, RisingZero}
use Rattle.common.specs.Tests.{threshold_ok}
use Rattle.common.specs.declared.EdgeDetector.{EdgeDetector}

-- ---- the thresholds
pub thresholds : Thresholds
unfolding threshold_ok eq neg of_bits
thresholds = record { first = refl; second = refl; of_nan = refl; of_zero = refl; of_minus = refl }

pub threshold_only : ThresholdOnly
unfolding threshold_ok
threshold_only t h =
    or_case (eq t gate_threshold) (eq t low_gate_threshold)
    (λ e. inl (eq_le t gate_threshold e, eq_ge t gate_threshold e))
    (λ e. inr (eq_le t low_gate_threshold e, eq_ge t low_gate_threshold e))
    (of_true (threshold_ok t) h)

-- what has the value of a number from 0 to below 5 is one itself
between : (t c : Float) → T (le zer c) → lt c five ≡ true → SameValue t c → Between t
between t c l h e =
    record {
      above = float_le_trans zer c t l e.1;
      below = is_true (lt t five) (le_lt_trans t c five e.0 (of_true (lt c five) h));
    }

pub threshold_in : ThresholdIn
threshold_in t h = go (threshold_only t h)
  where
    go : SameValue t gate_threshold ⊎ SameValue t low_gate_threshold → Between t
    go (inl e) = between t gate_threshold (unfold le lt eq of_bits in tt) (unfold lt of_bits in refl) e
    go (inr e) = between t low_gate_threshold (unfold le lt eq of_bits in tt) (unfold lt of_bits in refl) e

pub threshold_kept : ThresholdKept
unfolding rising_of rising_above_of crossed_of crossed_above_of reset_of
threshold_kept e v = record { rising = refl; crossed = refl; reset = refl }

-- equal detectors have one threshold
pub same_gate : {d e : EdgeDetector} → d ≡ e → d.threshold ≡ e.threshold
same_gate p = ap (λ (e : EdgeDetector). e.threshold) p

-- ---- the edges
rises_left : (a b c : Bool) → (a && b) ≡ true → c ≡ true → (a && c) ≡ true
rises_left true b c h e = e
rises_left false b c h e = h

pub rises_new : RisesNew
unfolding rises_above
rises_new threshold prev v t h = rises_left (lt threshold v) (le prev threshold) (le zer threshold) h (is_true (le zer threshold) t)

pub rising_like : RisingLike
unfolding rising_of rising_above_of reset_of
rising_like e v t h = simp (h, rises_new e.threshold e.prev v t h)

pub crossed_is : CrossedIs
unfolding rising_of rising_above_of crossed_of crossed_above_of
crossed_is e v = refl

pub rises_once : RisesOnce
unfolding rises_above
rises_once threshold v = go (lt threshold v) refl
  where
    go : (b : Bool) → lt threshold v ≡ b → (b && le v threshold) ≡ false
    go true e = le_false threshold v (rw e tt)
    go false e = refl

pub rising_once : RisingOnce
unfolding rising_of rising_above_of
rising_once e v = simp rises_once

pub rising_comes : RisingComes
unfolding rising_of rising_above_of rises_above
rising_comes e v w h k = simp (h, k)

pub rising_not : RisingNot
unfolding rising_of rising_above_of rises_above
rising_not e v h = simp (lt_false e.threshold v (of_true (le v e.threshold) h))

pub rising_nan : RisingNan
unfolding rising_of rising_above_of rises_above
rising_nan e = simp (lt_nan e.threshold)

pub rising_zero : RisingZero
rising_zero e t = rising_not e zer (is_true (le zer e.threshold) t)
