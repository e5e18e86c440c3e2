-- The seven voices: the loop of Supersaw::tick_generic, written from oscillators.rs; and the sub's increment.
use Rattle.std.specs.Prelude.{Bool, true, cond, ◌&&◌, List, ℕ, zero, suc, eqb, get_or, set, Float}
use Rattle.std.specs.Float.{nan, binary64}
use Rattle.std.specs.Float.Ieee.{add, sub, mul}
use Rattle.laws.specs.Float.{zer, one, two, is_fin}
use Rattle.common.specs.Phase.{turns, increment_of, wrap_phase_of, polyblep_of}
use Rattle.common.specs.declared.Hertz.{Hertz}
use Rattle.common.specs.declared.Turns.{Turns}
use Rattle.supersaw.specs.Consts.{detune_ratios, mix_levels}

abbrev pub at : List Float → ℕ → Float
at l i = get_or l i nan

-- freq: base_freq * (1.0 + DETUNE_RATIOS[i] * detune)
unfoldable pub freq_of : ℕ → Float → Hertz → Hertz
freq_of i detune base = record { 0 = mul binary64 base.0 (add binary64 one (mul binary64 (at detune_ratios i) detune)) }

-- dt: freq / sample_rate
unfoldable pub dt_of : ℕ → Float → Hertz → Hertz → Turns
dt_of i detune base rate = increment_of (freq_of i detune base) rate

-- sub_dt: base_freq / (2.0 * sample_rate)
unfoldable pub sub_dt_of : Hertz → Hertz → Turns
sub_dt_of base rate = increment_of base (record { 0 = mul binary64 two rate.0 })

-- (2.0 * phase - 1.0) - polyblep(phase, dt)
unfoldable pub saw_of : Float → Float → Float
saw_of phase dt = sub binary64 (sub binary64 (mul binary64 two phase) one) (polyblep_of phase dt)

-- the loop's locals; finite is the scope's: each phase plus its increment was
pub record Voices : Type 0 where
  pub phases : List Float
  pub sum : Float
  pub total_mix : Float
  pub center_saw : Float
  pub finite : Bool

-- turn i
unfoldable pub voice_of : Float → Hertz → Hertz → Voices → ℕ → Voices
voice_of detune base rate v i =
    let dt = (dt_of i detune base rate).0 in
    let saw = saw_of (at v.phases i) dt in
    let next = add binary64 (at v.phases i) dt in
    record {
      phases = set v.phases i (wrap_phase_of (turns next)).phase.0;
      sum = add binary64 v.sum (mul binary64 saw (at mix_levels i));
      total_mix = add binary64 v.total_mix (at mix_levels i);
      center_saw = cond (eqb i 3) saw v.center_saw;
      finite = v.finite && is_fin next;
    }

-- the first n turns
unfoldable pub voices_of : Float → Hertz → Hertz → List Float → ℕ → Voices
voices_of detune base rate phases zero = record { phases = phases; sum = zer; total_mix = zer; center_saw = zer; finite = true }
voices_of detune base rate phases (suc n) = voice_of detune base rate (voices_of detune base rate phases n) n
