-- The Lfo's rate map and its five waveforms, written from Lfo::tick_wanted, and its pulse, written from request CR 5. One that isn't wanted
-- reads 0.0.
use Rattle.std.specs.Prelude.{Bool, cond, ◌||◌, ℕ, Float}
use Rattle.std.specs.Float.{binary64}
use Rattle.std.specs.Float.Ieee.{lt, mul, sub, add, neg}
use Rattle.common.specs.Consts.{four, five, half}
use Rattle.common.specs.Ports.{wants}
use Rattle.laws.specs.Float.{zer, one, two}
use Rattle.numeric.specs.Basic.{fabs_of, clamp_of, tau}
use Rattle.numeric.specs.Power.{pow3000_of}
use Rattle.numeric.specs.Trig.{sin_of}
use Rattle.lfo.specs.Consts.{ten, lowest}
use Rattle.common.specs.declared.Hertz.{Hertz}

-- the closure || 0.01 * pow(3000.0, rate_cv.clamp(0.0, 1.0))
unfoldable pub rate_to_hz : Float → Hertz
rate_to_hz rate = record { 0 = mul binary64 lowest (pow3000_of (clamp_of rate zer one)) }

-- sin(phase * TAU)
unfoldable pub sine_of : Float → Float
sine_of phase = sin_of (mul binary64 phase tau)

-- that sine, where sin or sin_uni is wanted
unfoldable pub shared_sine : ℕ → Float → Float
shared_sine wanted phase = cond (wants wanted 1 || wants wanted 16) (sine_of phase) zer

-- sin(phase * TAU) * scale, over that sine
unfoldable pub sin_wave : Bool → Float → Float → Float
sin_wave want sine scale = cond want (mul binary64 sine scale) zer

-- (1.0 - 4.0 * fabs(phase - 0.5)) * scale
unfoldable pub tri_wave : Bool → Float → Float → Float
tri_wave want phase scale = cond want (mul binary64 (sub binary64 one (mul binary64 four (fabs_of (sub binary64 phase half)))) scale) zer

-- (2.0 * phase - 1.0) * scale
unfoldable pub saw_wave : Bool → Float → Float → Float
saw_wave want phase scale = cond want (mul binary64 (sub binary64 (mul binary64 two phase) one) scale) zer

-- if phase < 0.5 { scale } else { -scale }
unfoldable pub sqr_wave : Bool → Float → Float → Float
sqr_wave want phase scale = cond want (cond (lt phase half) scale (neg scale)) zer

-- (sin(phase * TAU) * 0.5 + 0.5) * depth * 10.0, over that sine
unfoldable pub sin_uni_wave : Bool → Float → Float → Float
sin_uni_wave want sine depth = cond want (mul binary64 (mul binary64 (add binary64 (mul binary64 sine half) half) depth) ten) zer

-- not of the Rust: 5.0 where a whole turn is passed, else 0.0
unfoldable pub eoc_wave : Bool → Bool → Float
eoc_wave want turned = cond want (cond turned five zer) zer
