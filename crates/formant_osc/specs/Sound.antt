-- The parts of FormantOsc::tick_generic, written from oscillators.rs.
use Rattle.std.specs.Prelude.{cond, List, [], ◌∷◌, ℕ, get_or, Float}
use Rattle.std.specs.Float.{nan, binary64}
use Rattle.std.specs.Float.Ieee.{add, sub, mul, div, neg, lt}
use Rattle.laws.specs.Float.{zer, two}
use Rattle.numeric.specs.Basic.{pi}
use Rattle.numeric.specs.Trig.{sin_of, cos_of}
use Rattle.common.specs.Consts.{half}
use Rattle.common.specs.declared.VoltsPerOctave.{VoltsPerOctave}
use Rattle.formant_osc.specs.Consts.{opened, closed, twelve, amplitudes}
use Rattle.formant_osc.specs.declared.Resonated.{Resonated}
use Rattle.formant_osc.specs.declared.Rung.{Rung}

-- phase < 0.4: sin(t * PI * 0.5) with t = phase / 0.4; phase < 0.8: cos(t * PI * 0.5) with t = (phase - 0.4) / 0.4; else 0.0
unfoldable pub glottal_pulse : Float → Float
glottal_pulse p =
    cond (lt p opened) (sin_of (mul binary64 (mul binary64 (div binary64 p opened) pi) half))
    (cond (lt p closed) (cos_of (mul binary64 (mul binary64 (div binary64 (sub binary64 p opened) opened) pi) half))
    zer)

-- v_oct + sin(vibrato_phase * 2.0 * PI) * depth * 0.5 / 12.0
unfoldable pub pitch_of : VoltsPerOctave → Float → Float → VoltsPerOctave
pitch_of v depth p =
    let vibrato = sin_of (mul binary64 (mul binary64 p two) pi) in
    let semitones = mul binary64 (mul binary64 vibrato depth) half in
    record { 0 = add binary64 v.0 (div binary64 semitones twelve) }

-- formant_out = c[0] * excitation + state[0]; state[0] = -c[1] * formant_out + state[1];
-- state[1] = -c[0] * excitation - c[2] * formant_out
unfoldable pub resonate_of : Float → Float → Float → Float → Float → Float → Resonated
resonate_of c0 c1 c2 s0 s1 x =
    let out = add binary64 (mul binary64 c0 x) s0 in
    record { out = out; s0 = add binary64 (mul binary64 (neg c1) out) s1; s1 = sub binary64 (mul binary64 (neg c0) x) (mul binary64 c2 out) }

-- output += formant_out * AMPLITUDES[i]
abbrev pub amplitude_of : ℕ → Float
amplitude_of i = get_or amplitudes i nan

abbrev pub plus : Float → Float → Float → Float
plus output out amplitude = add binary64 output (mul binary64 out amplitude)

-- the loop's output, from 0.0, and the cells after it
abbrev pub rung_from : Resonated → Resonated → Resonated → Resonated → Resonated → Rung
rung_from a b d e f =
    record {
      sum =
          plus
          (plus (plus (plus (plus zer a.out (amplitude_of 0)) b.out (amplitude_of 1)) d.out (amplitude_of 2)) e.out (amplitude_of 3))
          f.out (amplitude_of 4);
      state = a.s0 ∷ a.s1 ∷ b.s0 ∷ b.s1 ∷ d.s0 ∷ d.s1 ∷ e.s0 ∷ e.s1 ∷ f.s0 ∷ f.s1 ∷ [];
    }

-- the loop over coefficients c and cells s with the excitation x
unfoldable pub rung_of : List Float → List Float → Float → Rung
rung_of c s x =
    rung_from (resonate_of (get_or c 0 nan) (get_or c 1 nan) (get_or c 2 nan) (get_or s 0 nan) (get_or s 1 nan) x)
    (resonate_of (get_or c 3 nan) (get_or c 4 nan) (get_or c 5 nan) (get_or s 2 nan) (get_or s 3 nan) x)
    (resonate_of (get_or c 6 nan) (get_or c 7 nan) (get_or c 8 nan) (get_or s 4 nan) (get_or s 5 nan) x)
    (resonate_of (get_or c 9 nan) (get_or c 10 nan) (get_or c 11 nan) (get_or s 6 nan) (get_or s 7 nan) x)
    (resonate_of (get_or c 12 nan) (get_or c 13 nan) (get_or c 14 nan) (get_or s 8 nan) (get_or s 9 nan) x)
