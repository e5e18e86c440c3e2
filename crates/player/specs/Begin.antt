-- What a score's lines hand to its oscillator: the rate in hertz, its gate's threshold and the inputs in volts.
use Rattle.std.specs.Prelude.{cond, ℕ, pos, ltb, Float, Option, Some, None}
use Rattle.std.specs.Float.{binary64}
use Rattle.std.specs.Float.Ieee.{of_int}
use Rattle.common.specs.Consts.{gate_threshold, low_gate_threshold}
use Rattle.common.specs.declared.Hertz.{Hertz}
use Rattle.score.specs.Control.{volts_of}
use Rattle.score.specs.declared.VcoInputs.{VcoInputs}
use Rattle.score.specs.declared.LfoInputs.{LfoInputs}
use Rattle.score.specs.declared.SupersawInputs.{SupersawInputs}
use Rattle.score.specs.declared.FormantInputs.{FormantInputs}
use Rattle.vco.specs.declared.VcoControls.{VcoControls}
use Rattle.lfo.specs.declared.LfoControls.{LfoControls}
use Rattle.supersaw.specs.declared.SupersawControls.{SupersawControls}
use Rattle.formant_osc.specs.declared.FormantOscControls.{FormantOscControls}

-- all outputs wanted
abbrev pub vco_all : ℕ
vco_all = 15

abbrev pub lfo_all : ℕ
lfo_all = 63

unfoldable pub rate_of : ℕ → Hertz
rate_of hz = record { 0 = of_int binary64 (pos hz) }

-- where a gate counts as high: at 1.0 V in banks from issue 2 on, and at 2.5 V in issue 1, which holds where no line says one
unfoldable pub threshold_of : Option ℕ → Float
threshold_of None = gate_threshold
threshold_of (Some n) = cond (ltb n 2) gate_threshold low_gate_threshold

unfoldable pub vco_controls : VcoInputs → VcoControls
vco_controls i =
    record {
      voct = record { 0 = volts_of i.voct };
      fm = record { 0 = volts_of i.fm };
      pw = volts_of i.pw;
      sync = volts_of i.sync;
      fm_lin = volts_of i.fm_lin;
    }

unfoldable pub lfo_controls : LfoInputs → LfoControls
lfo_controls i = record { rate = volts_of i.rate; depth = volts_of i.depth; reset = volts_of i.reset }

unfoldable pub supersaw_controls : SupersawInputs → SupersawControls
supersaw_controls i = record { voct = record { 0 = volts_of i.voct }; detune = volts_of i.detune; mix = volts_of i.mix }

unfoldable pub formant_controls : FormantInputs → FormantOscControls
formant_controls i =
    record {
      v_oct = record { 0 = volts_of i.v_oct };
      vowel = volts_of i.vowel;
      formant_shift = volts_of i.formant_shift;
      vibrato = volts_of i.vibrato;
    }
