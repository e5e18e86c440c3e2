-- The FormantOsc's calls, written from oscillators.rs, with the scope's refusals and marks.
use Rattle.std.specs.Prelude.{false, cond, ◌&&◌, List, [], ◌∷◌, ℕ, eqb, Float}
use Rattle.std.specs.Float.{binary64}
use Rattle.std.specs.Float.Ieee.{add, mul, neg}
use Rattle.laws.specs.Float.{zer, one, is_fin}
use Rattle.numeric.specs.Basic.{clamp_of}
use Rattle.common.specs.Consts.{five}
use Rattle.common.specs.Memo.{Memo1, new_memo1, recall1, voct_to_hz_at}
use Rattle.common.specs.Phase.{turns, wrap_phase_of, increment_of}
use Rattle.common.specs.Tests.{rate_ok, phase_ok}
use Rattle.common.specs.declared.Hertz.{Hertz}
use Rattle.answer.specs.Answer.{volts1}
use Rattle.answer.specs.Block.{Block, block_of}
use Rattle.answer.specs.Calls.{Outcome, made_unless}
use Rattle.answer.specs.Mark.{all_numbers, mark_of}
use Rattle.answer.specs.declared.Answer.{Answer}
use Rattle.answer.specs.declared.Tally.{Tally}
use Rattle.answer.specs.declared.Answer.TheVariants as answer
use Rattle.answer.specs.declared.Ticked.{Ticked}
use Rattle.formant_osc.specs.Consts.{n_ports, vibrato_rate}
use Rattle.formant_osc.specs.Memo.{CoefMemo, new_coef_memo, coef_recall}
use Rattle.formant_osc.specs.Sound.{glottal_pulse, pitch_of, rung_of}
use Rattle.formant_osc.specs.declared.Rung.{Rung}
use Rattle.formant_osc.specs.declared.FormantOsc.{FormantOsc}
use Rattle.formant_osc.specs.declared.FormantOscControls.{FormantOscControls}

-- two cells for each resonator, all 0
abbrev pub silent : List Float
silent = zer ∷ zer ∷ zer ∷ zer ∷ zer ∷ zer ∷ zer ∷ zer ∷ zer ∷ zer ∷ []

-- FormantOsc::new
unfoldable pub new_formant_osc : Hertz → FormantOsc
new_formant_osc r =
    record { phase = turns zer; vibrato_phase = turns zer; resonator_state = silent; sample_rate = r; freq_memo = new_memo1; coef_memo = new_coef_memo }

-- 0, or what refuses a state: 1 its rate, 2 a phase
unfoldable pub formant_osc_refusal_of : FormantOsc → ℕ
formant_osc_refusal_of s = cond (rate_ok s.sample_rate) (cond (phase_ok s.phase && phase_ok s.vibrato_phase) 0 2) 1

-- what refuses a rate change: 1 on the new rate and on the old, then 2
unfoldable pub formant_osc_rate_refusal_of : FormantOsc → Hertz → ℕ
formant_osc_rate_refusal_of s r = cond (rate_ok r) (formant_osc_refusal_of s) 1

-- 1 on the rate; a refused new hands out the state with the bad rate, which every call refuses
unfoldable pub formant_osc_new_of : Hertz → Outcome FormantOsc
formant_osc_new_of r = made_unless (cond (rate_ok r) 0 1) (new_formant_osc r) (new_formant_osc r)

-- the memos after a tick
unfoldable pub freq_memo_of : FormantOsc → FormantOscControls → Memo1
freq_memo_of s c = recall1 voct_to_hz_at s.freq_memo (pitch_of c.v_oct (clamp_of c.vibrato zer one) s.vibrato_phase.0).0

unfoldable pub coef_memo_of : FormantOsc → FormantOscControls → CoefMemo
coef_memo_of s c = coef_recall s.coef_memo (clamp_of c.vowel zer one) c.formant_shift s.sample_rate.0

-- the resonators' sum before its clamp, and their cells after the tick
unfoldable pub formant_osc_rung : FormantOsc → FormantOscControls → Rung
formant_osc_rung s c = rung_of (coef_memo_of s c).val s.resonator_state (glottal_pulse s.phase.0)

-- the controls given to a tick, in port order
abbrev pub controls_of : FormantOscControls → List Float
controls_of c = c.v_oct.0 ∷ c.vowel ∷ c.formant_shift ∷ c.vibrato ∷ []

-- tick_generic, line by line
unfoldable pub formant_osc_sound_of : FormantOsc → FormantOscControls → Ticked FormantOsc
formant_osc_sound_of s c =
    let freqs = freq_memo_of s c in
    let rung = formant_osc_rung s c in
    let next = add binary64 s.phase.0 (increment_of freqs.val s.sample_rate).0 in
    let vibrato_next = add binary64 s.vibrato_phase.0 (increment_of vibrato_rate s.sample_rate).0 in
    record {
      answer =
          mark_of (volts1 (mul binary64 (clamp_of rung.sum (neg one) one) five)) false (is_fin rung.sum) (is_fin next && is_fin vibrato_next)
          (all_numbers (controls_of c));
      state =
          record {
            phase = (wrap_phase_of (turns next)).phase;
            vibrato_phase = (wrap_phase_of (turns vibrato_next)).phase;
            resonator_state = rung.state;
            sample_rate = s.sample_rate;
            freq_memo = freqs;
            coef_memo = coef_memo_of s c;
          };
    }

-- a refused tick leaves the state
unfoldable pub formant_osc_tick_of : FormantOsc → FormantOscControls → Ticked FormantOsc
formant_osc_tick_of s c =
    let n = formant_osc_refusal_of s in
    cond (eqb n 0) (formant_osc_sound_of s c) (record { answer = answer.Refused n; state = s })

-- a block of as many ticks with these controls as there are marks, a sample each
abbrev pub formant_osc_told_of : FormantOscControls → FormantOsc → Answer
formant_osc_told_of c s = (formant_osc_tick_of s c).answer

abbrev pub formant_osc_next_of : FormantOscControls → FormantOsc → FormantOsc
formant_osc_next_of c s = (formant_osc_tick_of s c).state

unfoldable pub formant_osc_block_of : FormantOsc → FormantOscControls → Tally → List Float → List ℕ → Block FormantOsc
formant_osc_block_of s c t o m = block_of n_ports (formant_osc_refusal_of s) (formant_osc_told_of c) (formant_osc_next_of c) s t o m

-- reset: the phases and the resonators start again, the rate and the memos stay
unfoldable pub restarted : FormantOsc → FormantOsc
restarted s =
    record {
      phase = turns zer;
      vibrato_phase = turns zer;
      resonator_state = silent;
      sample_rate = s.sample_rate;
      freq_memo = s.freq_memo;
      coef_memo = s.coef_memo;
    }

unfoldable pub formant_osc_reset_of : FormantOsc → Outcome FormantOsc
formant_osc_reset_of s = made_unless (formant_osc_refusal_of s) s (restarted s)

-- self.sample_rate = sample_rate
abbrev pub rated : FormantOsc → Hertz → FormantOsc
rated s r =
    record {
      phase = s.phase;
      vibrato_phase = s.vibrato_phase;
      resonator_state = s.resonator_state;
      sample_rate = r;
      freq_memo = s.freq_memo;
      coef_memo = s.coef_memo;
    }

unfoldable pub formant_osc_set_sample_rate_of : FormantOsc → Hertz → Outcome FormantOsc
formant_osc_set_sample_rate_of s r = made_unless (formant_osc_rate_refusal_of s r) s (rated s r)
