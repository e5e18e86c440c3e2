-- The Lfo's calls, written from oscillators.rs, with the scope's refusals and marks.
use Rattle.std.specs.Prelude.{Bool, true, false, cond, List, [], ◌∷◌, ℕ, eqb, Float}
use Rattle.std.specs.Float.{binary64}
use Rattle.std.specs.Float.Ieee.{mul, div, add}
use Rattle.answer.specs.Answer.{volts6}
use Rattle.answer.specs.Block.{Block, block_of}
use Rattle.answer.specs.Calls.{Outcome, made_unless}
use Rattle.answer.specs.Mark.{all_numbers, mark_of}
use Rattle.common.specs.Consts.{five}
use Rattle.common.specs.Edge.{new_edge, reset_of, rising_of}
use Rattle.common.specs.Memo.{new_memo1, recall1}
use Rattle.common.specs.Phase.{turns, wrap_phase_of, increment_of, restart_of}
use Rattle.common.specs.Ports.{wants}
use Rattle.common.specs.Tests.{rate_ok, gated_refusal_of}
use Rattle.laws.specs.Float.{zer, is_fin}
use Rattle.lfo.specs.Consts.{ten, n_ports}
use Rattle.lfo.specs.Waves.{rate_to_hz, sine_of, sin_wave, tri_wave, saw_wave, sqr_wave, sin_uni_wave, eoc_wave}
use Rattle.common.specs.declared.Hertz.{Hertz}
use Rattle.answer.specs.declared.Volts.{Volts}
use Rattle.answer.specs.declared.Answer.{Answer}
use Rattle.answer.specs.declared.Answer.TheVariants as answer
use Rattle.answer.specs.declared.Tally.{Tally}
use Rattle.answer.specs.declared.Ticked.{Ticked}
use Rattle.lfo.specs.declared.Lfo.{Lfo}
use Rattle.lfo.specs.declared.LfoControls.{LfoControls}

-- Lfo::new, and the threshold of its gate
unfoldable pub new_lfo : Hertz → Float → Lfo
new_lfo r t = record { phase = turns zer; sample_rate = r; reset_edge = new_edge t; freq_memo = new_memo1 }

-- a new one like this
unfoldable pub new_like : Lfo → Lfo
new_like s = new_lfo s.sample_rate s.reset_edge.threshold

-- 0, or what refuses a state: 1 its rate, 2 its phase or its gate's threshold
unfoldable pub lfo_refusal_of : Lfo → ℕ
lfo_refusal_of s = gated_refusal_of s.sample_rate s.phase s.reset_edge.threshold

-- and a rate change: 1 on the new rate and on the old, then 2
unfoldable pub lfo_rate_refusal_of : Lfo → Hertz → ℕ
lfo_rate_refusal_of s r = cond (rate_ok r) (lfo_refusal_of s) 1

-- refused by what refuses its state, 1 and 2: a refused one refuses every call
unfoldable pub lfo_new_of : Hertz → Float → Outcome Lfo
lfo_new_of r t = let s = new_lfo r t in made_unless (lfo_refusal_of s) s s

-- the outputs of tick_wanted, each where it is wanted; and after them eoc, which the Rust hasn't: whether the tick passes a whole turn
unfoldable pub lfo_outputs_of : ℕ → Float → Float → Bool → Volts
lfo_outputs_of wanted phase depth turned =
    let scale = mul binary64 five depth in
    volts6
    (sin_wave (wants wanted 1) (sine_of phase) scale)
    (tri_wave (wants wanted 2) phase scale)
    (saw_wave (wants wanted 4) phase scale)
    (sqr_wave (wants wanted 8) phase scale)
    (sin_uni_wave (wants wanted 16) (sine_of phase) depth)
    (eoc_wave (wants wanted 32) turned)

-- the controls given to a tick, in port order
abbrev pub controls_of : LfoControls → List Float
controls_of c = c.rate ∷ c.depth ∷ c.reset ∷ []

-- tick_wanted, line by line; the wrap at its end says eoc too
unfoldable pub lfo_sound_of : Lfo → LfoControls → ℕ → Ticked Lfo
lfo_sound_of s c wanted =
    let depth = div binary64 c.depth ten in
    let memo = recall1 rate_to_hz s.freq_memo c.rate in
    let risen = rising_of s.reset_edge c.reset in
    let phase = (restart_of s.phase risen.rising).0 in
    let next = add binary64 phase (increment_of memo.val s.sample_rate).0 in
    let wrapped = wrap_phase_of (turns next) in
    record {
      answer = mark_of (lfo_outputs_of wanted phase depth wrapped.turned) false true (is_fin next) (all_numbers (controls_of c));
      state = record { phase = wrapped.phase; sample_rate = s.sample_rate; reset_edge = risen.edge; freq_memo = memo };
    }

-- a refused tick leaves the state
unfoldable pub lfo_tick_of : Lfo → LfoControls → ℕ → Ticked Lfo
lfo_tick_of s c wanted =
    let n = lfo_refusal_of s in
    cond (eqb n 0) (lfo_sound_of s c wanted) (record { answer = answer.Refused n; state = s })

-- what a tick with these controls answers, and what it leaves
abbrev pub lfo_told_of : LfoControls → ℕ → Lfo → Answer
lfo_told_of c wanted s = (lfo_tick_of s c wanted).answer

abbrev pub lfo_next_of : LfoControls → ℕ → Lfo → Lfo
lfo_next_of c wanted s = (lfo_tick_of s c wanted).state

-- a block of as many such ticks as there are marks
unfoldable pub lfo_block_of : Lfo → LfoControls → ℕ → Tally → List Float → List ℕ → Block Lfo
lfo_block_of s c wanted t o m = block_of n_ports (lfo_refusal_of s) (lfo_told_of c wanted) (lfo_next_of c wanted) s t o m

-- reset: the rate and the memo stay
unfoldable pub restarted : Lfo → Lfo
restarted s = record { phase = turns zer; sample_rate = s.sample_rate; reset_edge = reset_of s.reset_edge; freq_memo = s.freq_memo }

unfoldable pub lfo_reset_of : Lfo → Outcome Lfo
lfo_reset_of s = made_unless (lfo_refusal_of s) s (restarted s)

-- set_sample_rate: all but the rate stays
unfoldable pub rated : Lfo → Hertz → Lfo
rated s r = record { phase = s.phase; sample_rate = r; reset_edge = s.reset_edge; freq_memo = s.freq_memo }

unfoldable pub lfo_set_sample_rate_of : Lfo → Hertz → Outcome Lfo
lfo_set_sample_rate_of s r = made_unless (lfo_rate_refusal_of s r) s (rated s r)
