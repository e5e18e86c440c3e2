-- The Supersaw's calls, written from oscillators.rs, with the scope's refusals and marks.
use Rattle.std.specs.Prelude.{Bool, true, false, cond, ◌&&◌, List, [], ◌∷◌, ℕ, eqb, Float}
use Rattle.std.specs.Float.{binary64}
use Rattle.std.specs.Float.Ieee.{add, sub, mul, div}
use Rattle.laws.specs.Float.{zer, one, is_fin}
use Rattle.laws.specs.Lists.{all, tab}
use Rattle.numeric.specs.Basic.{clamp_of, real_of}
use Rattle.common.specs.Memo.{new_memo1, recall1, voct_to_hz_at}
use Rattle.common.specs.Phase.{turns, wrap_phase_of}
use Rattle.common.specs.Tests.{rate_ok, phase_ok}
use Rattle.common.specs.declared.Hertz.{Hertz}
use Rattle.answer.specs.Calls.{Outcome, made_unless}
use Rattle.answer.specs.Answer.{volts2}
use Rattle.answer.specs.Block.{Block, block_of}
use Rattle.answer.specs.Calls.{Outcome, made_unless}
use Rattle.answer.specs.Mark.{all_numbers, mark_of}
use Rattle.answer.specs.declared.Answer.{Answer}
use Rattle.answer.specs.declared.Answer.TheVariants as answer
use Rattle.answer.specs.declared.Tally.{Tally}
use Rattle.supersaw.specs.Consts.{n_ports, seven}
use Rattle.supersaw.specs.Voices.{at, saw_of, sub_dt_of, voices_of}
use Rattle.supersaw.specs.declared.Supersaw.{Supersaw}
use Rattle.supersaw.specs.declared.SupersawControls.{SupersawControls}
use Rattle.answer.specs.declared.Ticked.{Ticked}

-- phase i starts at (i as f64) / 7.0
unfoldable pub start_phases : List Float
start_phases = tab (λ i. div binary64 (real_of i) seven) 7

-- Supersaw::new
unfoldable pub new_supersaw : Hertz → Supersaw
new_supersaw r = record { phases = start_phases; sub_phase = turns zer; sample_rate = r; freq_memo = new_memo1 }

-- the seven voices' phases are in range
unfoldable pub phases_ok : List Float → Bool
phases_ok phases = all (λ i. phase_ok (turns (at phases i))) 7

-- 0, or what refuses a state: 1 its rate, 2 one of its eight phases
unfoldable pub supersaw_refusal_of : Supersaw → ℕ
supersaw_refusal_of s =
    cond (rate_ok s.sample_rate)
    (cond (phases_ok s.phases && phase_ok s.sub_phase) 0 2)
    1

-- and a rate change: 1 on the new rate and on the old, then 2
unfoldable pub supersaw_rate_refusal_of : Supersaw → Hertz → ℕ
supersaw_rate_refusal_of s r = cond (rate_ok r) (supersaw_refusal_of s) 1

-- 1 on the rate: refused, the state has it, and so refuses every call
unfoldable pub supersaw_new_of : Hertz → Outcome Supersaw
supersaw_new_of r = made_unless (cond (rate_ok r) 0 1) (new_supersaw r) (new_supersaw r)

-- the controls given to a tick, in port order
abbrev pub controls_of : SupersawControls → List Float
controls_of c = c.voct.0 ∷ c.detune ∷ c.mix ∷ []

-- tick_generic, line by line
unfoldable pub supersaw_sound_of : Supersaw → SupersawControls → Ticked Supersaw
supersaw_sound_of s c =
    let detune = clamp_of c.detune zer one in
    let mix = clamp_of c.mix zer one in
    let memo = recall1 voct_to_hz_at s.freq_memo c.voct.0 in
    let v = voices_of detune memo.val s.sample_rate s.phases 7 in
    let normalized = div binary64 v.sum v.total_mix in
    let output = add binary64 (mul binary64 v.center_saw (sub binary64 one mix)) (mul binary64 normalized mix) in
    let sub_dt = (sub_dt_of memo.val s.sample_rate).0 in
    let next = add binary64 s.sub_phase.0 sub_dt in
    record {
      answer = mark_of (volts2 output (saw_of s.sub_phase.0 sub_dt)) false true (v.finite && is_fin next) (all_numbers (controls_of c));
      state = record { phases = v.phases; sub_phase = (wrap_phase_of (turns next)).phase; sample_rate = s.sample_rate; freq_memo = memo };
    }

-- a refused tick leaves the state
unfoldable pub supersaw_tick_of : Supersaw → SupersawControls → Ticked Supersaw
supersaw_tick_of s c =
    let n = supersaw_refusal_of s in
    cond (eqb n 0) (supersaw_sound_of s c) (record { answer = answer.Refused n; state = s })

-- what a tick with these controls answers, and what it leaves
abbrev pub supersaw_told_of : SupersawControls → Supersaw → Answer
supersaw_told_of c s = (supersaw_tick_of s c).answer

abbrev pub supersaw_next_of : SupersawControls → Supersaw → Supersaw
supersaw_next_of c s = (supersaw_tick_of s c).state

-- a block of as many such ticks as there are marks
unfoldable pub supersaw_block_of : Supersaw → SupersawControls → Tally → List Float → List ℕ → Block Supersaw
supersaw_block_of s c t o m = block_of n_ports (supersaw_refusal_of s) (supersaw_told_of c) (supersaw_next_of c) s t o m

-- reset: the rate and the memo stay
abbrev pub restarted : Supersaw → Supersaw
restarted s = record { phases = start_phases; sub_phase = turns zer; sample_rate = s.sample_rate; freq_memo = s.freq_memo }

unfoldable pub supersaw_reset_of : Supersaw → Outcome Supersaw
supersaw_reset_of s = made_unless (supersaw_refusal_of s) s (restarted s)

-- set_sample_rate: all but the rate stays
abbrev pub rated : Supersaw → Hertz → Supersaw
rated s r = record { phases = s.phases; sub_phase = s.sub_phase; sample_rate = r; freq_memo = s.freq_memo }

unfoldable pub supersaw_set_sample_rate_of : Supersaw → Hertz → Outcome Supersaw
supersaw_set_sample_rate_of s r = made_unless (supersaw_rate_refusal_of s r) s (rated s r)
