-- The Vco's calls, written from oscillators.rs line by line, with the scope's marks and refusals.
use Rattle.std.specs.Prelude.{None, Option, Some, Bool, true, false, cond, List, [], ◌∷◌, ℕ, eqb, Float}
use Rattle.std.specs.Float.{binary64}
use Rattle.std.specs.Float.Ieee.{add, sub, mul, div, neg}
use Rattle.laws.specs.Float.{zer, one, two, is_fin}
use Rattle.numeric.specs.Basic.{fabs_of, clamp_of}
use Rattle.numeric.specs.Power.{exp2_of}
use Rattle.common.specs.Consts.{four, five}
use Rattle.common.specs.Pitch.{voct_to_hz}
use Rattle.common.specs.Phase.{turns, wrap_phase_of, polyblep_of, polyblamp_of, increment_of, restart_of}
use Rattle.common.specs.Memo.{new_memo3, recall3}
use Rattle.common.specs.Edge.{new_edge, reset_of, crossed_of}
use Rattle.common.specs.Ports.{wants, out_of}
use Rattle.common.specs.Tests.{rate_ok, gated_refusal_of}
use Rattle.answer.specs.Calls.{Outcome, made_unless}
use Rattle.answer.specs.Answer.{volts4}
use Rattle.answer.specs.Block.{Block, block_of}
use Rattle.answer.specs.Mark.{all_numbers, mark_of}
use Rattle.vco.specs.Consts.{n_ports, pw_low, pw_high}
use Rattle.vco.specs.Waves.{sine_of, saw_of, level_of, pw_edge_of, sqr_of, corner_half_of, tri_of, stepped_of}
use Rattle.common.specs.declared.Hertz.{Hertz}
use Rattle.common.specs.declared.Turns.{Turns}
use Rattle.answer.specs.declared.Volts.{Volts}
use Rattle.answer.specs.declared.Answer.{Answer}
use Rattle.answer.specs.declared.Answer.TheVariants as answer
use Rattle.answer.specs.declared.Tally.{Tally}
use Rattle.vco.specs.declared.Vco.{Vco}
use Rattle.vco.specs.declared.VcoControls.{VcoControls}
use Rattle.answer.specs.declared.Ticked.{Ticked}

-- Vco::new, and the threshold of its gate
unfoldable pub new_vco : Hertz → Float → Vco
new_vco r t = record { phase = turns zer; sample_rate = r; sync_edge = new_edge t; freq_memo = new_memo3 }

-- a new one like this
unfoldable pub new_like : Vco → Vco
new_like s = new_vco s.sample_rate s.sync_edge.threshold

-- 0, or what refuses a state: 1 its rate, 2 its phase or its gate's threshold
unfoldable pub vco_refusal_of : Vco → ℕ
vco_refusal_of s = gated_refusal_of s.sample_rate s.phase s.sync_edge.threshold

-- and a rate change: 1 on the new rate and on the old, then 2
unfoldable pub vco_rate_refusal_of : Vco → Hertz → ℕ
vco_rate_refusal_of s r = cond (rate_ok r) (vco_refusal_of s) 1

-- refused by what refuses its state, 1 and 2: a refused one refuses every call
unfoldable pub vco_new_of : Hertz → Float → Outcome Vco
vco_new_of r t = let s = new_vco r t in made_unless (vco_refusal_of s) s s

-- the memo's closure: base_freq * pow(2.0, fm), and (fm_lin / 5.0) * base_freq added
unfoldable pub frequency_of : Float → Float → Float → Hertz
frequency_of voct fm fm_lin =
    let base = (voct_to_hz (record { 0 = voct })).0 in
    record { 0 = add binary64 (mul binary64 base (exp2_of fm)) (mul binary64 (div binary64 fm_lin five) base) }

-- whether the sync has an edge, and the phase after the hard sync
unfoldable pub crosses_of : Option Float → Bool
crosses_of None = false
crosses_of (Some frac) = true

abbrev pub synced_of : Turns → Option Float → Turns
synced_of p at = restart_of p (crosses_of at)

-- the four outputs
unfoldable pub vco_volts_of : Option Float → Float → Float → Float → Float → ℕ → Volts
vco_volts_of at p old pw dt wanted =
    let wrap = polyblep_of p dt in
    let fall = polyblep_of (pw_edge_of p pw) dt in
    let lower = mul binary64 (mul binary64 four dt) (polyblamp_of p dt) in
    let upper = mul binary64 (mul binary64 four dt) (polyblamp_of (corner_half_of p) dt) in
    let saw_step = mul binary64 (neg two) old in
    let sqr_step = sub binary64 one (level_of old pw) in
    volts4
    (sine_of (wants wanted 1) p)
    (out_of (wants wanted 2) (tri_of p lower upper))
    (out_of (wants wanted 4) (stepped_of at (saw_of p wrap) saw_step dt))
    (out_of (wants wanted 8) (stepped_of at (sqr_of p pw wrap fall) sqr_step dt))

-- with their mark: no tick is cleared, no output has a clamp, and a tick is lost where phase + dt isn't finite; `numbers` says that no
-- control given is NaN
unfoldable pub vco_answer_of : Option Float → Float → Float → Float → Float → ℕ → Bool → Answer
vco_answer_of at p old pw dt wanted numbers = mark_of (vco_volts_of at p old pw (fabs_of dt) wanted) false true (is_fin (add binary64 p dt)) numbers

-- the controls given to a tick, in port order
abbrev pub controls_of : VcoControls → List Float
controls_of c = c.voct.0 ∷ c.fm.0 ∷ c.pw ∷ c.sync ∷ c.fm_lin ∷ []

-- tick_wanted, line by line
unfoldable pub vco_sound_of : Vco → VcoControls → ℕ → Ticked Vco
vco_sound_of s c wanted =
    let memo = recall3 frequency_of s.freq_memo c.voct.0 c.fm.0 c.fm_lin in
    let pw = clamp_of c.pw pw_low pw_high in
    let dt = increment_of memo.val s.sample_rate in
    let crossed = crossed_of s.sync_edge c.sync in
    let phase = synced_of s.phase crossed.at in
    let next = add binary64 phase.0 dt.0 in
    record {
      answer = vco_answer_of crossed.at phase.0 s.phase.0 pw dt.0 wanted (all_numbers (controls_of c));
      state = record { phase = (wrap_phase_of (turns next)).phase; sample_rate = s.sample_rate; sync_edge = crossed.edge; freq_memo = memo };
    }

-- a refused tick leaves the state
unfoldable pub vco_tick_of : Vco → VcoControls → ℕ → Ticked Vco
vco_tick_of s c wanted =
    let n = vco_refusal_of s in
    cond (eqb n 0) (vco_sound_of s c wanted) (record { answer = answer.Refused n; state = s })

-- what a tick with these controls answers, and what it leaves
abbrev pub vco_told_of : VcoControls → ℕ → Vco → Answer
vco_told_of c wanted s = (vco_tick_of s c wanted).answer

abbrev pub vco_next_of : VcoControls → ℕ → Vco → Vco
vco_next_of c wanted s = (vco_tick_of s c wanted).state

-- a block of as many such ticks as there are marks
unfoldable pub vco_block_of : Vco → VcoControls → ℕ → Tally → List Float → List ℕ → Block Vco
vco_block_of s c wanted t o m = block_of n_ports (vco_refusal_of s) (vco_told_of c wanted) (vco_next_of c wanted) s t o m

-- reset: the rate and the memo stay
unfoldable pub restarted : Vco → Vco
restarted s = record { phase = turns zer; sample_rate = s.sample_rate; sync_edge = reset_of s.sync_edge; freq_memo = s.freq_memo }

unfoldable pub vco_reset_of : Vco → Outcome Vco
vco_reset_of s = made_unless (vco_refusal_of s) s (restarted s)

-- set_sample_rate: all but the rate stays
unfoldable pub rated : Vco → Hertz → Vco
rated s r = record { phase = s.phase; sample_rate = r; sync_edge = s.sync_edge; freq_memo = s.freq_memo }

unfoldable pub vco_set_sample_rate_of : Vco → Hertz → Outcome Vco
vco_set_sample_rate_of s r = made_unless (vco_rate_refusal_of s r) s (rated s r)
