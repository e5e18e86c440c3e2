-- A player: a score's oscillator and its inputs in volts. It plays as many frames at a time as there are marks, as a block of the oscillator.
use Rattle.std.specs.Prelude.{ℕ, List, Float}
use Rattle.answer.specs.Answer.{refusal_of}
use Rattle.answer.specs.Block.{Block, block_of}
use Rattle.answer.specs.declared.Answer.{Answer}
use Rattle.answer.specs.declared.Tally.{Tally}
use Rattle.score.specs.declared.Osc.{Osc}
use Rattle.score.specs.declared.Osc.TheVariants as osc
use Rattle.score.specs.declared.Inputs.{Inputs}
use Rattle.score.specs.declared.Inputs.TheVariants as inputs
use Rattle.score.specs.declared.Score.{Score}
use Rattle.vco.specs.Vco.{new_vco, vco_tick_of}
use Rattle.lfo.specs.Lfo.{new_lfo, lfo_tick_of}
use Rattle.supersaw.specs.Supersaw.{new_supersaw, supersaw_tick_of}
use Rattle.formant_osc.specs.FormantOsc.{new_formant_osc, formant_osc_tick_of}
use Rattle.frame.specs.Frames.{ports_in}
use Rattle.player.specs.Begin.{vco_all, lfo_all, rate_of, threshold_of, vco_controls, lfo_controls, supersaw_controls, formant_controls}
use Rattle.player.specs.declared.Controls.{Controls}
use Rattle.player.specs.declared.Controls.TheVariants.{Vco, Lfo, Supersaw, Formant}
use Rattle.player.specs.declared.Player.{Player}

unfoldable pub controls_of : Inputs → Controls
controls_of (inputs.Vco i) = Vco (vco_controls i)
controls_of (inputs.Lfo i) = Lfo (lfo_controls i)
controls_of (inputs.Supersaw i) = Supersaw (supersaw_controls i)
controls_of (inputs.Formant i) = Formant (formant_controls i)

-- a score's player: new oscillators at its rate, and of its gate's threshold
unfoldable pub player_from : Inputs → ℕ → Float → Player
player_from i hz t =
    let r = rate_of hz in
    record { controls = controls_of i; vco = new_vco r t; lfo = new_lfo r t; supersaw = new_supersaw r; formant = new_formant_osc r }

abbrev pub player_of : Score → Player
player_of s = player_from s.inputs s.head.hz (threshold_of s.head.gate)

unfoldable pub kind_of : Controls → Osc
kind_of (Vco c) = osc.Vco
kind_of (Lfo c) = osc.Lfo
kind_of (Supersaw c) = osc.Supersaw
kind_of (Formant c) = osc.Formant

-- one tick of the oscillator that the controls are for, all outputs wanted: its answer, and the player after it
pub record Sounded : Type 0 where
  pub answer : Answer
  pub player : Player

unfoldable pub sound_of : Controls → Player → Sounded
sound_of (Vco c) p =
    let t = vco_tick_of p.vco c vco_all in
    record { answer = t.answer; player = record { controls = p.controls; vco = t.state; lfo = p.lfo; supersaw = p.supersaw; formant = p.formant } }
sound_of (Lfo c) p =
    let t = lfo_tick_of p.lfo c lfo_all in
    record { answer = t.answer; player = record { controls = p.controls; vco = p.vco; lfo = t.state; supersaw = p.supersaw; formant = p.formant } }
sound_of (Supersaw c) p =
    let t = supersaw_tick_of p.supersaw c in
    record { answer = t.answer; player = record { controls = p.controls; vco = p.vco; lfo = p.lfo; supersaw = t.state; formant = p.formant } }
sound_of (Formant c) p =
    let t = formant_osc_tick_of p.formant c in
    record { answer = t.answer; player = record { controls = p.controls; vco = p.vco; lfo = p.lfo; supersaw = p.supersaw; formant = t.state } }

abbrev pub answer_by : Controls → Player → Answer
answer_by c p = (sound_of c p).answer

abbrev pub next_by : Controls → Player → Player
next_by c p = (sound_of c p).player

-- a block of such ticks, as many as there are marks
unfoldable pub play_by : Controls → Player → Tally → List Float → List ℕ → Block Player
play_by c p t o m = block_of (ports_in (kind_of c)) (refusal_of (answer_by c p)) (answer_by c) (next_by c) p t o m

abbrev pub played_of : Player → Tally → List Float → List ℕ → Block Player
played_of p t o m = play_by p.controls p t o m
