-- The scope's example, from the score's bytes to what is printed. The frame's answer is the Vco's own theorem.
use mathlib.Core.List.{List, [], ◌∷◌, ◌++◌}
use mathlib.Core.Path.{◌≡◌, refl, ap, ◌∙◌}
use Prim.Native.Nat.{ℕ}
use lib.IntN.{pos, negsuc}
use lib.Ieee.{binary64, of_bits, to_bits, of_int, div, neg}
use Rattle.line.specs.Bytes.{ascii, same_of, has_of, until_of, past_of}
use Rattle.line.specs.Line.{line_of, after_line, key_of, value_of, is_line}
use Rattle.line.specs.Number.{digits_from, digits_of, negative_of, signed_of, number_of}
use Rattle.text.specs.Decimal.{decimal_from, decimal_text}
use Rattle.text.specs.Hex.{glyph, hex_from, hex_text}
use Rattle.answer.specs.Answer.{mark_number, volts4}
use Rattle.common.specs.Refusal.{refused_number}
use Rattle.answer.specs.Tally.{adds_up, one_if, counted, tally_or, tally_of, settle, run, tally_after}
use Rattle.answer.specs.declared.Answer.{Answer}
use Rattle.answer.specs.declared.Answer.TheVariants as answer
use Rattle.answer.specs.declared.Volts.{Volts}
use Rattle.common.specs.declared.Hertz.{Hertz}
use Rattle.score.specs.Control.{volts_of}
use Rattle.score.specs.Lines.{osc_of, within_of, control_of, osc_line, whole_line, control_line}
use Rattle.score.specs.Score.{osc, whole, control, end_of, inputs_of, gate, head_of, lines_of, score_of}
use Rattle.score.specs.declared.Control.TheVariants.{Microvolts}
use Rattle.std.specs.Prelude.{None, Ok}
use Rattle.score.specs.declared.Inputs.TheVariants.{Vco}
use Rattle.score.specs.declared.Osc.TheVariants as kind
use Rattle.score.specs.declared.Score.{Score}
use Rattle.score.specs.declared.VcoInputs.{VcoInputs}
use Rattle.common.specs.Consts.{gate_threshold}
use Rattle.vco.specs.Promises.{frame_rate, frame_controls}
use Rattle.vco.specs.Vco.{new_vco, vco_tick_of}
use Rattle.vco.specs.declared.VcoControls.{VcoControls}
use Rattle.vco.proofs.Frame.{first_frame}
use Rattle.text.specs.Lines.{word_line, count_line}
use Rattle.frame.specs.Frame.{sample_line, waves_text, outputs_text, marked_text, frame_text}
use Rattle.frame.specs.End.{counts_text, claimed_of, end_text}
use Rattle.player.specs.Begin.{vco_all, rate_of, threshold_of, vco_controls}
use Rattle.player.specs.Play.{answers, heard_from, heard_of, frames_text, play_of, printed_of, render_of}
use Rattle.player.specs.Promises.{Worked}

given : List ℕ
given = ascii "osc=vco\nhz=48000\nframes=1\nvoct=0\nfm=0\npw=500000\nsync=0\nfm_lin=-5000000\n"

inputs : VcoInputs
inputs = record {
  voct = Microvolts (pos 0);
  fm = Microvolts (pos 0);
  pw = Microvolts (pos 500000);
  sync = Microvolts (pos 0);
  fm_lin = Microvolts (negsuc 4999999);
}

score : Score
score = record { head = record { hz = 48000; gate = None; frames = 1 }; inputs = Vco inputs }

volts : Volts
volts = volts4 (of_bits binary64 0) (of_bits binary64 0xc014000000000000) (of_bits binary64 0xc014000000000000) (of_bits binary64 0x4014000000000000)

is_read : score_of given ≡ Ok score
unfolding given score inputs same_of has_of until_of past_of line_of after_line key_of value_of is_line digits_from digits_of negative_of signed_of number_of
    osc_of within_of
    control_of osc_line whole_line control_line osc whole control end_of inputs_of gate head_of lines_of score_of
is_read = refl

rate : rate_of 48000 ≡ frame_rate
unfolding rate_of of_int of_bits
rate = refl

controls : vco_controls inputs ≡ frame_controls
unfolding inputs vco_controls volts_of div of_int of_bits neg
controls = refl

is_heard : heard_of score ≡ answer.Clean volts ∷ []
unfolding heard_of heard_from answers score volts threshold_of
is_heard =
    ap (λ (a : Answer). a ∷ [])
    (ap (λ (r : Hertz). (vco_tick_of (new_vco r gate_threshold) (vco_controls inputs) vco_all).answer) rate
    ∙ ap (λ (c : VcoControls). (vco_tick_of (new_vco frame_rate gate_threshold) c vco_all).answer) controls ∙ first_frame)

printed : List Answer → List ℕ
printed xs = frames_text kind.Vco 0 xs ++ end_text 1 (tally_after xs)

is_printed : play_of score ≡ printed (answer.Clean volts ∷ [])
unfolding play_of printed score
is_printed = ap printed is_heard

text : printed (answer.Clean volts ∷ [])
    ≡ ascii "n=0\nmark=clean\nsin=0000000000000000\ntri=C014000000000000\nsaw=C014000000000000\nsqr=4014000000000000\n"
    ++ ascii "begun=1\nfinished=1\ncleared=0\nnotfinite=0\nlost=0\nsteered=0\nclaimed=yes\n"
unfolding printed volts frames_text frame_text marked_text outputs_text waves_text sample_line word_line count_line decimal_text decimal_from glyph
    hex_text hex_from to_bits of_bits end_text counts_text claimed_of tally_after run settle refused_number tally_or tally_of adds_up counted one_if mark_number
text = refl

pub worked : Worked
unfolding render_of given
worked = ap printed_of is_read ∙ is_printed ∙ text
