-- The scope's printed frame. Of the powers and the sine it uses only that 2 ^ 0 is 1 and the sine of 0 is 0.
use Rattle.std.specs.Prelude.{None}
use mathlib.Core.Bool.{true, false}
use mathlib.Core.Path.{◌≡◌, refl, ap, ◌∙◌}
use lib.Dec.{lit≤}
use lib.IntN.{pos}
use lib.Ieee.{fin, binary64, add, sub, mul, div, neg, lt, le, eq, is_nan, of_int, of_bits}
use Rattle.laws.specs.Float.{zer, one, is_fin}
use Rattle.numeric.specs.Basic.{fabs_of, clamp_of, tau}
use Rattle.numeric.specs.Floor.{floor_of}
use Rattle.numeric.specs.Power.{exp2_of}
use Rattle.numeric.proofs.PowerLaws.{exp2_whole}
use Rattle.numeric.proofs.TrigLaws.{sin_zero}
use Rattle.common.specs.Consts.{gate_threshold, c4, five, half}
use Rattle.common.specs.Pitch.{voct_to_hz}
use Rattle.common.specs.Phase.{polyblep_of, polyblamp_of, increment_of, restart_of}
use Rattle.common.specs.Memo.{hits, filled, recall}
use Rattle.common.proofs.EdgeLaws.{thresholds, crossed_is, rising_once}
use Rattle.common.specs.Edge.{new_edge, rising_above_of, rising_of}
use Rattle.common.specs.Ports.{out_of}
use Rattle.common.specs.Tests.{rate_ok}
use Rattle.common.specs.declared.Risen.{Risen}
use Rattle.answer.specs.Answer.{volts4, answer_of}
use Rattle.answer.specs.Mark.{all_finite, all_numbers, mark_of, marked_of, rule_of}
use Rattle.answer.specs.declared.Volts.{Volts}
use Rattle.answer.specs.declared.Answer.TheVariants as answer
use Rattle.vco.specs.Consts.{pw_low, pw_high}
use Rattle.vco.specs.Waves.{sine_of, saw_of, level_of, pw_edge_of, sqr_of, corner_half_of, tri_of, stepped_of}
use Rattle.vco.specs.declared.Vco.{Vco}
use Rattle.vco.specs.Vco.{new_vco, controls_of, frequency_of, crosses_of, vco_volts_of, vco_answer_of, vco_sound_of}
use Rattle.vco.specs.Promises.{frame_rate, frame_controls, FirstFrame}
use Rattle.vco.proofs.Reached.{good_new, tick_sound}
use Rattle.answer.specs.declared.Ticked.{Ticked}

exp2_zero : exp2_of zer ≡ one
exp2_zero =
    let z : zer ≡ of_int binary64 (pos 0) = unfold of_int of_bits in refl in
    let o : fin false 1 (pos 0) ≡ one = unfold of_bits in refl in
    ap exp2_of z ∙ exp2_whole (pos 0) (lit≤ tt) ∙ o

-- the two FMs cancel: nothing moves
base : voct_to_hz (record { 0 = zer }) ≡ record { 0 = c4 }
unfolding voct_to_hz
base = let z : clamp_of zer (neg (of_bits binary64 0x4040000000000000)) (of_bits binary64 0x4040000000000000) ≡ zer = unfold clamp_of lt neg of_bits in refl in
    rw (z, exp2_zero) (unfold mul of_bits in refl)

still : frequency_of zer zer (neg five) ≡ record { 0 = zer }
unfolding frequency_of
still = rw (base, exp2_zero) (unfold add mul div neg of_bits in refl)

no_step : div binary64 zer frame_rate.0 ≡ zer
unfolding div of_bits
no_step = refl

-- and a sync that stays at 0 has no edge
no_edge : (rising_of (new_edge gate_threshold) zer).rising ≡ false
unfolding rising_of rising_above_of
no_edge = ap (λ (r : Risen). r.rising) (rising_once (new_edge gate_threshold) zer)

-- no control is NaN
numbers : all_numbers (controls_of frame_controls) ≡ true
unfolding all_numbers is_nan neg of_bits
numbers = refl

-- so the tick is one without an edge, from phase 0 by 0
frame_answer : (vco_sound_of (new_vco frame_rate gate_threshold) frame_controls 15).answer
    ≡ vco_answer_of None zer zer (clamp_of half pw_low pw_high) zer 15 true
unfolding vco_sound_of new_vco crosses_of restart_of increment_of recall hits filled
frame_answer = simp (crossed_is, no_edge, still, no_step, numbers)

silent : sine_of true zer ≡ zer
unfolding sine_of
silent = let z : mul binary64 zer tau ≡ zer = unfold mul of_bits in refl in rw (z, sin_zero) (unfold mul of_bits in refl)

abbrev frame_volts : Volts
frame_volts = vco_volts_of None zer zer (clamp_of half pw_low pw_high) (fabs_of zer) 15

frame_sin : frame_volts.p10 ≡ zer
unfolding vco_volts_of
frame_sin = silent

frame_tri : frame_volts.p11 ≡ of_bits binary64 0xc014000000000000
unfolding vco_volts_of of_bits add sub mul neg lt fabs_of polyblamp_of out_of corner_half_of tri_of
frame_tri = refl

frame_saw : frame_volts.p12 ≡ of_bits binary64 0xc014000000000000
unfolding vco_volts_of of_bits add sub mul neg lt fabs_of polyblep_of out_of saw_of stepped_of
frame_saw = refl

frame_sqr : frame_volts.p13 ≡ of_bits binary64 0x4014000000000000
unfolding vco_volts_of of_bits of_int add sub mul neg lt fabs_of clamp_of floor_of polyblep_of out_of level_of pw_edge_of sqr_of stepped_of
frame_sqr = refl

frame_uni : frame_volts.p14 ≡ zer
unfolding vco_volts_of
frame_uni = refl

frame_eoc : frame_volts.p15 ≡ zer
unfolding vco_volts_of
frame_eoc = refl

pub first_frame : FirstFrame
first_frame =
    let good = good_new frame_rate gate_threshold rate thresholds.first in
    ap (λ (t : Ticked Vco). t.answer) (tick_sound (new_vco frame_rate gate_threshold) good frame_controls 15) ∙ frame_answer ∙ clean
  where
    rate : rate_ok frame_rate ≡ true
    rate = unfold rate_ok le lt eq of_bits in refl

    printed : Volts
    printed = volts4 (of_bits binary64 0) (of_bits binary64 0xc014000000000000) (of_bits binary64 0xc014000000000000) (of_bits binary64 0x4014000000000000)

    volts : frame_volts ≡ printed
    volts = λ i. record { p10 = frame_sin i; p11 = frame_tri i; p12 = frame_saw i; p13 = frame_sqr i; p14 = frame_uni i; p15 = frame_eoc i }

    marked : mark_of printed false true (is_fin (add binary64 zer zer)) true ≡ answer.Clean printed
    marked = unfold mark_of marked_of rule_of answer_of all_finite add of_bits in refl

    clean : vco_answer_of None zer zer (clamp_of half pw_low pw_high) zer 15 true ≡ answer.Clean printed
    clean = unfold vco_answer_of in rw volts marked
