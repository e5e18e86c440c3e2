-- No frame of a score with a good rate is refused: each tick's oscillator is reached from a new one.
use Prim.Native.Nat.{ℕ}
use mathlib.Core.Bool.{Bool, true, false, cond}
use mathlib.Core.Path.{◌≡◌}
use lib.Dec.{ltb}
use lib.Ieee.{Float, binary64}
use lib.Ieee.Fits.{nan-fits, div-fits, of_int-fits}
use lib.IntN.{pos}
use Rattle.laws.specs.Float.{F64}
use Rattle.laws.specs.Machine.{begun, more}
use Rattle.answer.specs.Answer.{accepted}
use Rattle.answer.specs.Block.{answer_at}
use Rattle.answer.specs.Promises.{AllAccepted}
use Rattle.answer.specs.declared.Answer.{Answer}
use Rattle.answer.proofs.Blocks.{ticks_keep}
use Rattle.common.specs.Consts.{gate_threshold, low_gate_threshold}
use Rattle.common.specs.Tests.{rate_ok, threshold_ok}
use Rattle.common.proofs.EdgeLaws.{thresholds}
use Rattle.score.specs.Control.{volts_of}
use Rattle.score.specs.declared.Control.{Control}
use Rattle.score.specs.declared.Control.TheVariants.{Microvolts, Nan}
use Rattle.std.specs.Prelude.{Option, Some, None}
use Rattle.score.specs.declared.VcoInputs.{VcoInputs}
use Rattle.score.specs.declared.LfoInputs.{LfoInputs}
use Rattle.score.specs.declared.FormantInputs.{FormantInputs}
use Rattle.score.specs.declared.Inputs.{Inputs}
use Rattle.score.specs.declared.Inputs.TheVariants as inputs
use Rattle.score.specs.declared.Score.{Score}
use Rattle.vco.specs.Vco.{new_vco, vco_tick_of}
use Rattle.vco.specs.Calls as vco
use Rattle.vco.specs.declared.Vco.{Vco}
use Rattle.vco.proofs.Reached as vcos
use Rattle.lfo.specs.Lfo.{new_lfo, lfo_tick_of}
use Rattle.lfo.specs.Calls as lfo
use Rattle.lfo.specs.declared.Lfo.{Lfo}
use Rattle.lfo.proofs.Reached as lfos
use Rattle.supersaw.specs.Supersaw.{new_supersaw, supersaw_tick_of}
use Rattle.supersaw.specs.Calls as supersaw
use Rattle.supersaw.specs.declared.Supersaw.{Supersaw}
use Rattle.supersaw.specs.declared.SupersawControls.{SupersawControls}
use Rattle.supersaw.proofs.Reached as supersaws
use Rattle.formant_osc.specs.FormantOsc.{new_formant_osc, formant_osc_tick_of}
use Rattle.formant_osc.specs.Calls as formant
use Rattle.formant_osc.specs.declared.FormantOsc.{FormantOsc}
use Rattle.formant_osc.proofs.Reached as formants
use Rattle.player.specs.Begin.{vco_all, lfo_all, rate_of, threshold_of, vco_controls, lfo_controls, supersaw_controls, formant_controls}
use Rattle.player.specs.Frames.{heard_at}
use Rattle.player.specs.Player.{controls_of, player_from, answer_by, next_by}
use Rattle.player.proofs.Carried.{accepted_carried, vco_carries, lfo_carries, supersaw_carries, formant_carries}

-- what is accepted at each state that is reached is accepted in each tick
always : {S : Type 0} (a : S → Answer) (n : S → S) (R : S → Type 0) → ((s : S) → R s → accepted (a s) ≡ true) → ((s : S) → R s → R (n s))
    → (s : S) → R s → AllAccepted a n s
unfolding answer_at
always a n R ok next s r k = ok _ (ticks_keep R n next s r k)

volts_fit : (c : Control) → F64 (volts_of c)
unfolding volts_of
volts_fit (Microvolts n) = div-fits binary64 _ _
volts_fit Nan = nan-fits binary64

rate_fits : (hz : ℕ) → F64 (rate_of hz).0
unfolding rate_of
rate_fits hz = of_int-fits binary64 (pos hz)

-- a tick reaches the next state
vco_next : (i : VcoInputs) (s : Vco) → vco.ReachedVco s → vco.ReachedVco (vco_tick_of s (vco_controls i) vco_all).state
unfolding vco.after vco_controls
vco_next i s h = more h (vco.Tick (vco_controls i) vco_all) (volts_fit i.voct, volts_fit i.fm, volts_fit i.fm_lin)

lfo_next : (i : LfoInputs) (s : Lfo) → lfo.ReachedLfo s → lfo.ReachedLfo (lfo_tick_of s (lfo_controls i) lfo_all).state
unfolding lfo.after lfo_controls
lfo_next i s h = more h (lfo.Tick (lfo_controls i) lfo_all) (volts_fit i.rate)

supersaw_next : (c : SupersawControls) (s : Supersaw) → supersaw.ReachedSupersaw s → supersaw.ReachedSupersaw (supersaw_tick_of s c).state
unfolding supersaw.after
supersaw_next c s h = more h (supersaw.Tick c) tt

formant_next : (i : FormantInputs) (s : FormantOsc) → formant.ReachedFormantOsc s
    → formant.ReachedFormantOsc (formant_osc_tick_of s (formant_controls i)).state
unfolding formant.after formant_controls
formant_next i s h = more h (formant.Tick (formant_controls i)) (volts_fit i.vowel, volts_fit i.formant_shift)

all_accepted : (i : Inputs) (hz : ℕ) (t : Float) → rate_ok (rate_of hz) ≡ true → threshold_ok t ≡ true
    → AllAccepted (answer_by (controls_of i)) (next_by (controls_of i)) (player_from i hz t)
unfolding controls_of player_from
all_accepted (inputs.Vco i) hz t ok gate =
    accepted_carried (vco_carries (player_from (inputs.Vco i) hz t) (vco_controls i)) _
    (always _ _ vco.ReachedVco (λ s h. (vcos.never_refused s h).tick (vco_controls i) vco_all) (vco_next i) _
    (begun (new_vco (rate_of hz) t) ((vcos.new_accepts (rate_of hz) t).1 ok gate)))
all_accepted (inputs.Lfo i) hz t ok gate =
    accepted_carried (lfo_carries (player_from (inputs.Lfo i) hz t) (lfo_controls i)) _
    (always _ _ lfo.ReachedLfo (λ s h. (lfos.never_refused s h).tick (lfo_controls i) lfo_all) (lfo_next i) _
    (begun (new_lfo (rate_of hz) t) ((lfos.new_accepts (rate_of hz) t).1 ok gate)))
all_accepted (inputs.Supersaw i) hz t ok gate =
    accepted_carried (supersaw_carries (player_from (inputs.Supersaw i) hz t) (supersaw_controls i)) _
    (always _ _ supersaw.ReachedSupersaw (λ s h. (supersaws.never_refused s h).tick (supersaw_controls i)) (supersaw_next (supersaw_controls i)) _
    (begun (new_supersaw (rate_of hz)) ((supersaws.new_accepts (rate_of hz)).1 ok)))
all_accepted (inputs.Formant i) hz t ok gate =
    accepted_carried (formant_carries (player_from (inputs.Formant i) hz t) (formant_controls i)) _
    (always _ _ formant.ReachedFormantOsc (λ s h. (formants.never_refused s h).tick (formant_controls i)) (formant_next i) _
    (begun (new_formant_osc (rate_of hz)) ((formants.new_accepts (rate_of hz)).1 ok (rate_fits hz))))

-- the threshold of every issue is one of the two
either_good : (b : Bool) → threshold_ok (cond b gate_threshold low_gate_threshold) ≡ true
either_good true = thresholds.first
either_good false = thresholds.second

gate_good : (g : Option ℕ) → threshold_ok (threshold_of g) ≡ true
unfolding threshold_of
gate_good None = thresholds.first
gate_good (Some n) = either_good (ltb n 2)

pub heard_accepted : (s : Score) → rate_ok (rate_of s.head.hz) ≡ true → (k : ℕ) → accepted (heard_at s k) ≡ true
unfolding heard_at
heard_accepted s ok = all_accepted s.inputs s.head.hz (threshold_of s.head.gate) ok (gate_good s.head.gate)
