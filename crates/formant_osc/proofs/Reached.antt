-- What every reached FormantOsc has: a good rate, two phases in [0, 1), and a pitch and coefficients that it would compute. So no call
-- refuses it but for what the call is lent.
use mathlib.Core.Bool.{true}
use mathlib.Core.Logic.{inl}
use mathlib.Core.Path.{◌≡◌, refl, sym, ap, subst, ◌∙◌}
use Prim.Native.Nat.{ℕ, ◌*◌}
use lib.Dec.{eqb}
use lib.Ieee.{binary64}
use lib.Ieee.Fits.{add-fits}
use lib.ListN.{length}
use Rattle.answer.proofs.Blocks.{block_keeps, block_refusal}
use Rattle.answer.proofs.Laws.{mark_says}
use Rattle.answer.specs.Answer.{accepted}
use Rattle.answer.proofs.Calls.{made_cases, made_number, made_state}
use Rattle.answer.specs.Block.{block_refusal_of}
use Rattle.common.proofs.MemoLaws.{recalled1}
use Rattle.common.proofs.PhaseLaws.{wrap_in, zero_in}
use Rattle.common.specs.Memo.{voct_to_hz_at}
use Rattle.common.specs.Promises.{Coherent1}
use Rattle.common.specs.Tests.{rate_ok, phase_ok}
use Rattle.common.specs.declared.Hertz.{Hertz}
use Rattle.formant_osc.proofs.Coherent.{Coherent, tick_coherent}
use Rattle.formant_osc.proofs.Either.{made_either}
use Rattle.formant_osc.specs.Calls.{Call, Fit, Tick, Play, Reset, SetSampleRate, Told, after, reply, First, FitCall, ReachedFormantOsc}
use Rattle.formant_osc.specs.Consts.{n_ports}
use Rattle.formant_osc.specs.FormantOsc.{new_formant_osc, formant_osc_refusal_of, formant_osc_rate_refusal_of, formant_osc_new_of, freq_memo_of}
use Rattle.formant_osc.specs.FormantOsc.{formant_osc_sound_of, formant_osc_tick_of, formant_osc_block_of}
use Rattle.formant_osc.specs.FormantOsc.{restarted, formant_osc_reset_of, rated, formant_osc_set_sample_rate_of}
use Rattle.formant_osc.specs.Promises.{NewAccepts, NeverRefused}
use Rattle.formant_osc.specs.Sound.{pitch_of}
use Rattle.formant_osc.specs.declared.FormantOscControls.{FormantOscControls}
use Rattle.answer.specs.declared.Ticked.{Ticked}
use Rattle.answer.specs.Calls.{Outcome, made_unless}
use Rattle.formant_osc.specs.declared.FormantOsc.{FormantOsc}
use Rattle.laws.proofs.Always.{always}
use Rattle.laws.proofs.Tests.{passed}
use Rattle.laws.specs.Float.{F64}

pub record Good (s : FormantOsc) : Type 0 where
  pub rate : rate_ok s.sample_rate ≡ true
  pub fit : F64 s.sample_rate.0
  pub phase : phase_ok s.phase ≡ true
  pub vibrato : phase_ok s.vibrato_phase ≡ true
  pub pitch : Coherent1 voct_to_hz_at s.freq_memo
  pub coefs : Coherent s.coef_memo

-- ---- a good state is refused by nothing
unrefused : (s : FormantOsc) → Good s → formant_osc_refusal_of s ≡ 0
unfolding formant_osc_refusal_of
unrefused s g = simp (g.rate, g.phase, g.vibrato)

pub tick_sounds : (s : FormantOsc) (c : FormantOscControls) → Good s → formant_osc_tick_of s c ≡ formant_osc_sound_of s c
unfolding formant_osc_tick_of
tick_sounds s c g = simp (unrefused s g)

sound_accepted : (s : FormantOsc) (c : FormantOscControls) → accepted (formant_osc_sound_of s c).answer ≡ true
unfolding formant_osc_sound_of
sound_accepted s c = (mark_says _ _ _ _ _).is_accepted

-- ---- it stays good
rest_good : (s : FormantOsc) → Good s → Good (restarted s)
unfolding restarted
rest_good s g = record { rate = g.rate; fit = g.fit; phase = zero_in; vibrato = zero_in; pitch = g.pitch; coefs = g.coefs }

new_good : (r : Hertz) → rate_ok r ≡ true → F64 r.0 → Good (new_formant_osc r)
unfolding new_formant_osc
new_good r h f = record { rate = h; fit = f; phase = zero_in; vibrato = zero_in; pitch = inl refl; coefs = inl refl }

pub first_good : (s : FormantOsc) → First s → Good s
unfolding formant_osc_new_of
first_good s f =
    let new = new_formant_osc f.0 in
    let number = sym (made_number _ new new) ∙ ap (λ (m : Outcome FormantOsc). m.refused) f.2 in
    let state = sym (made_state _ new) ∙ ap (λ (m : Outcome FormantOsc). m.state) f.2 in
    subst Good state (new_good f.0 (passed (rate_ok f.0) 0 number) f.1)

sound_good : (s : FormantOsc) (c : FormantOscControls) → Good s → Fit c → Good (formant_osc_sound_of s c).state
unfolding formant_osc_sound_of
sound_good s c g f =
    record {
      rate = g.rate;
      fit = g.fit;
      phase = wrap_in _ (add-fits binary64 _ _);
      vibrato = wrap_in _ (add-fits binary64 _ _);
      pitch = unfold freq_memo_of pitch_of in recalled1 voct_to_hz_at s.freq_memo g.pitch _ (add-fits binary64 _ _);
      coefs = tick_coherent s c g.coefs f g.fit;
    }

pub tick_good : (c : FormantOscControls) → Fit c → (s : FormantOsc) → Good s → Good (formant_osc_tick_of s c).state
tick_good c f s g = subst (λ (t : Ticked FormantOsc). Good t.state) (sym (tick_sounds s c g)) (sound_good s c g f)

rated_good : (s : FormantOsc) (r : Hertz) → Good s → F64 r.0 → formant_osc_rate_refusal_of s r ≡ 0 → Good (rated s r)
unfolding formant_osc_rate_refusal_of
rated_good s r g f e =
    record {
      rate = passed (rate_ok r) (formant_osc_refusal_of s) e;
      fit = f;
      phase = g.phase;
      vibrato = g.vibrato;
      pitch = g.pitch;
      coefs = g.coefs;
    }

pub after_good : (s : FormantOsc) (c : Call) → Good s → FitCall c → Good (after s c)
unfolding after
after_good s (Tick c) g f = tick_good c f s g
after_good s (Play c t o m) g f = unfold formant_osc_block_of in block_keeps n_ports _ _ _ Good (tick_good c f) s g t o m
after_good s Reset g f = unfold formant_osc_reset_of in made_either Good (formant_osc_refusal_of s) s _ g (rest_good s g)
after_good s (SetSampleRate r) g f = unfold formant_osc_set_sample_rate_of in made_cases (λ m. Good m.state) _ s (rated s r) (rated_good s r g f) g

pub good : {s : FormantOsc} → ReachedFormantOsc s → Good s
good = always Good first_good after_good

-- ---- the promises
pub new_accepts : NewAccepts
unfolding formant_osc_new_of
new_accepts r = (made_number _ _ _, λ ok fit. (r, fit, unfold made_unless in rw ok refl))

pub never_refused : NeverRefused
unfolding reply formant_osc_block_of formant_osc_reset_of formant_osc_set_sample_rate_of
never_refused s h =
    let g = good h in
    let n = unrefused s g in
    record {
      phase = g.phase;
      vibrato_phase = g.vibrato;
      tick = λ c. rw (tick_sounds s c g) (sound_accepted s c);
      play = λ c t o m. block_refusal n_ports _ _ _ s t o m
          ∙ ap (λ (k : ℕ). block_refusal_of (eqb (length o) (n_ports * length m)) k t (length m)) n;
      reset = ap Told (made_number _ _ _ ∙ n);
      rate = λ r. ap Told (made_number _ _ _ ∙ (unfold formant_osc_rate_refusal_of in simp n));
    }
