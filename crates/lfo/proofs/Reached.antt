-- What every reached Lfo has: a good rate, a phase in [0, 1), a good threshold, and a memo that holds what it would compute. So no call refuses it.
use mathlib.Core.Bool.{true, cond, and-false}
use mathlib.Core.Logic.{inl}
use mathlib.Core.Path.{◌≡◌, refl, sym, ap, ◌∙◌, subst}
use Prim.Native.Nat.{ℕ, ◌*◌}
use lib.Dec.{eqb}
use lib.Ieee.{Float, binary64}
use lib.Ieee.Fits.{add-fits}
use lib.ListN.{length}
use Rattle.answer.proofs.Blocks.{block_keeps, block_refusal}
use Rattle.answer.proofs.Laws.{mark_says}
use Rattle.answer.specs.Answer.{accepted}
use Rattle.answer.specs.Block.{block_refusal_of}
use Rattle.answer.proofs.Calls.{made_cases, made_number}
use Rattle.answer.specs.Calls.{Outcome, made_unless}
use Rattle.common.proofs.EdgeLaws as edge
use Rattle.common.proofs.MemoLaws.{recalled1}
use Rattle.common.proofs.PhaseLaws.{wrap_in, zero_in}
use Rattle.common.specs.Promises.{Coherent1}
use Rattle.common.specs.Tests.{rate_ok, phase_ok, threshold_ok}
use Rattle.common.specs.declared.Hertz.{Hertz}
use Rattle.laws.proofs.Always.{always}
use Rattle.laws.proofs.Tests.{passed, unless_refused}
use Rattle.laws.specs.Float.{zer}
use Rattle.lfo.proofs.Accepted.{accepts, sounds}
use Rattle.lfo.specs.Calls.{Call, Tick, Play, Reset, SetSampleRate, Told, Fit, FitCall, after, reply, First, ReachedLfo}
use Rattle.lfo.specs.Consts.{n_ports}
use Rattle.lfo.specs.Lfo.{new_lfo, lfo_refusal_of, lfo_rate_refusal_of, lfo_new_of, lfo_sound_of, lfo_tick_of, lfo_block_of, restarted}
use Rattle.lfo.specs.Lfo.{lfo_reset_of}
use Rattle.lfo.specs.Lfo.{rated, lfo_set_sample_rate_of}
use Rattle.lfo.specs.Promises.{NewAccepts, NeverRefused, GateSays, ThresholdKept}
use Rattle.lfo.specs.Waves.{rate_to_hz}
use Rattle.lfo.specs.declared.Lfo.{Lfo}
use Rattle.lfo.specs.declared.LfoControls.{LfoControls}
use Rattle.answer.specs.declared.Ticked.{Ticked}

-- ---- a good state
pub record Good (s : Lfo) : Type 0 where
  pub rate : rate_ok s.sample_rate ≡ true
  pub phase : phase_ok s.phase ≡ true
  pub threshold : threshold_ok s.reset_edge.threshold ≡ true
  pub memo : Coherent1 rate_to_hz s.freq_memo

-- ---- a good state is refused by nothing
pub unrefused : (s : Lfo) → Good s → lfo_refusal_of s ≡ 0
unfolding lfo_refusal_of
unrefused s g = simp (g.rate, g.phase, g.threshold)

pub tick_sounds : (s : Lfo) (c : LfoControls) (w : ℕ) → Good s → lfo_tick_of s c w ≡ lfo_sound_of s c w
tick_sounds s c w g = sounds s c w (unrefused s g)

pub sound_accepted : (s : Lfo) (c : LfoControls) (w : ℕ) → accepted (lfo_sound_of s c w).answer ≡ true
unfolding lfo_sound_of
sound_accepted s c w = (mark_says _ _ _ _ _).is_accepted

-- ---- it stays good
pub good_new : (r : Hertz) (t : Float) → rate_ok r ≡ true → threshold_ok t ≡ true → Good (new_lfo r t)
unfolding new_lfo
good_new r t h k = record { rate = h; phase = zero_in; threshold = k; memo = inl refl }

new_accepted : (r : Hertz) (t : Float) → lfo_refusal_of (new_lfo r t) ≡ 0 → (rate_ok r ≡ true) × (threshold_ok t ≡ true)
unfolding new_lfo
new_accepted r t h = let a = accepts (new_lfo r t) h in (a.0, a.2)

first_good : (s : Lfo) → First s → Good s
unfolding lfo_new_of
first_good s f =
    let new = new_lfo f.0 f.1 in
    let number = ap (λ (m : Outcome Lfo). m.refused) f.2 in
    let a = new_accepted f.0 f.1 (sym (made_number _ new new) ∙ number) in
    let g = good_new f.0 f.1 a.0 a.1 in
    subst Good (ap (λ (m : Outcome Lfo). m.state) f.2) (made_cases (λ m. Good m.state) _ new new (λ e. g) g)

sound_good : (s : Lfo) (c : LfoControls) (w : ℕ) → Good s → Fit c → Good (lfo_sound_of s c w).state
unfolding lfo_sound_of
sound_good s c w g f =
    record {
      rate = g.rate;
      phase = wrap_in _ (add-fits binary64 _ _);
      threshold = rw (edge.threshold_kept s.reset_edge c.reset).rising g.threshold;
      memo = recalled1 rate_to_hz s.freq_memo g.memo c.rate f;
    }

tick_good : (s : Lfo) (c : LfoControls) (w : ℕ) → Good s → Fit c → Good (lfo_tick_of s c w).state
tick_good s c w g f = subst (λ (t : Ticked Lfo). Good t.state) (sym (tick_sounds s c w g)) (sound_good s c w g f)

rated_good : (s : Lfo) (r : Hertz) → Good s → lfo_rate_refusal_of s r ≡ 0 → Good (rated s r)
unfolding rated lfo_rate_refusal_of
rated_good s r g e = record { rate = passed (rate_ok r) (lfo_refusal_of s) e; phase = g.phase; threshold = g.threshold; memo = g.memo }

restarted_good : (s : Lfo) → Good s → Good (restarted s)
unfolding restarted
restarted_good s g =
    record { rate = g.rate; phase = zero_in; threshold = rw (edge.threshold_kept s.reset_edge zer).reset g.threshold; memo = g.memo }

after_good : (s : Lfo) (c : Call) → Good s → FitCall c → Good (after s c)
unfolding after lfo_block_of lfo_reset_of lfo_set_sample_rate_of
after_good s (Tick c w) g f = tick_good s c w g f
after_good s (Play c w t o m) g f = block_keeps n_ports _ _ _ Good (λ r h. tick_good r c w h f) s g t o m
after_good s Reset g f = made_cases (λ m. Good m.state) _ s (restarted s) (λ e. restarted_good s g) g
after_good s (SetSampleRate r) g f = made_cases (λ m. Good m.state) (lfo_rate_refusal_of s r) s (rated s r) (rated_good s r g) g

pub good : {s : Lfo} → ReachedLfo s → Good s
good = always Good first_good after_good

-- ---- the promises
new_refusal : (r : Hertz) (t : Float) → lfo_refusal_of (new_lfo r t) ≡ cond (rate_ok r) (cond (threshold_ok t) 0 2) 1
unfolding lfo_refusal_of new_lfo
new_refusal r t = simp zero_in

pub new_accepts : NewAccepts
unfolding lfo_new_of
new_accepts r t =
    (made_number _ _ _ ∙ new_refusal r t, λ ok good. (r, t, unfold made_unless in simp (new_refusal r t, ok, good)))

pub never_refused : NeverRefused
unfolding reply lfo_block_of lfo_reset_of lfo_set_sample_rate_of
never_refused s h =
    let g = good h in
    let n = unrefused s g in
    record {
      phase = g.phase;
      threshold = g.threshold;
      five = (edge.threshold_in _ g.threshold).below;
      tick = λ c w. rw (tick_sounds s c w g) (sound_accepted s c w);
      play = λ c w t o m. block_refusal n_ports _ _ _ s t o m
          ∙ ap (λ (k : ℕ). block_refusal_of (eqb (length o) (n_ports * length m)) k t (length m)) n;
      reset = ap Told (made_number _ _ _ ∙ n);
      rate = λ r. ap Told (made_number _ _ _ ∙ (unfold lfo_rate_refusal_of in simp n));
    }

-- ---- the gate
pub gate_says : GateSays
unfolding new_lfo lfo_refusal_of restarted rated
gate_says =
    record {
      new = λ r t. refl;
      asked = λ s ok bad. simp (ok, bad, and-false);
      reset = λ s. (edge.threshold_kept s.reset_edge zer).reset;
      rate = λ s r. refl;
    }

-- the threshold stays
abbrev Keeps : Lfo → Lfo → Type 0
Keeps s r = r.reset_edge.threshold ≡ s.reset_edge.threshold

tick_keeps : (c : LfoControls) (w : ℕ) (s : Lfo) → Keeps s (lfo_tick_of s c w).state
unfolding lfo_tick_of lfo_sound_of
tick_keeps c w s =
    let kept = edge.same_gate (edge.threshold_kept s.reset_edge c.reset).rising in
    unless_refused (λ (t : Ticked Lfo). Keeps s t.state) (lfo_refusal_of s) (lfo_sound_of s c w) _ (λ e. kept) refl

pub threshold_kept : ThresholdKept
unfolding after lfo_block_of lfo_reset_of lfo_set_sample_rate_of
threshold_kept s (Tick c w) = tick_keeps c w s
threshold_kept s (Play c w t o m) = block_keeps n_ports _ _ _ (Keeps s) (λ r h. tick_keeps c w r ∙ h) s refl t o m
threshold_kept s Reset =
    made_cases (λ m. Keeps s m.state) _ s (restarted s) (λ e. unfold restarted in edge.same_gate (edge.threshold_kept s.reset_edge zer).reset) refl
threshold_kept s (SetSampleRate r) = made_cases (λ m. Keeps s m.state) _ s (rated s r) (λ e. unfold rated in refl) refl
