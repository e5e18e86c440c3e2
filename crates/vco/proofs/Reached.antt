-- A Vco that is reached from new has a good rate, a phase in [0, 1), a good threshold and a coherent memo: so no call refuses but for its own input.
use mathlib.Core.Bool.{true, cond, and-false}
use mathlib.Core.Logic.{inl}
use mathlib.Core.Path.{◌≡◌, refl, sym, ap, ◌∙◌, subst}
use Prim.Native.Nat.{ℕ, ◌*◌}
use lib.Dec.{eqb}
use lib.Ieee.{Float, binary64}
use lib.Ieee.Fits.{add-fits}
use lib.ListN.{length}
use Rattle.answer.proofs.Calls.{made_cases, made_number}
use Rattle.answer.specs.Calls.{Outcome, made_unless}
use Rattle.answer.proofs.Blocks.{block_keeps, block_refusal}
use Rattle.answer.proofs.Laws.{mark_says}
use Rattle.answer.specs.Answer.{accepted}
use Rattle.answer.specs.Block.{block_refusal_of}
use Rattle.common.proofs.EdgeLaws as edge
use Rattle.common.proofs.MemoLaws.{recalled3}
use Rattle.common.proofs.PhaseLaws.{wrap_in, zero_in}
use Rattle.common.specs.Promises.{Coherent3}
use Rattle.common.specs.Tests.{rate_ok, phase_ok, threshold_ok}
use Rattle.common.specs.declared.Hertz.{Hertz}
use Rattle.laws.proofs.Always.{always}
use Rattle.laws.proofs.Tests.{passed, unless_refused}
use Rattle.laws.specs.Float.{zer}
use Rattle.vco.specs.Calls.{Call, Tick, Play, Reset, SetSampleRate, Told, Fit, FitCall, after, reply, First, ReachedVco}
use Rattle.vco.specs.Consts.{n_ports}
use Rattle.vco.proofs.StateLaws.{unrefused}
use Rattle.vco.specs.Promises.{Accepts, NewAccepts, NeverRefused, GateSays, ThresholdKept}
use Rattle.vco.specs.Vco.{new_vco, vco_refusal_of, vco_rate_refusal_of, vco_new_of, frequency_of, vco_answer_of, vco_sound_of, vco_tick_of}
use Rattle.vco.specs.Vco.{vco_block_of}
use Rattle.vco.specs.Vco.{restarted, vco_reset_of, rated, vco_set_sample_rate_of}
use Rattle.vco.specs.declared.Vco.{Vco}
use Rattle.vco.specs.declared.VcoControls.{VcoControls}
use Rattle.answer.specs.declared.Ticked.{Ticked}

-- nothing refuses such a state
pub record Good (s : Vco) : Type 0 where
  pub rate : rate_ok s.sample_rate ≡ true
  pub phase : phase_ok s.phase ≡ true
  pub threshold : threshold_ok s.sync_edge.threshold ≡ true

abbrev pub Remembers : Vco → Type 0
Remembers s = Coherent3 frequency_of s.freq_memo

pub good_unrefused : (s : Vco) → Good s → vco_refusal_of s ≡ 0
unfolding vco_refusal_of
good_unrefused s g = simp (g.rate, g.phase, g.threshold)

-- ---- each call keeps both
good_sound : (s : Vco) → Good s → (c : VcoControls) (wanted : ℕ) → Good (vco_sound_of s c wanted).state
unfolding vco_sound_of
good_sound s g c wanted =
    record {
      rate = g.rate;
      phase = wrap_in _ (add-fits binary64 _ _);
      threshold = rw (edge.threshold_kept s.sync_edge c.sync).crossed g.threshold;
    }

pub tick_sound : (s : Vco) → Good s → (c : VcoControls) (wanted : ℕ) → vco_tick_of s c wanted ≡ vco_sound_of s c wanted
unfolding vco_tick_of
tick_sound s g c wanted = simp (good_unrefused s g)

pub good_new : (r : Hertz) (t : Float) → rate_ok r ≡ true → threshold_ok t ≡ true → Good (new_vco r t)
unfolding new_vco
good_new r t h k = record { rate = h; phase = zero_in; threshold = k }

pub after_tick : (s : Vco) → Good s → (c : VcoControls) (wanted : ℕ) → after s (Tick c wanted) ≡ (vco_sound_of s c wanted).state
unfolding after
after_tick s g c wanted = ap (λ (t : Ticked Vco). t.state) (tick_sound s g c wanted)

pub good_tick : (s : Vco) → Good s → (c : VcoControls) (wanted : ℕ) → Good (vco_tick_of s c wanted).state
good_tick s g c wanted = rw (tick_sound s g c wanted) (good_sound s g c wanted)

remembers_tick : (s : Vco) → Good s → Remembers s → (c : VcoControls) (wanted : ℕ) → Fit c → Remembers (vco_tick_of s c wanted).state
remembers_tick s g h c wanted f =
    rw (tick_sound s g c wanted) (unfold vco_sound_of in recalled3 frequency_of s.freq_memo h c.voct.0 c.fm.0 c.fm_lin f.0 f.1 f.2)

abbrev Both : Vco → Type 0
Both s = Good s × Remembers s

both_tick : (c : VcoControls) (wanted : ℕ) → Fit c → (s : Vco) → Both s → Both (vco_tick_of s c wanted).state
both_tick c wanted f s h = (good_tick s h.0 c wanted, remembers_tick s h.0 h.1 c wanted f)

both_rated : (s : Vco) (r : Hertz) → Both s → vco_rate_refusal_of s r ≡ 0 → Both (rated s r)
unfolding rated vco_rate_refusal_of
both_rated s r h e = (record { rate = passed (rate_ok r) (vco_refusal_of s) e; phase = h.0.phase; threshold = h.0.threshold }, h.1)

both_restarted : (s : Vco) → Both s → Both (restarted s)
unfolding restarted
both_restarted s h =
    (record { rate = h.0.rate; phase = zero_in; threshold = rw (edge.threshold_kept s.sync_edge zer).reset h.0.threshold }, h.1)

both_after : (s : Vco) (c : Call) → Both s → FitCall c → Both (after s c)
unfolding after vco_block_of vco_reset_of vco_set_sample_rate_of
both_after s (Tick c wanted) h f = both_tick c wanted f s h
both_after s (Play c wanted t o m) h f = block_keeps n_ports _ _ _ Both (both_tick c wanted f) s h t o m
both_after s Reset h f = made_cases (λ m. Both m.state) _ s (restarted s) (λ e. both_restarted s h) h
both_after s (SetSampleRate r) h f = made_cases (λ m. Both m.state) (vco_rate_refusal_of s r) s (rated s r) (both_rated s r h) h

new_accepted : (r : Hertz) (t : Float) → vco_refusal_of (new_vco r t) ≡ 0 → (rate_ok r ≡ true) × (threshold_ok t ≡ true)
unfolding new_vco
new_accepted r t h = let a = unrefused (new_vco r t) h in (a.0, a.2)

both_first : (s : Vco) → First s → Both s
unfolding vco_new_of
both_first s f =
    let new = new_vco f.0 f.1 in
    let number = ap (λ (m : Outcome Vco). m.refused) f.2 in
    let a = new_accepted f.0 f.1 (sym (made_number _ new new) ∙ number) in
    let g = good_new f.0 f.1 a.0 a.1 in
    let h : Both new = (g, unfold new_vco in inl refl) in
    subst Both (ap (λ (m : Outcome Vco). m.state) f.2) (made_cases (λ m. Both m.state) _ new new (λ e. h) h)

-- ---- so every state that is reached has both
pub reached : (s : Vco) → ReachedVco s → Good s × Remembers s
reached s h = always Both both_first both_after h

pub accepted_sound : (s : Vco) (c : VcoControls) (wanted : ℕ) → accepted (vco_sound_of s c wanted).answer ≡ true
unfolding vco_sound_of vco_answer_of
accepted_sound s c wanted = (mark_says _ _ _ _ _).is_accepted

pub good_accepts : (s : Vco) → Good s → Accepts s
unfolding reply vco_block_of vco_reset_of vco_set_sample_rate_of
good_accepts s g =
    let n = good_unrefused s g in
    record {
      phase = g.phase;
      threshold = g.threshold;
      five = (edge.threshold_in _ g.threshold).below;
      tick = λ c wanted. rw (tick_sound s g c wanted) (accepted_sound s c wanted);
      play = λ c wanted t o m. block_refusal n_ports _ _ _ s t o m
          ∙ ap (λ (k : ℕ). block_refusal_of (eqb (length o) (n_ports * length m)) k t (length m)) n;
      reset = ap Told (made_number _ _ _ ∙ n);
      rate = λ r. ap Told (made_number _ _ _ ∙ (unfold vco_rate_refusal_of in simp n));
    }

new_refusal : (r : Hertz) (t : Float) → vco_refusal_of (new_vco r t) ≡ cond (rate_ok r) (cond (threshold_ok t) 0 2) 1
unfolding vco_refusal_of new_vco
new_refusal r t = simp zero_in

pub new_accepts : NewAccepts
unfolding vco_new_of
new_accepts r t =
    (made_number _ _ _ ∙ new_refusal r t, λ ok good. (r, t, unfold made_unless in simp (new_refusal r t, ok, good)))

pub never_refused : NeverRefused
never_refused s h = good_accepts s (reached s h).0

-- ---- the gate
pub gate_says : GateSays
unfolding new_vco vco_refusal_of restarted rated
gate_says =
    record {
      new = λ r t. refl;
      asked = λ s ok bad. simp (ok, bad, and-false);
      reset = λ s. (edge.threshold_kept s.sync_edge zer).reset;
      rate = λ s r. refl;
    }

-- the threshold stays
abbrev Keeps : Vco → Vco → Type 0
Keeps s r = r.sync_edge.threshold ≡ s.sync_edge.threshold

tick_keeps : (c : VcoControls) (wanted : ℕ) (s : Vco) → Keeps s (vco_tick_of s c wanted).state
unfolding vco_tick_of vco_sound_of
tick_keeps c wanted s =
    let kept = edge.same_gate (edge.threshold_kept s.sync_edge c.sync).crossed in
    unless_refused (λ (t : Ticked Vco). Keeps s t.state) (vco_refusal_of s) (vco_sound_of s c wanted) _ (λ e. kept) refl

pub threshold_kept : ThresholdKept
unfolding after vco_block_of vco_reset_of vco_set_sample_rate_of
threshold_kept s (Tick c wanted) = tick_keeps c wanted s
threshold_kept s (Play c wanted t o m) = block_keeps n_ports _ _ _ (Keeps s) (λ r h. tick_keeps c wanted r ∙ h) s refl t o m
threshold_kept s Reset =
    made_cases (λ m. Keeps s m.state) _ s (restarted s) (λ e. unfold restarted in edge.same_gate (edge.threshold_kept s.sync_edge zer).reset) refl
threshold_kept s (SetSampleRate r) = made_cases (λ m. Keeps s m.state) _ s (rated s r) (λ e. unfold rated in refl) refl
