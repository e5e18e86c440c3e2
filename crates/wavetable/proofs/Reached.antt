-- What every reached Wavetable has: a good rate, a phase in [0, 1), a good threshold, and a memo that holds what it would compute. So no call
-- refuses it but for what the call is lent.
use mathlib.Core.Bool.{Bool, true, false, cond, and-false}
use mathlib.Core.List.{List}
use mathlib.Core.Logic.{inl}
use mathlib.Core.Path.{◌≡◌, refl, sym, ap, subst, ◌∙◌}
use Prim.Native.Nat.{ℕ, ◌*◌}
use lib.Dec.{eqb}
use lib.Ieee.Fits.{add-fits}
use lib.Ieee.{Float, binary64}
use lib.ListN.{length}
use Rattle.answer.proofs.Calls.{made_cases, made_number}
use Rattle.answer.specs.Calls.{Outcome, made_unless}
use Rattle.answer.proofs.Blocks.{block_keeps, block_refusal}
use Rattle.answer.proofs.Laws.{mark_says}
use Rattle.answer.specs.Answer.{accepted}
use Rattle.answer.specs.Block.{block_refusal_of}
use Rattle.common.proofs.EdgeLaws.{threshold_in}
use Rattle.common.proofs.MemoLaws.{recalled1}
use Rattle.common.proofs.PhaseLaws.{wrap_in, zero_in}
use Rattle.common.specs.Memo.{voct_to_hz_at}
use Rattle.common.specs.Promises.{Coherent1}
use Rattle.common.specs.Tests.{rate_ok, phase_ok, threshold_ok}
use Rattle.laws.proofs.Always.{always}
use Rattle.laws.proofs.Tests.{passed, unless_refused}
use Rattle.wavetable.proofs.Accepted.{unrefused}
use Rattle.wavetable.specs.Calls.{Call, Fit, after, reply, FitCall, First, ReachedWavetable, Tick, Play, Reset, SetSampleRate, Told}
use Rattle.wavetable.specs.Promises.{NewAccepts, NeverRefused, GateSays, ThresholdKept}
use Rattle.wavetable.specs.Consts.{n_ports, bank_size}
use Rattle.wavetable.specs.Wavetable.{new_wavetable, new_like, wavetable_refusal_of, wavetable_tick_refusal_of, wavetable_rate_refusal_of}
use Rattle.wavetable.specs.Wavetable.{wavetable_new_of, wavetable_sound_of, wavetable_tick_of, wavetable_block_of}
use Rattle.wavetable.specs.Wavetable.{restarted, wavetable_reset_of, rated, wavetable_set_sample_rate_of}
use Rattle.answer.specs.declared.Answer.TheVariants as answer
use Rattle.common.specs.declared.Hertz.{Hertz}
use Rattle.wavetable.specs.declared.Wavetable.{Wavetable}
use Rattle.wavetable.specs.declared.WavetableControls.{WavetableControls}
use Rattle.answer.specs.declared.Ticked.{Ticked}

-- ---- a good state
pub record Good (s : Wavetable) : Type 0 where
  pub rate : rate_ok s.sample_rate ≡ true
  pub phase : phase_ok s.phase ≡ true
  pub threshold : threshold_ok s.threshold ≡ true
  pub memo : Coherent1 voct_to_hz_at s.freq_memo

-- ---- a good state is refused for its bank alone
pub good_unrefused : (s : Wavetable) → Good s → wavetable_refusal_of s ≡ 0
unfolding wavetable_refusal_of
good_unrefused s g = simp (g.rate, g.phase, g.threshold)

pub refused_sized : (s : Wavetable) (size : ℕ) → Good s → wavetable_tick_refusal_of s size ≡ cond (eqb size bank_size) 0 4
unfolding wavetable_tick_refusal_of
refused_sized s size g = simp (good_unrefused s g)

-- a tick that sounds where the bank's size is right, and is refused by 4 where it isn't
abbrev sized : Bool → Wavetable → WavetableControls → List Float → Ticked Wavetable
sized b s c bank = cond b (wavetable_sound_of s c bank) (record { answer = answer.Refused 4; state = s })

by_size : (b : Bool) (s : Wavetable) (c : WavetableControls) (bank : List Float)
    → cond (eqb (cond b 0 4) 0) (wavetable_sound_of s c bank) (record { answer = answer.Refused (cond b 0 4); state = s }) ≡ sized b s c bank
by_size true s c bank = refl
by_size false s c bank = refl

tick_sized : (s : Wavetable) (c : WavetableControls) (bank : List Float) → Good s
    → wavetable_tick_of s c bank ≡ sized (eqb (length bank) bank_size) s c bank
unfolding wavetable_tick_of wavetable_tick_refusal_of
tick_sized s c bank g = rw (good_unrefused s g) (by_size (eqb (length bank) bank_size) s c bank)

pub tick_sounds : (s : Wavetable) (c : WavetableControls) (bank : List Float) → Good s
    → eqb (length bank) bank_size ≡ true → wavetable_tick_of s c bank ≡ wavetable_sound_of s c bank
tick_sounds s c bank g e = tick_sized s c bank g ∙ ap (λ (b : Bool). sized b s c bank) e

sound_accepted : (s : Wavetable) (c : WavetableControls) (bank : List Float) → accepted (wavetable_sound_of s c bank).answer ≡ true
unfolding wavetable_sound_of
sound_accepted s c bank = (mark_says _ _ _ _ _).is_accepted

sized_accepted : (b : Bool) (s : Wavetable) (c : WavetableControls) (bank : List Float) → accepted (sized b s c bank).answer ≡ b
sized_accepted true s c bank = sound_accepted s c bank
sized_accepted false s c bank = unfold accepted in refl

pub tick_accepted : (s : Wavetable) (c : WavetableControls) (bank : List Float) → Good s
    → accepted (wavetable_tick_of s c bank).answer ≡ eqb (length bank) bank_size
tick_accepted s c bank g = rw (tick_sized s c bank g) (sized_accepted (eqb (length bank) bank_size) s c bank)

-- ---- it stays good
good_new : (r : Hertz) (t : Float) → rate_ok r ≡ true → threshold_ok t ≡ true → Good (new_wavetable r t)
unfolding new_wavetable
good_new r t h k = record { rate = h; phase = zero_in; threshold = k; memo = inl refl }

pub new_good : (s : Wavetable) → Good s → Good (new_like s)
unfolding new_like
new_good s g = good_new s.sample_rate s.threshold g.rate g.threshold

new_accepted : (r : Hertz) (t : Float) → wavetable_refusal_of (new_wavetable r t) ≡ 0 → (rate_ok r ≡ true) × (threshold_ok t ≡ true)
unfolding new_wavetable
new_accepted r t h = let a = unrefused (new_wavetable r t) h in (a.0, a.2)

first_good : (s : Wavetable) → First s → Good s
unfolding wavetable_new_of
first_good s f =
    let new = new_wavetable f.0 f.1 in
    let number = ap (λ (m : Outcome Wavetable). m.refused) f.2 in
    let a = new_accepted f.0 f.1 (sym (made_number _ new new) ∙ number) in
    let g = good_new f.0 f.1 a.0 a.1 in
    subst Good (ap (λ (m : Outcome Wavetable). m.state) f.2) (made_cases (λ m. Good m.state) _ new new (λ e. g) g)

sound_good : (s : Wavetable) (c : WavetableControls) (bank : List Float) → Good s → Fit c → Good (wavetable_sound_of s c bank).state
unfolding wavetable_sound_of
sound_good s c bank g f =
    record {
      rate = g.rate;
      phase = wrap_in _ (add-fits binary64 _ _);
      threshold = g.threshold;
      memo = recalled1 voct_to_hz_at s.freq_memo g.memo c.v_oct.0 f;
    }

sized_good : (b : Bool) (s : Wavetable) (c : WavetableControls) (bank : List Float) → Good s → Fit c → Good (sized b s c bank).state
sized_good true s c bank g f = sound_good s c bank g f
sized_good false s c bank g f = g

tick_good : (c : WavetableControls) (bank : List Float) → Fit c → (s : Wavetable) → Good s → Good (wavetable_tick_of s c bank).state
tick_good c bank f s g =
    subst (λ (t : Ticked Wavetable). Good t.state) (sym (tick_sized s c bank g)) (sized_good (eqb (length bank) bank_size) s c bank g f)

restarted_good : (s : Wavetable) → Good s → Good (restarted s)
unfolding restarted
restarted_good s g = record { rate = g.rate; phase = zero_in; threshold = g.threshold; memo = g.memo }

rated_good : (s : Wavetable) (r : Hertz) → Good s → wavetable_rate_refusal_of s r ≡ 0 → Good (rated s r)
unfolding rated wavetable_rate_refusal_of
rated_good s r g e = record { rate = passed (rate_ok r) (wavetable_refusal_of s) e; phase = g.phase; threshold = g.threshold; memo = g.memo }

after_good : (s : Wavetable) (c : Call) → Good s → FitCall c → Good (after s c)
unfolding after wavetable_block_of wavetable_reset_of wavetable_set_sample_rate_of
after_good s (Tick c bank) g f = tick_good c bank f s g
after_good s (Play c t bank o m) g f = block_keeps n_ports _ _ _ Good (tick_good c bank f) s g t o m
after_good s Reset g f = made_cases (λ m. Good m.state) _ s (restarted s) (λ e. restarted_good s g) g
after_good s (SetSampleRate r) g f = made_cases (λ m. Good m.state) (wavetable_rate_refusal_of s r) s (rated s r) (rated_good s r g) g

pub good : {s : Wavetable} → ReachedWavetable s → Good s
good = always Good first_good after_good

-- ---- the promises
new_refusal : (r : Hertz) (t : Float) → wavetable_refusal_of (new_wavetable r t) ≡ cond (rate_ok r) (cond (threshold_ok t) 0 2) 1
unfolding wavetable_refusal_of new_wavetable
new_refusal r t = simp zero_in

pub new_accepts : NewAccepts
unfolding wavetable_new_of
new_accepts r t =
    (made_number _ _ _ ∙ new_refusal r t, λ ok good. (r, t, unfold made_unless in simp (new_refusal r t, ok, good)))

pub never_refused : NeverRefused
unfolding reply wavetable_block_of wavetable_reset_of wavetable_set_sample_rate_of
never_refused s h =
    let g = good h in
    let n = good_unrefused s g in
    record {
      phase = g.phase;
      threshold = g.threshold;
      five = (threshold_in _ g.threshold).below;
      tick = λ c bank. tick_accepted s c bank g;
      play =
          λ c t bank o m.
          block_refusal n_ports _ _ _ s t o m
          ∙ ap (λ (n : ℕ). block_refusal_of (eqb (length o) (n_ports * length m)) n t (length m)) (refused_sized s (length bank) g);
      reset = ap Told (made_number _ _ _ ∙ n);
      rate = λ r. ap Told (made_number _ _ _ ∙ (unfold wavetable_rate_refusal_of in simp n));
    }

-- ---- the gate
pub gate_says : GateSays
unfolding new_wavetable wavetable_refusal_of restarted rated
gate_says = record { new = λ r t. refl; asked = λ s ok bad. simp (ok, bad, and-false); reset = λ s. refl; rate = λ s r. refl }

-- the threshold stays
abbrev Keeps : Wavetable → Wavetable → Type 0
Keeps s r = r.threshold ≡ s.threshold

tick_keeps : (c : WavetableControls) (bank : List Float) (s : Wavetable) → Keeps s (wavetable_tick_of s c bank).state
unfolding wavetable_tick_of wavetable_sound_of
tick_keeps c bank s =
    unless_refused (λ (t : Ticked Wavetable). Keeps s t.state) (wavetable_tick_refusal_of s (length bank)) (wavetable_sound_of s c bank) _ (λ e. refl) refl

pub threshold_kept : ThresholdKept
unfolding after wavetable_block_of wavetable_reset_of wavetable_set_sample_rate_of
threshold_kept s (Tick c bank) = tick_keeps c bank s
threshold_kept s (Play c t bank o m) = block_keeps n_ports _ _ _ (Keeps s) (λ r h. tick_keeps c bank r ∙ h) s refl t o m
threshold_kept s Reset = made_cases (λ m. Keeps s m.state) _ s (restarted s) (λ e. unfold restarted in refl) refl
threshold_kept s (SetSampleRate r) = made_cases (λ m. Keeps s m.state) _ s (rated s r) (λ e. unfold rated in refl) refl
